-- The machines' small functions, each by the cases of its test.
-- Assumes nothing.
use mathlib.Core.Path.{◌≡◌, refl, sym, ap}
use mathlib.Core.Logic.{◌⊎◌, inl, inr, ◌≢◌}
use mathlib.Core.Bool.{Bool, true, false, ◌&&◌, false≢true}
use Prim.Native.Nat.{ℕ, zero, suc, ◌<◌, ◌≤◌}
use native.Mathlib.Nat.{le_refl}
use native.Mathlib.Decide.{ℕ_discrete, dec_lt}
use native.Mathlib.Omega.{arith}
use borrow.Author.Tests.{eq-eqb, ne_eqb, lt-ltb, le-ltb}
use Rattle.order.specs.Order.{Event, idle, mark, send, receipt}
use Rattle.machine.specs.Machine.{put, Entry, absent, present, meet, take_count}
use Rattle.machine.specs.Short.{offer}

-- an entry that is not there is none that is
pub absent_present : {A : Type 0} {c : ℕ} {x : Bool} → absent ≡ present c x → A
absent_present h = absurd (false≢true (cc))

-- ---- events of different kinds

abbrev pub kind : Event → ℕ
kind (idle i) = 0
kind (mark i) = 1
kind (send i j m) = 2
kind (receipt j m) = 3

pub differ : {e f : Event} → kind e ≢ kind f → e ≢ f
differ h q = h (ap kind q)

-- ---- a function with one value put in

pub put_same : {A : Type 0} (i : ℕ) (a : A) (f : ℕ → A) → put i a f i ≡ a
unfolding put
put_same i a f = rw (eq-eqb i i refl)

pub put_other : {A : Type 0} (i : ℕ) (a : A) (f : ℕ → A) (j : ℕ) → i ≢ j → put i a f j ≡ f j
unfolding put
put_other i a f j h = rw (ne_eqb i j h)

-- of two functions with values put in at one place: what holds of the values put in, and of the other values
pub put_both : {A B : Type 0} (P : A → B → Type 0) (i : ℕ) (a : A) (f : ℕ → A) (b : B) (g : ℕ → B) (j : ℕ)
    → (i ≡ j → P a b) → (i ≢ j → P (f j) (g j)) → P (put i a f j) (put i b g j)
put_both P i a f b g j same other = go (ℕ_discrete i j)
  where
    go : Dec (i ≡ j) → P (put i a f j) (put i b g j)
    go (yes h) = rw (← h, put_same i a f, put_same i b g) (same h)
    go (no h) = rw (put_other i a f j h, put_other i b g j h) (other h)

-- and of one function
pub put_cases : {A : Type 0} (P : A → Type 0) (i : ℕ) (a : A) (f : ℕ → A) (j : ℕ) → (i ≡ j → P a) → (i ≢ j → P (f j)) → P (put i a f j)
put_cases P i a f j = put_both (λ x y. P x) i a f a f j

-- and the way back
pub put_inverse : {A B : Type 0} (P : A → Type 0) (i : ℕ) (a : A) (f : ℕ → A) (j : ℕ) → (i ≡ j → P a → B) → (i ≢ j → P (f j) → B) → P (put i a f j) → B
put_inverse {B = B} P i a f j = put_cases (λ b. P b → B) i a f j

-- ---- two counts that meet

-- which of the three cases `meet` is in
pub data Meets (c : ℕ) (x : Bool) (d : ℕ) (y : Bool) : Type 0 where
  larger : c < d → meet c x d y ≡ y → Meets c x d y
  smaller : d < c → meet c x d y ≡ x → Meets c x d y
  equal : c ≡ d → meet c x d y ≡ x && y → Meets c x d y

pub meets : (c : ℕ) (x : Bool) (d : ℕ) (y : Bool) → Meets c x d y
unfolding meet
meets c x d y = go (dec_lt c d) (dec_lt d c)
  where
    go : Dec (c < d) → Dec (d < c) → Meets c x d y
    go (yes h) e = larger h (rw (lt-ltb c d h))
    go (no h) (yes l) = smaller l (rw (le-ltb c d (omega arith), lt-ltb d c l))
    go (no h) (no l) = equal (omega arith) (rw (le-ltb c d (omega arith), le-ltb d c (omega arith)))

-- a receipt lowers no count
pub take_rises : (c : ℕ) (x : Entry) → c ≤ take_count c x
unfolding take_count
take_rises c absent = le_refl _
take_rises c (present d y) = omega arith

-- ---- the entry that is offered

pub offer_cases : (c : ℕ) (x spared : Bool) → (offer c x spared ≡ absent) ⊎ (offer c x spared ≡ present c x)
unfolding offer
offer_cases zero x spared = inl refl
offer_cases (suc c) x true = inl refl
offer_cases (suc c) x false = inr refl

pub offer_absent : (c : ℕ) (x spared : Bool) → offer c x spared ≡ absent → (c ≡ 0) ⊎ (spared ≡ true)
unfolding offer
offer_absent zero x spared h = inl refl
offer_absent (suc c) x true h = inr refl
offer_absent (suc c) x false h = absent_present (sym h)

pub offer_present : (c : ℕ) (x spared : Bool) {d : ℕ} {y : Bool} → offer c x spared ≡ present d y → (c ≡ d) × (x ≡ y) × (0 < d) × (spared ≡ false)
unfolding offer
offer_present zero x spared h = absent_present h
offer_present (suc c) x true h = absent_present h
offer_present (suc c) x false {d} h = let e : suc c ≡ d = cc in (e, cc, omega arith, refl)

pub offer_kept : (c : ℕ) (x : Bool) → 0 < c → offer c x false ≡ present c x
unfolding offer
offer_kept zero x h = absurd (omega arith)
offer_kept (suc c) x h = refl
