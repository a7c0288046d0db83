-- The elements of a letter in the mail: each is fixed by what went along, with full messages the sender's count and flag, with short ones
-- what was due. By the cases of the element, since a count and its flag can be read off it.
-- Assumes nothing.
use mathlib.Core.Path.{◌≡◌, refl, sym, ◌∙◌, ap₂}
use mathlib.Core.Logic.{◌↔◌}
use mathlib.Core.Bool.{Bool, true, false}
use mathlib.Core.List.{List, [], ◌∷◌, ◌++◌}
use Prim.Native.Nat.{ℕ, zero, suc, ◌<◌}
use native.Mathlib.Omega.{arith}
use lib.ListN.{length}
use Rattle.order.specs.Order.{Event, send, Flying, Sound}
use Rattle.order.proofs.Growing.{sound_cut}
use Rattle.machine.specs.Machine.{Entry, absent, present, full}
use Rattle.machine.specs.Short.{columns}
use Rattle.machine.specs.History.{Due}
use Rattle.machine.proofs.Small.{absent_present}
use Rattle.machine.proofs.Full.{faithful}
use Rattle.machine.proofs.Honest.{clear}
use Rattle.cells.specs.Cells.{code_of}
use Rattle.room.specs.declared.Mode.{Mode}
use Rattle.room.specs.declared.Mode.TheVariants.{Full, Short}
use Rattle.room.specs.Modes.{GoesAlong}
use Rattle.room.specs.Room.{barn}
use Rattle.room.proofs.BothModes.{flight_goes}
use Rattle.demands.specs.Demands.{element_of, Element, element_carried, element_absent}

-- what goes along in either mode is the sender's count and flag, and above zero
goes_facts : (mode : Mode) (past : List Event) (i j k c : ℕ) (x : Bool) → GoesAlong mode past i j k c x
    → (c ≡ (full past).count i k) × (x ≡ (full past).flag i k) × (0 < c)
goes_facts Full past i j k c x g = g
goes_facts Short past i j k c x g = (g.0, g.1, g.2)

-- an element tells its count and its flag
element_parts : (d c : ℕ) (y x : Bool) → element_of d y ≡ element_of c x → (d ≡ c) × (y ≡ x)
element_parts d c true true h = (omega arith, refl)
element_parts d c false false h = (omega arith, refl)
element_parts d c true false h = absurd (omega arith)
element_parts d c false true h = absurd (omega arith)

-- ---- an element of a letter

-- a letter's entry, where it holds what goes along
pub element_of_lem : {mode : Mode} {past : List Event} {i j k : ℕ} {e : Entry} → ((c : ℕ) (x : Bool) → (e ≡ present c x) ↔ GoesAlong mode past i j k c x)
    → (y : Entry) → e ≡ y → Element mode past i j k (code_of y)
element_of_lem rule absent e = element_absent (λ c x g. absent_present (sym e ∙ (rule c x).1 g))
element_of_lem rule (present c x) e = element_carried c x ((rule c x).0 e)

-- what was sent fixes it
pub element_one : {mode : Mode} {past : List Event} {i j k v w : ℕ} → Element mode past i j k v → Element mode past i j k w → v ≡ w
element_one {mode} {past} {i} {j} {k} (element_carried c x g) (element_carried d y h) =
    let one = goes_facts mode past i j k c x g in
    let other = goes_facts mode past i j k d y h in
    ap₂ element_of (one.0 ∙ sym other.0) (one.1 ∙ sym other.1)
element_one (element_carried c x g) (element_absent none) = absurd (none c x g)
element_one (element_absent none) (element_carried d y h) = absurd (none d y h)
element_one (element_absent none) (element_absent other) = refl

-- with full messages it is the sender's count and flag, since the flag of a count of zero is clear
pub element_full : {n : ℕ} {past : List Event} {i j k v : ℕ} → Sound n past → Element Full past i j k v → v ≡ element_of ((full past).count i k) ((full past).flag i k)
element_full ok (element_carried c x g) = ap₂ element_of g.0 g.1
element_full {past = past} {i} {j} {k} ok (element_absent none) = go ((full past).count i k) refl
  where
    go : (c : ℕ) → (full past).count i k ≡ c → 0 ≡ element_of ((full past).count i k) ((full past).flag i k)
    go zero e = rw (e, clear (faithful ok) i k e)
    go (suc c) e = absurd (none (suc c) ((full past).flag i k) (sym e, refl, omega arith))

-- with short ones a count with its flag if that was due, and 0 if nothing was
pub element_due : {past : List Event} {i j k v : ℕ} → Element Short past i j k v
    → ((c : ℕ) (x : Bool) → ((0 < c) × (v ≡ element_of c x)) ↔ Due columns past i j k c x) × ((v ≡ 0) ↔ ((c : ℕ) (x : Bool) → ¬ Due columns past i j k c x))
element_due (element_carried c x g) = (
  λ d y. (
    λ h. let same = element_parts c d x y h.1 in rw (same.0, same.1) at g,
    λ h. (h.2, ap₂ element_of (g.0 ∙ sym h.0) (g.1 ∙ sym h.1)),
  ),
  (λ z. absurd (omega (arith, g.2)), λ none. absurd (none c x g)),
)
element_due (element_absent none) = (λ d y. (λ h. absurd (omega (arith, h.0, h.1)), λ h. absurd (none d y h)), (λ z. none, λ z. refl))

-- ---- a letter in flight

-- it holds what went along when it was sent
pub flight_holds : (mode : Mode) {n : ℕ} {cut : List Event} (later past : List Event) {m i j : ℕ} → cut ≡ later ++ (send i j m ∷ past) → Sound n cut
    → Flying m i j cut (length past) → (k c : ℕ) (x : Bool) → (((barn mode cut).state.letter m).entry k ≡ present c x) ↔ GoesAlong mode past i j k c x
flight_holds mode later past parts ok flies k c x = rw parts (flight_goes mode later past (rw parts at ok) (rw parts at flies) k c x)

-- and what was sent before it is sound
pub past_sound : {n : ℕ} {cut : List Event} (later past : List Event) (i j m : ℕ) → cut ≡ later ++ (send i j m ∷ past) → Sound n cut → Sound n past
past_sound later past i j m parts ok = sound_cut (send i j m ∷ []) (sound_cut later (rw parts at ok))
