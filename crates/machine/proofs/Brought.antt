-- A bit of a column is set exactly if that node has brought that very count, of the messages received: by induction on the
-- cut, since a receipt never leaves less than it brings. So the columns are honest.
-- Assumes nothing.
use mathlib.Core.Path.{◌≡◌, refl, sym, ◌∙◌}
use mathlib.Core.Logic.{◌⊎◌, inl, inr, ◌≢◌, ⊎_elim, ◌↔◌}
use mathlib.Core.Bool.{Bool, true, false, false≢true, and-eq-true_iff}
use mathlib.Core.List.{List, [], ◌∷◌}
use Prim.Native.Nat.{ℕ, suc, ◌<◌, ◌≤◌, max}
use native.Mathlib.Decide.{dec_lt}
use native.Mathlib.Omega.{arith}
use borrow.Author.Tests.{lt-ltb, le-ltb}
use Rattle.order.specs.Order.{Event, idle, mark, send, receipt, Flying, Sound, sound_nil, sound_cons, Allowed}
use Rattle.order.proofs.Places.{flying_unique}
use Rattle.machine.specs.Machine.{put, Entry, absent, present, State, marked, take_count, received, step}
use Rattle.machine.specs.Short.{Knowledge, brief, short, Columns, note, learn_columns, noting, columns}
use Rattle.machine.specs.History.{Carries, Brought, brought_now, brought_once}
use Rattle.machine.proofs.Small.{differ, absent_present, put_same, put_both, put_cases, put_inverse}
use Rattle.machine.proofs.Honest.{Honest, rises}
use Rattle.machine.proofs.Letters.{truthful}

-- ---- what is brought is had, by both

pub brought_none : {K : Knowledge} {i j k c : ℕ} → ¬ Brought K i j k c []
brought_none b = elim b [ ]

pub brought_cases : {K : Knowledge} {i j k c : ℕ} {e : Event} {past : List Event} → Brought K i j k c (e ∷ past)
    → Brought K i j k c past ⊎ ((m p : ℕ) × (e ≡ receipt i m) × Flying m j i past p × Carries K past m k c)
brought_cases (brought_now f h) = inr (_, _, refl, f, h)
brought_cases (brought_once b) = inl b

-- the receiver has the count, or a larger one
pub brought_had : {K : Knowledge} {i j k c : ℕ} {es : List Event} → Brought K i j k c es → c ≤ (short K es).state.count i k
unfolding short step received take_count
brought_had {K} {i} {k = k} (brought_now {past = past} {m = m} f h) =
    let s = (short K past).state in
    rw (put_same i (λ k. take_count (s.count i k) ((s.letter m).entry k)) s.count, h.1) (omega arith)
brought_had {K} {i} {k = k} (brought_once {e = e} {past = past} b) =
    let s = short K past in
    omega (arith, brought_had b, rises (brief s) e s.state i k)

-- so has the sender
pub brought_from : {K : Knowledge} {i j k c : ℕ} {es : List Event} → Brought K i j k c es → c ≤ (short K es).state.count j k
unfolding short
brought_from {K} {i} {j} {k} {c} (brought_now {past = past} {m = m} {p = p} f h) =
    let s = short K past in
    omega (arith, (truthful K past m j i p f).1 k c h.0 h.1, rises (brief s) (receipt i m) s.state j k)
brought_from {K} {j = j} {k = k} (brought_once {e = e} {past = past} b) =
    let s = short K past in
    omega (arith, brought_from b, rises (brief s) e s.state j k)

-- ---- the columns, whatever is spared

module _ (spares : State → Columns → ℕ → ℕ → ℕ → Bool) where
  abbrev K : Knowledge
  K = noting spares

  -- the bits say just what was brought
  abbrev Exact : List Event → State → Columns → Type 0
  Exact es s held = (i j k : ℕ) → (held i k j ≡ true) ↔ Brought K i j k (s.count i k) es

  -- an event that is no receipt of i brings i nothing
  brought_quiet : {i j k c : ℕ} {e : Event} {past : List Event} → ((m : ℕ) → e ≢ receipt i m) → Brought K i j k c past ↔ Brought K i j k c (e ∷ past)
  brought_quiet quiet = (brought_once, λ b. ⊎_elim (λ o. o) (λ n. absurd (quiet n.0 n.2)) (brought_cases b))

  -- a bit stays exact where bit and count stay and nothing is brought
  exact_quiet : {i j k c : ℕ} {x : Bool} {e : Event} {past : List Event} → ((m : ℕ) → e ≢ receipt i m)
      → (x ≡ true) ↔ Brought K i j k c past → (x ≡ true) ↔ Brought K i j k c (e ∷ past)
  exact_quiet quiet h = let b = brought_quiet quiet in (λ e. b.0 (h.0 e), λ o. h.1 (b.1 o))

  module _ (past : List Event) where
    abbrev s : State
    s = (short K past).state

    abbrev held : Columns
    held = (short K past).held

    exact_mark : Exact past s held → (a : ℕ) → Exact (mark a ∷ past) (marked a s) (learn_columns (mark a) s held)
    unfolding marked learn_columns
    exact_mark t a i j k =
        put_both (λ (q : ℕ → ℕ → Bool) (r : ℕ → ℕ). (q k j ≡ true) ↔ Brought K i j k (r k) (mark a ∷ past)) a
        (put a (λ j. false) (held a)) held (put a (suc (s.count a a)) (s.count a)) s.count i
        (λ x. rw (← x) mine) (λ x. exact_quiet quiet (t i j k))
      where
        quiet : {i : ℕ} → (m : ℕ) → mark a ≢ receipt i m
        quiet m = differ (λ z. omega arith)

        none : ¬ Brought K a j a (suc (s.count a a)) (mark a ∷ past)
        none b = let h = brought_had ((brought_quiet quiet).1 b) in omega arith

        mine : (put a (λ j. false) (held a) k j ≡ true) ↔ Brought K a j k (put a (suc (s.count a a)) (s.count a) k) (mark a ∷ past)
        mine =
            put_both (λ (q : ℕ → Bool) (c : ℕ). (q j ≡ true) ↔ Brought K a j k c (mark a ∷ past)) a
            (λ j. false) (held a) (suc (s.count a a)) (s.count a) k
            (λ y. (λ h. absurd (false≢true h), λ b. absurd (none (rw (← y) at b)))) (λ y. exact_quiet quiet (t a j k))

    module _ (t : Exact past s held) (b m o p : ℕ) (f : Flying m o b past p) (j k : ℕ) where
      -- what b has been brought after the receipt: as before, or by this letter's sender
      brought_then : {c : ℕ} → Brought K b j k c (receipt b m ∷ past) → Brought K b j k c past ⊎ ((o ≡ j) × Carries K past m k c)
      brought_then {c} h = ⊎_elim (λ h. inl h) (λ n. inr (now n)) (brought_cases h)
        where
          now : (l q : ℕ) × (receipt b m ≡ receipt b l) × Flying l j b past q × Carries K past l k c → (o ≡ j) × Carries K past m k c
          now (l, q, e, g, h) =
              let z : m ≡ l = cc in
              ((flying_unique f (rw (← z) at g)).0, rw (← z) at h)

      -- the letter's entry
      abbrev x : Entry
      x = (s.letter m).entry k

      abbrev Noted : Entry → Type 0
      Noted y = (note o (s.count b k) y (held b k) j ≡ true) ↔ Brought K b j k (take_count (s.count b k) y) (receipt b m ∷ past)

      noted_absent : x ≡ absent → Noted absent
      unfolding note take_count
      noted_absent e = (
        λ h. brought_once ((t b j k).0 h),
        λ h. ⊎_elim (λ h. (t b j k).1 h) (λ n. absent_present (sym e ∙ n.1.1)) (brought_then h),
      )

      module _ (d : ℕ) (y : Bool) (e : x ≡ present d y) where
        now : o ≡ j → Brought K b j k d (receipt b m ∷ past)
        now q = brought_now (rw q at f) (y, e)

        noted_larger : s.count b k < d → (put o true (λ l. false) j ≡ true) ↔ Brought K b j k d (receipt b m ∷ past)
        noted_larger l = (
          put_inverse (λ z. z ≡ true) o true (λ l. false) j (λ q h. now q) (λ q h. absurd (false≢true h)),
          λ h. ⊎_elim (λ h. let z = brought_had h in absurd (omega arith)) (λ n. put_cases (λ z. z ≡ true) o true (λ l. false) j (λ q. refl) (λ q. absurd (q n.0))) (brought_then h),
        )

        noted_smaller : d < s.count b k → (held b k j ≡ true) ↔ Brought K b j k (s.count b k) (receipt b m ∷ past)
        noted_smaller l = (
          λ h. brought_once ((t b j k).0 h),
          λ h. ⊎_elim (λ h. (t b j k).1 h) (λ n. let z : d ≡ s.count b k = cc in absurd (omega arith)) (brought_then h),
        )

        noted_equal : s.count b k ≡ d → (put o true (held b k) j ≡ true) ↔ Brought K b j k (s.count b k) (receipt b m ∷ past)
        noted_equal l = (
          put_inverse (λ z. z ≡ true) o true (held b k) j (λ q h. rw l (now q)) (λ q h. brought_once ((t b j k).0 h)),
          λ h. put_cases (λ z. z ≡ true) o true (held b k) j (λ q. refl)
              (λ q. ⊎_elim (λ h. (t b j k).1 h) (λ n. absurd (q n.0)) (brought_then h)),
        )

        noted_present : Noted (present d y)
        unfolding note take_count
        noted_present = go (dec_lt c d) (dec_lt d c)
          where
            c : ℕ
            c = s.count b k

            go : Dec (c < d) → Dec (d < c) → Noted (present d y)
            go (yes u) v = let z : max c d ≡ d = omega arith in rw (lt-ltb c d u, z) (noted_larger u)
            go (no u) (yes v) = let z : max c d ≡ c = omega arith in rw (le-ltb c d (omega arith), lt-ltb d c v, z) (noted_smaller v)
            go (no u) (no v) = let z : max c d ≡ c = omega arith in rw (le-ltb c d (omega arith), le-ltb d c (omega arith), z) (noted_equal (omega arith))

      noted : (y : Entry) → x ≡ y → Noted x
      noted absent e = rw e (noted_absent e)
      noted (present d y) e = rw e (noted_present d y e)

    exact_receipt : Exact past s held → (b m o p : ℕ) → Flying m o b past p → Exact (receipt b m ∷ past) (received b m s) (learn_columns (receipt b m) s held)
    unfolding received learn_columns
    exact_receipt t b m o p f i j k =
        put_both (λ (q : ℕ → ℕ → Bool) (r : ℕ → ℕ). (q k j ≡ true) ↔ Brought K i j k (r k) (receipt b m ∷ past)) b
        (λ k. note (s.letter m).from (s.count b k) ((s.letter m).entry k) (held b k)) held
        (λ k. take_count (s.count b k) ((s.letter m).entry k)) s.count i
        (λ q. rw (← q, (truthful K past m o b p f).0) (noted t b m o p f j k ((s.letter m).entry k) refl))
        (λ q. exact_quiet (λ l h. q (cc)) (t i j k))

  -- a bit is set exactly if that node has brought that very count
  pub noting_exact : {n : ℕ} {es : List Event} → Sound n es → (i j k : ℕ) → ((short K es).held i k j ≡ true) ↔ Brought K i j k ((short K es).state.count i k) es
  unfolding short step learn_columns
  noting_exact sound_nil i j k = (λ h. absurd (false≢true h), λ b. absurd (brought_none b))
  noting_exact {n} (sound_cons {e = e} {past = past} a h) i j k = go e a (noting_exact h) i j k
    where
      go : (e : Event) → Allowed n past e → Exact past (short K past).state (short K past).held
          → Exact (e ∷ past) (step (brief (short K past)) e (short K past).state) (learn_columns e (short K past).state (short K past).held)
      go (idle a) h t i j k = exact_quiet (λ m. differ (λ z. omega arith)) (t i j k)
      go (mark a) h t i j k = exact_mark past t a i j k
      go (send a b m) h t i j k = exact_quiet (λ m. differ (λ z. omega arith)) (t i j k)
      go (receipt b m) h t i j k = exact_receipt past t b m h.1.0 h.1.1 h.1.2 i j k

  -- so the columns are honest, where an entry is spared only if its flag and the receiver's bit are set
  pub noting_honest : ((s : State) (held : Columns) (i j k : ℕ) → spares s held i j k ≡ true → (s.flag i k ≡ true) × (held i k j ≡ true))
      → {n : ℕ} (es : List Event) → Sound n es → Honest K es
  noting_honest both es ok i j k h =
      let y = both _ _ i j k h in
      (y.0, brought_from ((noting_exact ok i j k).0 y.1))

-- ---- the columns of short messages

-- a bit is set exactly if that node has brought that very count
pub columns_exact : {n : ℕ} {es : List Event} → Sound n es → (i j k : ℕ) → ((short columns es).held i k j ≡ true) ↔ Brought columns i j k ((short columns es).state.count i k) es
columns_exact ok i j k = noting_exact columns.spares ok i j k

-- so the columns are honest
pub columns_honest : {n : ℕ} (es : List Event) → Sound n es → Honest columns es
columns_honest es ok = noting_honest columns.spares (λ s held i j k h. (and-eq-true_iff _ _).0 h) es ok
