-- What is found in the mail is what is in flight: each slot's first three elements show whether it is free and which number it
-- has, so that the walk over the mail's slots counts, finds and compares what the cut's slots have.
-- Assumes nothing.
use mathlib.Core.Path.{◌≡◌, refl, sym, ap, ◌∙◌}
use mathlib.Core.Logic.{◌≢◌}
use mathlib.Core.Bool.{Bool, true, false, ◌||◌, or-false, or-true, true≢false, false≢true}
use mathlib.Core.Option.{none, some}
use mathlib.Core.List.{List, [], ◌∷◌, ◌++◌}
use Prim.Native.Nat.{ℕ, zero, suc, ◌+◌, ◌*◌, ◌<◌, ◌≤◌, min}
use native.Mathlib.Nat.{le_refl, add-zero}
use native.Mathlib.Numerals.{add-one}
use native.Mathlib.Decide.{ℕ_discrete}
use native.Mathlib.Omega.{arith}
use lib.Dec.{eqb, eqb-suc-zero}
use lib.ListN.{length, get_or, take}
use lib.Seq.{take_all}
use borrow.Author.Tests.{eq-eqb, eqb-true}
use Rattle.order.specs.Order.{Event, Flying}
use Rattle.order.specs.Flight.{Message, in_flight}
use Rattle.std.proofs.Common.{Option, Some, None, MatchOption}
use Rattle.std.specs.Prelude.{unwrap_or}
use Rattle.std.proofs.lemmas.Grind.{common_steps}
use Rattle.std.proofs.lemmas.List.{length_push}
use Rattle.room.specs.Slots.{Slot, slot_at, bears, lowest, slot_of, slots}
use Rattle.room.specs.Room.{Barn, barn, element, Letters}
use Rattle.room.specs.Finding.{Bears, Finds, finds, misses, looked, surveyed, Mailed}
use Rattle.room.specs.declared.mail.Seen.{Seen}
use Rattle.room.proofs.Slots.{taken, free_taken, lowest_free, lowest_taken, slot_flies, slot_of_flying, taken_flying}
use Rattle.room.proofs.LawfulSlots.{slots_few, flying_lies}

-- ---- the walk over the mail

-- one slot more: a free one may be the lowest, and a taken one counts
module _ {A : Type 0} (number : ℕ) (mail : List ℕ) (xs : List A) (x : A) where
  abbrev before : Seen
  before = surveyed number mail (length xs)

  pub one_free : get_or mail (35 * length xs) 0 ≡ 0 → surveyed number mail (length (xs ++ x ∷ []))
      ≡ record { repeated = before.repeated; free = Some (min (unwrap_or before.free (length xs)) (length xs)); flying = before.flying }
  unfolding surveyed looked
  one_free h = rw (length_push, add-one, h)

  pub one_taken : get_or mail (35 * length xs) 0 ≢ 0 → surveyed number mail (length (xs ++ x ∷ []))
      ≡ record { repeated = before.repeated || eqb (get_or mail (35 * length xs + 2) 0) number; free = before.free; flying = suc before.flying }
  unfolding surveyed looked
  one_taken h = rw (length_push, add-one) (grind arith)

-- as many slots are counted as were looked at if none was free, and fewer if one was
surveyed_free : (number : ℕ) (mail : List ℕ) (k : ℕ)
    → MatchOption (surveyed number mail k).free ((surveyed number mail k).flying ≡ k) (λ s. (surveyed number mail k).flying < k)
unfolding surveyed looked
surveyed_free number mail zero = refl
surveyed_free number mail (suc k) =
    let before = surveyed_free number mail k in
    grind (arith, common_steps)

-- ---- what the mail shows of a slot

-- it is free, or has this message
abbrev pub Lies : List ℕ → ℕ → Slot → Type 0
Lies mail s none = get_or mail (35 * s) 0 ≡ 0
Lies mail s (some x) = (get_or mail (35 * s) 0 ≡ suc x.from) × (get_or mail (35 * s + 1) 0 ≡ x.to) × (get_or mail (35 * s + 2) 0 ≡ x.number)

-- the mail shows each of the barn's slots
pub lies : {n : ℕ} {b : Barn} {mail : List ℕ} → Letters n b mail → (s : ℕ) → s < 128 → Lies mail s (slot_at b.mail s)
unfolding element
lies {n} {b} {mail} l s h = go (slot_at b.mail s) (λ x. l.laid s x h)
  where
    go : (o : Slot) → ((x : ℕ) → x < 35 → get_or mail (35 * s + x) 0 ≡ element n b.state.letter o x) → Lies mail s o
    go none at = rw (add-zero (35 * s)) at (at 0 (omega arith))
    go (some x) at = (rw (add-zero (35 * s)) at (at 0 (omega arith)), at 1 (omega arith), at 2 (omega arith))

-- the lowest free slot that is known after slot s too
abbrev freed : ℕ → Slot → Option ℕ → Option ℕ
freed s none free = Some (min (unwrap_or free s) s)
freed s (some x) free = free

-- what a look at slot s makes known
abbrev Step : ℕ → List ℕ → ℕ → Slot → Type 0
Step number mail s o =
    ((surveyed number mail (suc s)).repeated ≡ ((surveyed number mail s).repeated || bears number o))
    × ((surveyed number mail (suc s)).free ≡ freed s o (surveyed number mail s).free)
    × ((surveyed number mail (suc s)).flying ≡ (surveyed number mail s).flying + taken (o ∷ []))

surveyed_slot : (number : ℕ) (mail : List ℕ) (s : ℕ) (o : Slot) → Lies mail s o → Step number mail s o
unfolding surveyed looked taken
surveyed_slot number mail s none h = rw h (sym (or-false _), refl, sym (add-zero _))
surveyed_slot number mail s (some x) h = rw (h.0, h.2, eqb-suc-zero x.from) (refl, refl, sym (add-one _))

-- ---- lists of slots

-- the taken ones among the first slots, with one slot more
taken_more : (S : List Slot) (k : ℕ) → taken (take (suc k) S) ≡ taken (take k S) + taken (slot_at S k ∷ [])
unfolding taken
taken_more [] zero = refl
taken_more [] (suc k) = refl
taken_more (none ∷ rest) zero = refl
taken_more (some x ∷ rest) zero = refl
taken_more (none ∷ rest) (suc k) = taken_more rest k
taken_more (some x ∷ rest) (suc k) = omega (arith, taken_more rest k)

-- a free slot is not below the lowest
lowest_least : (S : List Slot) (s : ℕ) → slot_at S s ≡ none → lowest S ≤ s
unfolding lowest
lowest_least [] s h = omega arith
lowest_least (none ∷ rest) s h = omega arith
lowest_least (some x ∷ rest) zero h = free_taken (sym h)
lowest_least (some x ∷ rest) (suc s) h = let k = lowest_least rest s h in omega arith

-- what is known of the lowest free slot after k slots: nothing up to it, and after it that one
abbrev Least : List Slot → ℕ → Option ℕ → Type 0
Least S k None = k ≤ lowest S
Least S k (Some s) = (lowest S < k) × (s ≡ lowest S)

least_more : (S : List Slot) (s : ℕ) (free : Option ℕ) → Least S s free → Least S (suc s) (freed s (slot_at S s) free)
least_more S s free before = go (slot_at S s) refl free before
  where
    go : (o : Slot) → slot_at S s ≡ o → (free : Option ℕ) → Least S s free → Least S (suc s) (freed s o free)
    go none q None before = omega (arith, lowest_least S s q)
    go none q (Some t) before = omega arith
    go (some x) q None before =
        let other : lowest S ≢ s = λ z. free_taken (sym (lowest_free S) ∙ ap (slot_at S) z ∙ q) in
        omega arith
    go (some x) q (Some t) before = omega arith

-- a slot that has a number has a message with that number
borne_by : (m : ℕ) (o : Slot) → bears m o ≡ true → (x : Message) × (o ≡ some x) × (x.number ≡ m)
borne_by m none h = absurd (false≢true h)
borne_by m (some x) h = (x, refl, eqb-true x.number m h)

-- ---- the slots of a lawful cut

module _ {n : ℕ} {cut : List Event} {mail : List ℕ} (mailed : Mailed n cut mail) where
  -- the mail shows them
  shown : (s : ℕ) → s < 128 → Lies mail s (slot_at (slots cut) s)
  unfolding barn
  shown s h = lies mailed.letters s h

  -- ---- found by the walk

  module _ (number : ℕ) where
    -- the walk looks at them
    step : (s : ℕ) → s < 128 → Step number mail s (slot_at (slots cut) s)
    step s h = surveyed_slot number mail s (slot_at (slots cut) s) (shown s h)

    -- the slots counted are the taken ones
    counted : (k : ℕ) → k ≤ 128 → (surveyed number mail k).flying ≡ taken (take k (slots cut))
    unfolding surveyed taken
    counted zero h = refl
    counted (suc k) h = omega (arith, counted k (omega arith), taken_more (slots cut) k, (step k h).2)

    -- the free slot known is the lowest, from there on
    least : (k : ℕ) → k ≤ 128 → Least (slots cut) k (surveyed number mail k).free
    unfolding surveyed
    least zero h = omega arith
    least (suc k) h = rw (step k h).1 (least_more (slots cut) k _ (least k (omega arith)))

    -- a repeated number is one that a slot has, and one that a slot has is repeated
    borne : (k : ℕ) → k ≤ 128 → (surveyed number mail k).repeated ≡ true → (s : ℕ) × (bears number (slot_at (slots cut) s) ≡ true)
    unfolding surveyed
    borne zero h e = absurd (false≢true e)
    borne (suc k) h e = go (surveyed number mail k).repeated (borne k (omega arith)) (sym (step k h).0 ∙ e)
      where
        go : (before : Bool) → (before ≡ true → (s : ℕ) × (bears number (slot_at (slots cut) s) ≡ true))
            → (before || bears number (slot_at (slots cut) k)) ≡ true → (s : ℕ) × (bears number (slot_at (slots cut) s) ≡ true)
        go true earlier e = earlier refl
        go false earlier e = (k, e)

    repeats : (k : ℕ) → k ≤ 128 → {s : ℕ} → s < k → bears number (slot_at (slots cut) s) ≡ true → (surveyed number mail k).repeated ≡ true
    repeats zero h l e = absurd (omega arith)
    repeats (suc k) h {s} l e = (step k h).0 ∙ go (ℕ_discrete s k) (λ l. repeats k (omega arith) l e)
      where
        go : Dec (s ≡ k) → (s < k → (surveyed number mail k).repeated ≡ true)
            → ((surveyed number mail k).repeated || bears number (slot_at (slots cut) k)) ≡ true
        go (yes q) earlier = rw (← q, e) (or-true (surveyed number mail s).repeated)
        go (no q) earlier = rw (earlier (omega arith))

  -- as many slots are counted as messages are in flight
  pub survey_flying : (number : ℕ) → (surveyed number mail 128).flying ≡ length (in_flight cut)
  survey_flying number =
      counted number 128 (le_refl 128) ∙ ap taken (take_all 128 (slots cut) (slots_few mailed.lawful)) ∙ taken_flying cut

  -- where there is room, the lowest free slot is found
  pub survey_free : length (in_flight cut) < 128 → (number : ℕ) → (surveyed number mail 128).free ≡ Some (lowest (slots cut))
  survey_free room number = go (surveyed number mail 128).free (least number 128 (le_refl 128))
    where
      go : (free : Option ℕ) → Least (slots cut) 128 free → free ≡ Some (lowest (slots cut))
      go None h = absurd (omega (arith, lowest_taken (slots cut), taken_flying cut))
      go (Some s) h = ap Some h.1

  -- and a free slot is found only where there is room
  pub survey_room : (number : ℕ) → MatchOption (surveyed number mail 128).free (length (in_flight cut) ≡ 128) (λ s. length (in_flight cut) < 128)
  survey_room number = rw (survey_flying number) at (surveyed_free number mail 128)

  -- a number that is repeated is in flight
  pub survey_repeated : (number : ℕ) → (surveyed number mail 128).repeated ≡ true → (a b q : ℕ) × Flying number a b cut q
  survey_repeated number e =
      let r = borne number 128 (le_refl 128) e in
      let (x, at, same) = borne_by number (slot_at (slots cut) r.0) r.1 in
      (x.from, x.to, x.sent, rw same at (slot_flies cut r.0 at))

  -- and one that is not is in no flight
  pub survey_new : (number : ℕ) → (surveyed number mail 128).repeated ≡ false → (a b q : ℕ) → ¬ Flying number a b cut q
  survey_new number e a b q f =
      let (s, l, at) = flying_lies mailed.lawful f in
      let same : bears number (slot_at (slots cut) s) ≡ true = rw at (eq-eqb number number refl) in
      true≢false (sym (repeats number 128 (le_refl 128) l same) ∙ e)

  -- ---- found by a search

  -- a slot with the number has a message with it
  bearer : {number s : ℕ} → s < 128 → Bears mail number s
      → (x : Message) × (slot_at (slots cut) s ≡ some x) × (x.number ≡ number) × (get_or mail (35 * s + 1) 0 ≡ x.to)
  bearer {number} {s} l h = go (slot_at (slots cut) s) (shown s l)
    where
      go : (o : Slot) → Lies mail s o → (x : Message) × (o ≡ some x) × (x.number ≡ number) × (get_or mail (35 * s + 1) 0 ≡ x.to)
      go none at = absurd (h.0 at)
      go (some x) at = (x, refl, sym at.2 ∙ h.1, at.1)

  -- a slot that is found has a message in flight to the node that it names
  pub find_flies : {number s : ℕ} → Finds mail number (Some s)
      → (a : ℕ) × (q : ℕ) × Flying number a (get_or mail (35 * s + 1) 0) cut q × (slot_of number (slots cut) ≡ s) × (s < 128)
  find_flies (finds {s = s} l h first) =
      let (x, at, same, to) = bearer l h in
      (x.from, x.sent, rw to (rw same at (slot_flies cut s at)), rw same at (slot_of_flying cut at), l)

  -- and a number that is not found is in no flight
  pub find_none : {number : ℕ} → Finds mail number None → (a b q : ℕ) → ¬ Flying number a b cut q
  find_none (misses none_has) a b q f =
      let (s, l, at) = flying_lies mailed.lawful f in
      let is = rw at at (shown s l) in
      none_has s l (omega (arith, is.0), is.2)
