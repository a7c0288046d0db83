-- Comparing two marks in the report of their own log: the report is well formed, each mark of the log has its group there with its
-- right stamp, and no other mark has one, so the answer is the order's.
-- Assumes nothing.
use mathlib.Core.Path.{◌≡◌, refl, sym, ◌∙◌, ap, ap₂}
use mathlib.Core.Logic.Iff
use mathlib.Core.Logic.{◌↔◌, ◌⊎◌, inl, inr, ⊎_elim}
use mathlib.Core.List.Memᴰ
use mathlib.Core.List.{List, [], ◌∷◌, append-nil, Memᴰ}
use Prim.Native.Nat.{ℕ, ◌+◌, ◌<◌}
use native.Mathlib.Decide.{ℕ_discrete}
use native.Mathlib.Omega.{arith}
use lib.ListN.{length}
use Rattle.std.specs.Prelude.{Result, Ok}
use Rattle.order.specs.Order.{Event, mark, Before}
use Rattle.order.proofs.Places.{at_unique}
use Rattle.order.proofs.Marks.{numbered_number, numbered_place}
use Rattle.verdict.specs.Lawful.{Lawful}
use Rattle.machine.specs.Machine.{full}
use Rattle.machine.specs.Answer.{Answer, answers, Right}
use Rattle.machine.proofs.Answers.{mark_answered, answer_marked}
use Rattle.groups.specs.Groups.{groups_of}
use Rattle.passes.specs.Report.{report_of}
use Rattle.reading.specs.Reading.{stamp_at}
use Rattle.shape.specs.declared.Mark.{Mark}
use Rattle.shape.specs.Fits.{mark_of}
use Rattle.checking.specs.WellFormed.{place_among, WellFormed}
use Rattle.checking.specs.Surveyed.{checked, place_found}
use Rattle.checking.proofs.Walked.{well_formed_checked}
use Rattle.checking.proofs.Marks.{found_inside, found_nowhere}
use Rattle.comparing.specs.declared.Standing.{Standing}
use Rattle.comparing.specs.declared.Standing.TheVariants as variants
use Rattle.comparing.specs.declared.Incomparable.{Incomparable}
use Rattle.comparing.specs.Compare.{number_of, ordered, compared_at, compared_in, compared}
use Rattle.comparing.proofs.Ordering.{ordered_same}
use Rattle.comparisons.specs.Written.{IsTo}
use Rattle.comparisons.specs.OwnReport.{IsMark, HasMark}
use Rattle.comparisons.proofs.Written.{written_well_formed, written_found, written_absent}
use Rattle.comparisons.proofs.OwnAnswers.{own_writable, own_groups}
use Rattle.comparisons.proofs.StampedOrder.{ordered_before, ordered_after, ordered_apart}

-- one of the answers is to this mark, or none is
told_or_not : (told : List Answer) (e : Mark) → ((a : Answer) × Memᴰ a told × IsTo a e) ⊎ ((a : Answer) → Memᴰ a told → ¬ IsTo a e)
told_or_not [] e = inr (λ a m. absurd (Memᴰ.not-nil m))
told_or_not (b ∷ rest) e = go (ℕ_discrete b.node e.node.0) (ℕ_discrete (b.stamp b.node) e.number.0) (told_or_not rest e)
  where
    others : ¬ IsTo b e → ((a : Answer) × Memᴰ a rest × IsTo a e) ⊎ ((a : Answer) → Memᴰ a rest → ¬ IsTo a e)
        → ((a : Answer) × Memᴰ a (b ∷ rest) × IsTo a e) ⊎ ((a : Answer) → Memᴰ a (b ∷ rest) → ¬ IsTo a e)
    others h (inl (a, m, is)) = inl (a, Memᴰ.tail m, is)
    others h (inr none) = inr (λ a m is. ⊎_elim (λ same. h (rw same at is)) (λ o. none a o is) (Memᴰ.cases_cons m))

    go : Dec (b.node ≡ e.node.0) → Dec (b.stamp b.node ≡ e.number.0)
        → ((a : Answer) × Memᴰ a rest × IsTo a e) ⊎ ((a : Answer) → Memᴰ a rest → ¬ IsTo a e)
        → ((a : Answer) × Memᴰ a (b ∷ rest) × IsTo a e) ⊎ ((a : Answer) → Memᴰ a (b ∷ rest) → ¬ IsTo a e)
    go (yes node) (yes number) r = inl (b, Memᴰ.head refl, (node, number))
    go (yes node) (no number) r = others (λ is. number is.1) r
    go (no node) d r = others (λ is. node is.0) r

-- a right answer at a mark's place is to that mark
answer_to : {cut : List Event} {e : Mark} {p : ℕ} {a : Answer} → IsMark cut e p → Right cut p a → IsTo a e
answer_to {e = e} {a = a} is right =
    let event : mark a.node ≡ mark e.node.0 = at_unique right.numbered.0 is.0 in
    let node : a.node ≡ e.node.0 = cc in
    (node, numbered_number right.numbered (rw node is))

-- and the other way round
to_answer : {cut : List Event} {e : Mark} {p : ℕ} {a : Answer} → IsTo a e → Right cut p a → IsMark cut e p
to_answer is right = rw (is.1, is.0) at right.numbered

-- comparisons that are made answer the same just if the marks stand to each other the same
made_same : (s t : Standing) → (◌≡◌ {A = Result Standing Incomparable} (Ok s) (Ok t)) ↔ (s ≡ t)
made_same s t = (λ same. cc, λ same. ap Ok same)

module _ {n : ℕ} {cut : List Event} (lawful : Lawful n cut) where
  told : List Answer
  told = answers n full cut

  -- the report, for all 32 nodes
  own_bytes : report_of n cut ≡ groups_of 32 told
  unfolding report_of told
  own_bytes = own_groups lawful (answers n full cut) [] (sym (append-nil _))

  -- it is well formed, with a group for each mark
  pub own_well_formed : WellFormed (report_of n cut) (length (answers n full cut))
  unfolding told
  own_well_formed = rw own_bytes (written_well_formed (own_writable lawful))

  own_checked : checked (report_of n cut) ≡ Ok (length told)
  unfolding told
  own_checked = well_formed_checked (report_of n cut) _ own_well_formed

  -- ---- one mark

  -- the place of its group
  abbrev place_of : Mark → ℕ
  place_of e = place_among (report_of n cut) (length told) e

  -- A mark of the log has its group there, with a right answer's stamp; another mark has none.
  data Found (e : Mark) : Type 0 where
    found : {p : ℕ} {a : Answer} → IsMark cut e p → Right cut p a → place_of e < length (report_of n cut)
        → ((k : ℕ) → k < 32 → stamp_at (report_of n cut) (place_of e + 5) k ≡ a.stamp k) → Found e
    unfound : ¬ HasMark cut e → place_of e ≡ length (report_of n cut) → Found e

  own_found : (e : Mark) → Found e
  unfolding told
  own_found e = go (told_or_not (answers n full cut) e)
    where
      go : ((a : Answer) × Memᴰ a (answers n full cut) × IsTo a e) ⊎ ((a : Answer) → Memᴰ a (answers n full cut) → ¬ IsTo a e) → Found e
      go (inl (a, m, is)) =
          let (p, right) = answer_marked lawful.sound m in
          let named : mark_of a ≡ e = ap₂ (λ (i c : ℕ). record { node = record { 0 = i }; number = record { 0 = c } }) is.0 is.1 in
          let (inside, stamp) = rw (← own_bytes, named) at (written_found (own_writable lawful) m) in
          found (to_answer is right) right inside stamp
      go (inr none) =
          unfound (λ (p, is). let (a, m, right) = mark_answered lawful.sound is.0 in none a m (answer_to is right))
          (rw (← own_bytes) at (written_absent (own_writable lawful) e none))

  -- ---- two marks

  -- the answer is that at the places of their groups
  compared_there : (e f : Mark) → compared (report_of n cut) e f
      ≡ compared_at (report_of n cut) (place_found (report_of n cut) (length told) e) (place_found (report_of n cut) (length told) f)
  unfolding compared_in
  compared_there e f = rw own_checked

  -- for two marks of the log the stamps are compared
  own_ordered : (e f : Mark) {p q : ℕ} → IsMark cut e p → IsMark cut f q
      → (a b : Answer) × Right cut p a × Right cut q b × (compared (report_of n cut) e f ≡ Ok (ordered a.stamp b.stamp))
  unfolding compared_at
  own_ordered e f {p} {q} is there = go (own_found e) (own_found f)
    where
      go : Found e → Found f → (a b : Answer) × Right cut p a × Right cut q b × (compared (report_of n cut) e f ≡ Ok (ordered a.stamp b.stamp))
      go (found {a = a} first right inside stamp) (found {a = b} second right' inside' stamp') = (
        a,
        b,
        rw (numbered_place first is) at right,
        rw (numbered_place second there) at right',
        compared_there e f ∙ rw (found_inside (report_of n cut) e (length told) inside, found_inside (report_of n cut) f (length told) inside') (ap Ok (ordered_same stamp stamp')),
      )
      go (unfound none away) g = absurd (none (p, is))
      go (found first right inside stamp) (unfound none away) = absurd (none (q, there))

  module _ {e f : Mark} {p q : ℕ} (is : IsMark cut e p) (there : IsMark cut f q) where
    -- before, just if the first is before the second
    pub own_before : (compared (report_of n cut) e f ≡ Ok variants.Before) ↔ Before cut p q
    own_before = let (a, b, first, second, told) = own_ordered e f is there in rw told (Iff.trans (made_same _ _) (ordered_before lawful first second))

    -- after, just if the second is before the first
    pub own_after : (compared (report_of n cut) e f ≡ Ok variants.After) ↔ Before cut q p
    own_after = let (a, b, first, second, told) = own_ordered e f is there in rw told (Iff.trans (made_same _ _) (ordered_after lawful first second))

    -- apart, just if neither is before the other
    pub own_apart : (compared (report_of n cut) e f ≡ Ok variants.Apart) ↔ ((¬ Before cut p q) × (¬ Before cut q p))
    own_apart = let (a, b, first, second, told) = own_ordered e f is there in rw told (Iff.trans (made_same _ _) (ordered_apart lawful first second))

  -- ---- marks that the log has, or has not

  -- 15 for a first mark that the log has not, 16 for a second one, else 0
  data Outcome (e f : Mark) (number : ℕ) : Type 0 where
    no_first : ¬ HasMark cut e → number ≡ 15 → Outcome e f number
    no_second : HasMark cut e → ¬ HasMark cut f → number ≡ 16 → Outcome e f number
    both_there : HasMark cut e → HasMark cut f → number ≡ 0 → Outcome e f number

  outcome : (e f : Mark) → Outcome e f (number_of (compared (report_of n cut) e f))
  unfolding compared_at
  outcome e f = go (own_found e) (own_found f)
    where
      go : Found e → Found f → Outcome e f (number_of (compared (report_of n cut) e f))
      go (unfound none away) g = no_first none (rw (compared_there e f, found_nowhere (report_of n cut) e (length told) (omega arith)))
      go (found {p = p} first right inside stamp) (unfound none away) =
          no_second (p, first) none (rw (compared_there e f, found_inside (report_of n cut) e (length told) inside, found_nowhere (report_of n cut) f (length told) (omega arith)))
      go (found {p = p} first right inside stamp) (found {p = q} second right' inside' stamp') =
          let (a, b, r, s, told) = own_ordered e f first second in
          both_there (p, first) (q, second) (ap number_of told)

  module _ (e f : Mark) where
    -- the report is never refused
    pub own_never_14 : ¬ (number_of (compared (report_of n cut) e f) ≡ 14)
    own_never_14 h = go (outcome e f)
      where
        go : ¬ Outcome e f (number_of (compared (report_of n cut) e f))
        go (no_first a z) = omega arith
        go (no_second a b z) = omega arith
        go (both_there a b z) = omega arith

    -- 15, just if the log has no such first mark
    pub own_15 : (number_of (compared (report_of n cut) e f) ≡ 15) ↔ (¬ HasMark cut e)
    own_15 = (λ h. there h (outcome e f), λ none. back none (outcome e f))
      where
        there : number_of (compared (report_of n cut) e f) ≡ 15 → Outcome e f (number_of (compared (report_of n cut) e f)) → ¬ HasMark cut e
        there h (no_first a z) = a
        there h (no_second a b z) = absurd (omega arith)
        there h (both_there a b z) = absurd (omega arith)

        back : ¬ HasMark cut e → Outcome e f (number_of (compared (report_of n cut) e f)) → number_of (compared (report_of n cut) e f) ≡ 15
        back none (no_first a z) = z
        back none (no_second a b z) = absurd (none a)
        back none (both_there a b z) = absurd (none a)

    -- 16, just if it has the first and not the second
    pub own_16 : (number_of (compared (report_of n cut) e f) ≡ 16) ↔ (HasMark cut e × (¬ HasMark cut f))
    own_16 = (λ h. there h (outcome e f), λ (a, none). back a none (outcome e f))
      where
        there : number_of (compared (report_of n cut) e f) ≡ 16 → Outcome e f (number_of (compared (report_of n cut) e f)) → HasMark cut e × (¬ HasMark cut f)
        there h (no_first a z) = absurd (omega arith)
        there h (no_second a b z) = (a, b)
        there h (both_there a b z) = absurd (omega arith)

        back : HasMark cut e → ¬ HasMark cut f → Outcome e f (number_of (compared (report_of n cut) e f)) → number_of (compared (report_of n cut) e f) ≡ 16
        back has none (no_first a z) = absurd (a has)
        back has none (no_second a b z) = z
        back has none (both_there a b z) = absurd (none b)
