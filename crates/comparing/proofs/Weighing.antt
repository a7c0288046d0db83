-- Two stamps compared count by count: after k turns it is known whether some count of the nodes below k exceeds the other's, either
-- way, and these two answers decide.
-- Assumes nothing.
use mathlib.Core.Path.{◌≡◌, refl, sym}
use mathlib.Core.Bool.{Bool, true, false, ◌||◌}
use mathlib.Core.List.{List}
use Prim.Native.Nat.{ℕ, ◌+◌, ◌≤◌, ◌<◌}
use native.Mathlib.Numerals.{add-one}
use native.Mathlib.Omega.{arith}
use lib.Dec.{ltb}
use lib.ListN.{length}
use Rattle.reading.specs.Reading.{count_at, past_count, stamp_place, stamp_at}
use Rattle.reading.proofs.Standing.{past_inside, place_none, place_more}
use Rattle.comparing.specs.Compare.{exceeds, differs, ordered}
use Rattle.comparing.specs.Judged.{judged}
use Rattle.comparing.proofs.Exceeding.{exceeds_some, exceeds_none, differs_some, differs_none}

-- the counts of the nodes below k are passed in both stamps
pub record Weighed (report : List ℕ) (first second k one other : ℕ) (more less : Bool) : Type 0 where
  pub few : k ≤ 32
  pub one_inside : one ≤ length report
  pub other_inside : other ≤ length report
  pub one_reached : one ≡ stamp_place report first k
  pub other_reached : other ≡ stamp_place report second k
  pub more_is : more ≡ exceeds k (stamp_at report first) (stamp_at report second)
  pub less_is : less ≡ exceeds k (stamp_at report second) (stamp_at report first)

module _ {report : List ℕ} {first second : ℕ} where
  pub weighed_none : first ≤ length report → second ≤ length report → Weighed report first second 0 first second false false
  unfolding exceeds
  weighed_none h l =
      record {
        few = omega arith;
        one_inside = h;
        other_inside = l;
        one_reached = place_none report first;
        other_reached = place_none report second;
        more_is = refl;
        less_is = refl;
      }

  -- one node more
  pub weighed_more : {k one other : ℕ} {more less : Bool} → Weighed report first second k one other more less → k < 32
      → Weighed report first second (k + 1) (past_count report one k) (past_count report other k)
      (more || ltb (count_at report other k) (count_at report one k))
      (less || ltb (count_at report one k) (count_at report other k))
  unfolding exceeds stamp_at
  weighed_more {k} {one} {other} w l =
      record {
        few = omega arith;
        one_inside = past_inside report one k w.one_inside;
        other_inside = past_inside report other k w.other_inside;
        one_reached = place_more report first k one w.one_reached;
        other_reached = place_more report second k other w.other_reached;
        more_is = rw (add-one k, w.more_is, w.one_reached, w.other_reached);
        less_is = rw (add-one k, w.less_is, w.one_reached, w.other_reached);
      }

-- ---- the two answers decide

module _ (s t : ℕ → ℕ) where
  -- some entry differs if one exceeds the other, and only then
  exceeds_differs : exceeds 32 s t ≡ true → (differs 32 s t ≡ true) × (differs 32 t s ≡ true)
  exceeds_differs e =
      let (k, l, u) = (exceeds_some 32 s t).0 e in
      ((differs_some 32 s t).1 (k, l, λ z. omega arith), (differs_some 32 t s).1 (k, l, λ z. omega arith))

  never_differs : exceeds 32 s t ≡ false → exceeds 32 t s ≡ false → (differs 32 s t ≡ false) × (differs 32 t s ≡ false)
  never_differs e f =
      let same : (k : ℕ) → k < 32 → s k ≡ t k = λ k l. omega (arith, (exceeds_none 32 s t).0 e k l, (exceeds_none 32 t s).0 f k l) in
      ((differs_none 32 s t).1 same, (differs_none 32 t s).1 (λ k l. sym (same k l)))

judged_ordered : (s t : ℕ → ℕ) → judged (exceeds 32 s t) (exceeds 32 t s) ≡ ordered s t
unfolding ordered
judged_ordered s t = go _ _ refl refl
  where
    go : (x y : Bool) → exceeds 32 s t ≡ x → exceeds 32 t s ≡ y
        → judged (exceeds 32 s t) (exceeds 32 t s) ≡ ordered s t
    go true true e f = rw (e, f)
    go true false e f = rw (e, f, (exceeds_differs s t e).1)
    go false true e f = rw (e, f, (exceeds_differs t s f).1)
    go false false e f = rw (e, f, (never_differs s t e f).0, (never_differs s t e f).1)

-- after all nodes
pub weighed_all : {report : List ℕ} {first second k one other : ℕ} {more less : Bool} → Weighed report first second k one other more less → 32 ≤ k
    → judged more less ≡ ordered (stamp_at report first) (stamp_at report second)
weighed_all {report} {first} {second} {k} w h =
    let all : k ≡ 32 = omega (arith, w.few) in
    rw (w.more_is, w.less_is, all) (judged_ordered (stamp_at report first) (stamp_at report second))
