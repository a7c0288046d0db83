-- The answers to the marks of an accepted log are writable, and writing them for the log's nodes is writing them for all 32: a
-- right answer counts marks of the log, of which there are at most 4,096, all of nodes below n.
-- Assumes nothing.
use mathlib.Core.Path.{◌≡◌, refl}
use mathlib.Core.Logic.{⊎_elim}
use mathlib.Core.List.{List, [], ◌∷◌, ◌++◌, append-nil, Memᴰ}
use Prim.Native.Nat.{ℕ, zero, suc, ◌≤◌, ◌<◌}
use native.Mathlib.Decide.{dec_le, dec_lt}
use native.Mathlib.Omega.{arith}
use Rattle.order.specs.Order.{Event, Numbered}
use Rattle.order.proofs.Counts.{counts_bound, counts_some}
use Rattle.order.proofs.Marks.{numbered_place}
use Rattle.verdict.specs.Lawful.{Lawful}
use Rattle.machine.specs.Machine.{whole, full}
use Rattle.machine.specs.Answer.{Answer, answers, Right}
use Rattle.machine.proofs.Numbers.{numbered_bound}
use Rattle.machine.proofs.Totals.{total_marks, answers_many}
use Rattle.machine.proofs.Answers.{mark_node, answer_marked}
use Rattle.groups.specs.Groups.{stamp_record, stamp_records, group_of, groups_of}
use Rattle.groups.proofs.Records.{stamp_none}
use Rattle.shape.specs.Fits.{Fits}
use Rattle.demands.specs.Demands.{Each, each_nil, each_cons, Rising, rising_nil, rising_cons}
use Rattle.demands.proofs.ListedMarks.{marks_rising, answers_right}
use Rattle.comparisons.specs.Written.{SameMark, NoneTwice, none_twice_nil, none_twice_cons, Writable}

-- ---- one answer

module _ {n : ℕ} {cut : List Event} (lawful : Lawful n cut) {p : ℕ} {a : Answer} (right : Right cut p a) where
  -- a right answer keeps the rules of a group
  pub right_fits : Fits a
  right_fits =
      record {
        node_below = omega (arith, mark_node lawful.sound right.numbered.0);
        number_some = (numbered_bound right.numbered).0;
        counts_within = λ k h. omega (arith, counts_bound (right.stamped k));
        ascending = right.ascending;
        causes_within = λ k c m.
            let (f, there, near) = (right.listed k c).0 m in
            let below = mark_node lawful.sound there.0 in
            let some = numbered_bound there in
            (omega arith, some.0, omega (arith, counts_bound there.1));
      }

  -- it counts no mark of a node that the log has not
  right_above : (k : ℕ) → n ≤ k → a.stamp k ≡ 0
  right_above k h = go (dec_lt 0 (a.stamp k))
    where
      go : Dec (0 < a.stamp k) → a.stamp k ≡ 0
      go (yes l) = let (q, b, there) = counts_some l (right.stamped k) in absurd (omega (arith, mark_node lawful.sound there.0))
      go (no l) = omega arith

-- ---- no mark twice

module _ {cut : List Event} where
  -- an answer is right for one of the places
  answer_place : {places : List ℕ} {told : List Answer} {a : Answer} → Each (Right cut) places told → Memᴰ a told
      → (p : ℕ) × Memᴰ p places × Right cut p a
  answer_place each_nil m = absurd (mathlib.Core.List.Memᴰ.not-nil m)
  answer_place (each_cons {x = x} h r) m =
      ⊎_elim (λ e. (x, mathlib.Core.List.Memᴰ.head refl, rw e h)) (λ o. let (p, i, w) = answer_place r o in (p, mathlib.Core.List.Memᴰ.tail i, w)) (mathlib.Core.List.Memᴰ.cases_cons m)

  -- answers to one mark are to one place
  one_place : {p q : ℕ} {a b : Answer} → Right cut p a → Right cut q b → SameMark a b → p ≡ q
  one_place {q = q} {a = a} r s same =
      let there : Numbered cut a.node q (a.stamp a.node) = rw (same.1, same.0) s.numbered in
      numbered_place r.numbered there

  -- so answers to rising places are to no mark twice
  rising_once : {places : List ℕ} {told : List Answer} → Rising places → Each (Right cut) places told → NoneTwice told
  rising_once rising_nil each_nil = none_twice_nil
  rising_once (rising_cons o r) (each_cons {y = a} {ys = rest} h e) = none_twice_cons other (rising_once r e)
    where
      other : (b : Answer) → Memᴰ b rest → ¬ SameMark a b
      other b m same = let (q, i, w) = answer_place e m in let z = one_place h w same in omega (arith, o q i)

-- ---- the groups of more nodes

module _ (n : ℕ) where
  -- a stamp that is zero from node n on shows nothing more for more nodes
  stamps_above : (m : ℕ) (stamp : ℕ → ℕ) → ((k : ℕ) → n ≤ k → stamp k ≡ 0) → n ≤ m → stamp_records n stamp ≡ stamp_records m stamp
  unfolding stamp_records
  stamps_above zero stamp none h = let e : n ≡ 0 = omega arith in rw e
  stamps_above (suc m) stamp none h = go (dec_le n m) (stamps_above m stamp none)
    where
      go : Dec (n ≤ m) → (n ≤ m → stamp_records n stamp ≡ stamp_records m stamp) → stamp_records n stamp ≡ stamp_records m stamp ++ stamp_record m (stamp m)
      go (yes l) rec = rw (stamp_none m (stamp m) (omega (arith, none m l)), append-nil (stamp_records m stamp)) (rec l)
      go (no l) rec = let e : n ≡ suc m = omega arith in rw e

  -- so such answers have the same groups
  groups_above : (m : ℕ) (told : List Answer) → ((a : Answer) → Memᴰ a told → (k : ℕ) → n ≤ k → a.stamp k ≡ 0) → n ≤ m
      → groups_of n told ≡ groups_of m told
  unfolding groups_of group_of
  groups_above m [] none h = refl
  groups_above m (a ∷ told) none h =
      rw (stamps_above m a.stamp (none a (mathlib.Core.List.Memᴰ.head refl)) h, groups_above m told (λ b i. none b (mathlib.Core.List.Memᴰ.tail i)) h)

-- ---- the answers of an accepted log

module _ {n : ℕ} {cut : List Event} (lawful : Lawful n cut) where
  -- they are writable
  pub own_writable : Writable (answers n full cut)
  own_writable =
      record {
        each_fits = λ a m. right_fits lawful (answer_marked lawful.sound m).1;
        none_twice = rising_once (marks_rising cut) (answers_right lawful.sound);
        few = omega (arith, answers_many n (λ past. whole (full past)) full cut, counts_bound (total_marks n (λ past. whole (full past)) cut));
      }

  -- and for the nodes of the log the groups of the first of them, or of all, are those for all 32
  pub own_groups : (first others : List Answer) → answers n full cut ≡ first ++ others → groups_of n first ≡ groups_of 32 first
  own_groups first others is = groups_above n 32 first above lawful.few_nodes
    where
      above : (a : Answer) → Memᴰ a first → (k : ℕ) → n ≤ k → a.stamp k ≡ 0
      above a m =
          let listed : Memᴰ a (answers n full cut) = rw is (mathlib.Core.List.Memᴰ.append_left others m) in
          right_above lawful (answer_marked lawful.sound listed).1
