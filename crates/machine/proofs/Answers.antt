-- Demand 2: the answer to every mark of every sound cut is right, there is one right answer, and no later event changes
-- it. The newest mark's answer is read off what the machine's row describes; an older one's stays right as the cut grows.
-- Assumes nothing.
use mathlib.Core.Path.{◌≡◌, refl, sym, ◌∙◌, ap, subst, fun_ext}
use mathlib.Core.Logic.{⊎_elim}
use mathlib.Core.Bool.{true}
use mathlib.Core.List.Memᴰ
use mathlib.Core.List.{List, [], ◌∷◌, ◌++◌, append-nil, append_assoc, Memᴰ}
use Prim.Native.Nat.{ℕ, suc, ◌<◌, ◌≤◌}
use native.Mathlib.Nat.{le_refl}
use native.Mathlib.Decide.{dec_le}
use native.Mathlib.Omega.{arith}
use lib.ListN.{length}
use Rattle.order.specs.Order.{Event, idle, mark, send, receipt, At, at_head, at_tail, Before, Stamp, Numbered, Nearest, Sound, sound_nil, sound_cons, Allowed}
use Rattle.order.proofs.Places.{at_bound, at_down, at_unique}
use Rattle.order.proofs.Before.{before_forward, before_up, before_down}
use Rattle.order.proofs.Counts.{counts_same}
use Rattle.order.proofs.Marks.{stamp_unique, nearest_unique, numbered_number, numbered_before, numbered_place}
use Rattle.order.proofs.Growing.{numbered_up, numbered_down, stamp_grown, numbered_grown, nearest_grown, sound_cut}
use Rattle.machine.specs.Machine.{put, State, marked, step, full}
use Rattle.machine.specs.Answer.{Answer, answer, answers, Right}
use Rattle.machine.proofs.Small.{differ, put_same}
use Rattle.machine.proofs.Known.{Known, known_bound, known_before, before_known, within_known, known_within}
use Rattle.machine.proofs.Numbers.{marks, numbered_new, numbered_exists, numbered_bound, counts_first}
use Rattle.machine.proofs.Describes.{Describes, Top}
use Rattle.machine.proofs.Full.{own, faithful}
use Rattle.machine.proofs.Listed.{flagged_in, flagged_out, flagged_ascending, ascending_same}

-- a mark of a sound cut is at a node of the barn
pub mark_node : {n : ℕ} {es : List Event} {p k : ℕ} → Sound n es → At es p (mark k) → k < n
mark_node {n = n} {p = p} {k = k} sound_nil a = elim a [ ]
mark_node (sound_cons a h) at_head = a
mark_node (sound_cons a h) (at_tail b) = mark_node h b

-- ---- the newest mark

module _ {n : ℕ} (past : List Event) (i : ℕ) (ok : Sound n past) (within : i < n) where
  abbrev es : List Event
  es = mark i ∷ past

  abbrev s : State
  s = full past

  v : Describes past (Known past i) (s.count i) (s.flag i)
  v = (faithful ok).rows i

  preds : (p : ℕ) → Before es p (length past) → Known past i p
  preds = before_known (λ j m. differ (λ z. omega arith))

  -- the mark of k that the flag names is a direct predecessor
  flag_nearest : (k : ℕ) → s.flag i k ≡ true → (f : ℕ) × Numbered es k f (s.count i k) × Nearest es k f (length past)
  flag_nearest k h = (m.0, numbered_up m.1, (at_tail m.1.0, known_before m.0 o, apart))
    where
      t : (0 < s.count i k) × Top past (Known past i) k (s.count i k)
      t = (v.flags k).0 h

      m : (p : ℕ) × Numbered past k p (s.count i k)
      m = numbered_exists k past (s.count i k) t.0 (v.fits k)

      o : Known past i m.0
      o = (v.first k).1 m.0 (s.count i k) m.1 (le_refl _)

      apart : (l g : ℕ) → At es g (mark l) → Before es m.0 g → ¬ Before es g (length past)
      apart l g a b c =
          let w = preds g c in
          let z = known_bound i g w in
          t.1 m.0 g l m.1 (at_down z a) w (before_down z b)

  -- and every direct predecessor is named by its flag
  nearest_flag : (k f r : ℕ) → Numbered es k f r → Nearest es k f (length past) → (s.flag i k ≡ true) × (r ≡ s.count i k)
  nearest_flag k f r m near =
      let e = latest (dec_le (s.count i k) r) in
      let o : Numbered past k f (s.count i k) = rw e at old in
      ((v.flags k).1 ((numbered_bound o).0, λ p g l q c w d. near.2 l g (at_tail c) (before_up (rw (numbered_place q o) at d)) (known_before g w)), e)
    where
      old : Numbered past k f r
      old = let b = before_forward near.1 in numbered_down b.0 m

      latest : Dec (s.count i k ≤ r) → r ≡ s.count i k
      latest (yes h) = omega (arith, (v.first k).0 f r old (preds f near.1))
      latest (no h) =
          let q = numbered_exists k past (s.count i k) (omega arith) (v.fits k) in
          absurd (near.2 k q.0 (at_tail q.1.0) (before_up (numbered_before old q.1 (omega arith)))
          (known_before q.0 ((v.first k).1 q.0 (s.count i k) q.1 (le_refl _))))

  number : put i (put i (suc (s.count i i)) (s.count i)) s.count i i ≡ suc (marks i past)
  number =
      ap (λ (r : ℕ → ℕ). r i) (put_same i (put i (suc (s.count i i)) (s.count i)) s.count)
      ∙ put_same i (suc (s.count i i)) (s.count i) ∙ ap suc (own (faithful ok) i)

  stamped_new : (k : ℕ) → Stamp es (length past) k ((answer n i s).stamp k)
  unfolding answer full step
  stamped_new k =
      let w = (faithful (sound_cons within ok)).rows i in
      counts_same (λ p h a. (a.0, known_within i p refl a.1)) (λ p h a. (a.0, within_known i p refl a.1))
      (counts_first k es (Known es i) _ (w.fits k) (w.first k))

  right_new : Right es (length past) (answer n i s)
  unfolding answer marked
  right_new =
      record {
        numbered = rw number (numbered_new i past);
        stamped = stamped_new;
        listed = λ k c. (
          λ m. let h = flagged_out (s.count i) (s.flag i) n k c m in rw h.2 (flag_nearest k h.1),
          λ y. let h = nearest_flag k y.0 c y.1 y.2 in
              rw h.1 (flagged_in (s.count i) (s.flag i) n k (mark_node (sound_cons {e = mark i} within ok) y.1.0) h.0),
        );
        ascending = flagged_ascending (s.count i) (s.flag i) n;
      }

-- ---- every mark

-- no later event makes a right answer wrong
pub right_grown : (past later : List Event) {p : ℕ} {a : Answer} → p < length past → Right past p a → Right (later ++ past) p a
right_grown past later old r =
    record {
      numbered = (numbered_grown past later old).0 r.numbered;
      stamped = λ k. (stamp_grown past later old).0 (r.stamped k);
      listed = λ k c. (
        λ m. let y = (r.listed k c).0 m in
            (y.0, (numbered_grown past later (at_bound y.1.0)).0 y.1, (nearest_grown past later old).0 y.2),
        λ y. let z = (nearest_grown past later old).1 y.2 in
            (r.listed k c).1 (y.0, (numbered_grown past later (at_bound z.0)).1 y.1, z),
      );
      ascending = r.ascending;
    }

-- the answer to a mark anywhere in a sound cut is right, whatever comes later
pub mark_right : {n : ℕ} (later past : List Event) (i : ℕ) → Sound n (later ++ (mark i ∷ past)) → Right (later ++ (mark i ∷ past)) (length past) (answer n i (full past))
mark_right {n} later past i ok = right_grown (mark i ∷ past) later (le_refl _) (new (sound_cut later ok))
  where
    new : Sound n (mark i ∷ past) → Right (mark i ∷ past) (length past) (answer n i (full past))
    new (sound_cons h ok) = right_new past i ok h

-- two right answers to one mark are the same
pub right_unique : {es : List Event} {p : ℕ} {a b : Answer} → Right es p a → Right es p b → a ≡ b
right_unique {a = a} {b = b} r s = same
  where
    node : a.node ≡ b.node
    node = let h = at_unique r.numbered.0 s.numbered.0 in cc

    stamp : a.stamp ≡ b.stamp
    stamp = fun_ext (λ k. stamp_unique (r.stamped k) (s.stamped k))

    nearest : a.nearest ≡ b.nearest
    nearest =
        ascending_same r.ascending s.ascending
        (λ k c m. (s.listed k c).1 ((r.listed k c).0 m)) (λ k c m. (r.listed k c).1 ((s.listed k c).0 m))

    same : ◌≡◌ {A = Answer} (record { node = a.node; stamp = a.stamp; nearest = a.nearest }) (record { node = b.node; stamp = b.stamp; nearest = b.nearest })
    same = rw (node, stamp, nearest)

-- a right answer lists at most one mark of each node
pub listed_once : {es : List Event} {p : ℕ} {a : Answer} → Right es p a → (k c d : ℕ) → Memᴰ (k, c) a.nearest → Memᴰ (k, d) a.nearest → c ≡ d
listed_once r k c d m n =
    let x = (r.listed k c).0 m in
    let y = (r.listed k d).0 n in
    numbered_number (rw (nearest_unique x.2 y.2) at x.1) y.1

-- ---- all answers to a cut

module _ (n : ℕ) (state : List Event → State) where
  -- an answer stays on the list as the log grows
  answers_kept : (x : Event) (past : List Event) {a : Answer} → Memᴰ a (answers n state past) → Memᴰ a (answers n state (x ∷ past))
  unfolding answers
  answers_kept (idle i) past m = m
  answers_kept (mark i) past m = Memᴰ.append_left _ m
  answers_kept (send i j k) past m = m
  answers_kept (receipt j k) past m = m

  -- the answers to a cut are the front of those to every later one
  pub answers_grown : (past later : List Event) → (rest : List Answer) × (answers n state (later ++ past) ≡ answers n state past ++ rest)
  unfolding answers
  answers_grown past [] = ([], sym (append-nil _))
  answers_grown past (idle i ∷ later) = answers_grown past later
  answers_grown past (mark i ∷ later) =
      let r = answers_grown past later in
      let new : List Answer = answer n i (state (later ++ past)) ∷ [] in
      (r.0 ++ new, ap (λ (l : List Answer). l ++ new) r.1 ∙ append_assoc (answers n state past) r.0 new)
  answers_grown past (send i j m ∷ later) = answers_grown past later
  answers_grown past (receipt j m ∷ later) = answers_grown past later

-- every mark of a sound cut has a right answer
pub mark_answered : {n : ℕ} {es : List Event} {p i : ℕ} → Sound n es → At es p (mark i) → (a : Answer) × Memᴰ a (answers n full es) × Right es p a
unfolding answers
mark_answered sound_nil a = elim a [ ]
mark_answered {n} {i = i} (sound_cons {past = past} h ok) at_head = (answer n i (full past), Memᴰ.append_right (answers n full past) (Memᴰ.head refl), mark_right [] past i (sound_cons h ok))
mark_answered {n} (sound_cons h ok) (at_tail {x = x} {past = past} a) =
    let r = mark_answered ok a in
    (r.0, answers_kept n full x past r.1, right_grown past (x ∷ []) (at_bound a) r.2)

-- and every answer is the right one to a mark
pub answer_marked : {n : ℕ} {es : List Event} {a : Answer} → Sound n es → Memᴰ a (answers n full es) → (p : ℕ) × Right es p a
unfolding answers
answer_marked sound_nil m = absurd (Memᴰ.not-nil m)
answer_marked {n} {a = a} (sound_cons {e = e} {past = past} h ok) m = go e h (answer_marked ok) m
  where
    old : (x : Event) → (p : ℕ) × Right past p a → (p : ℕ) × Right (x ∷ past) p a
    old x r = (r.0, right_grown past (x ∷ []) (at_bound r.1.numbered.0) r.1)

    go : (x : Event) → Allowed n past x → (Memᴰ a (answers n full past) → (p : ℕ) × Right past p a)
        → Memᴰ a (answers n full (x ∷ past)) → (p : ℕ) × Right (x ∷ past) p a
    go (idle i) h rec m = old (idle i) (rec m)
    go (mark i) h rec m =
        ⊎_elim (λ m. old (mark i) (rec m))
        (λ m. (length past, subst (λ (b : Answer). Right (mark i ∷ past) (length past) b) (sym (Memᴰ.eq_of_singleton m)) (mark_right [] past i (sound_cons h ok))))
        (Memᴰ.append_cases (answers n full past) m)
    go (send i j k) h rec m = old (send i j k) (rec m)
    go (receipt j k) h rec m = old (receipt j k) (rec m)
