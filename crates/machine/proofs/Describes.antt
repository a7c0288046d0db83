-- Counts and flags that describe a set of places, and how they follow the set as the cut grows, an event is added, or two
-- sets are joined: the heart of demand 2, of sets alone and not of any machine.
-- Assumes nothing.
use mathlib.Core.Path.{◌≡◌, refl, sym, ◌∙◌}
use mathlib.Core.Logic.{◌⊎◌, inl, inr, ◌≢◌, ⊎_elim, ◌↔◌}
use mathlib.Core.Bool.{Bool, true, false, ◌&&◌, false≢true, and-eq-true_iff}
use mathlib.Core.List.{List, ◌∷◌}
use Prim.Native.Nat.{ℕ, suc, ◌<◌, ◌≤◌, max}
use native.Mathlib.Nat.{le_refl}
use native.Mathlib.Decide.{dec_le}
use native.Mathlib.Omega.{arith}
use lib.ListN.{length}
use Rattle.order.specs.Order.{Event, mark, At, at_head, at_tail, Before, Numbered}
use Rattle.order.proofs.Places.{at_bound, at_cases, at_down}
use Rattle.order.proofs.Before.{before_forward, before_up, before_down}
use Rattle.machine.specs.Machine.{put, meet}
use Rattle.machine.proofs.Small.{put_both, Meets, larger, smaller, equal, meets}
use Rattle.order.proofs.Growing.{numbered_up}
use Rattle.machine.proofs.Numbers.{marks, marks_same, marks_rise, numbered_cases, numbered_bound, numbered_exists, First}

-- mark number r of k is before no mark of the set S
abbrev pub Top : List Event → (ℕ → Type 0) → ℕ → ℕ → Type 0
Top es S k r = (p g l : ℕ) → Numbered es k p r → At es g (mark l) → S g → ¬ Before es p g

-- The set S of places, with an event also all before it, has just the first c k marks of each k; the flag of k is set
-- exactly if there is such a mark and the last of them is before no mark of S.
pub record Describes (es : List Event) (S : ℕ → Type 0) (c : ℕ → ℕ) (f : ℕ → Bool) : Type 0 where
  pub bound : (p : ℕ) → S p → p < length es
  pub closed : (p q : ℕ) → S p → Before es q p → S q
  pub fits : (k : ℕ) → c k ≤ marks k es
  pub first : (k : ℕ) → First k es S (c k)
  pub flags : (k : ℕ) → (f k ≡ true) ↔ ((0 < c k) × Top es S k (c k))

-- the same set
pub describes_same : {es : List Event} {S T : ℕ → Type 0} {c : ℕ → ℕ} {f : ℕ → Bool} → ((p : ℕ) → S p → T p) → ((p : ℕ) → T p → S p)
    → Describes es S c f → Describes es T c f
describes_same to from v =
    record {
      bound = λ p t. v.bound p (from p t);
      closed = λ p q t b. to q (v.closed p q (from p t) b);
      fits = v.fits;
      first = λ k. (λ p r n t. (v.first k).0 p r n (from p t), λ p r n h. to p ((v.first k).1 p r n h));
      flags = λ k. (
        λ h. let t = (v.flags k).0 h in (t.0, λ p g l n a s. t.1 p g l n a (from g s)),
        λ h. (v.flags k).1 (h.0, λ p g l n a s. h.1 p g l n a (to g s)),
      );
    }

-- what the newest event adds to a set
abbrev pub New : List Event → (ℕ → Type 0) → ℕ → Type 0
New past S p = (p ≡ length past) ⊎ S p

module _ {x : Event} {past : List Event} where
  numbered_old : {k p r : ℕ} → Numbered (x ∷ past) k p r → r ≤ marks k past → Numbered past k p r
  numbered_old n h = ⊎_elim (λ c. let z = c.2 in absurd (omega arith)) (λ o. o) (numbered_cases n)

  -- the set stays, and the cut grows
  pub describes_grown : {S : ℕ → Type 0} {c : ℕ → ℕ} {f : ℕ → Bool} → Describes past S c f → Describes (x ∷ past) S c f
  describes_grown v =
      record {
        bound = λ p s. let h = v.bound p s in omega arith;
        closed = λ p q s b. v.closed p q s (before_down (v.bound p s) b);
        fits = λ k. omega (arith, v.fits k, marks_rise k x past);
        first = λ k. (
          λ p r n s. ⊎_elim (λ c. let h = v.bound p s in absurd (omega arith)) (λ o. (v.first k).0 p r o s) (numbered_cases n),
          λ p r n h. let l = v.fits k in (v.first k).1 p r (numbered_old n (omega arith)) h,
        );
        flags = λ k. (
          λ h. let t = (v.flags k).0 h in
              (t.0, λ p g l n a s b. t.1 p g l (numbered_old n (v.fits k)) (at_down (v.bound g s) a) s (before_down (v.bound g s) b)),
          λ h. (v.flags k).1 (h.0, λ p g l n a s b. h.1 p g l (numbered_up n) (at_tail a) s (before_up b)),
        );
      }

  -- an event that is no mark is added to the set
  pub describes_add : {S : ℕ → Type 0} {c : ℕ → ℕ} {f : ℕ → Bool} → ((k : ℕ) → x ≢ mark k) → ((q : ℕ) → Before (x ∷ past) q (length past) → S q)
      → Describes past S c f → Describes (x ∷ past) (New past S) c f
  describes_add {S} {c} {f} plain preds u =
      let v : Describes (x ∷ past) S c f = describes_grown u in
      record {
        bound = λ p. ⊎_elim (λ h. omega arith) (v.bound p);
        closed = λ p q s b. inr (⊎_elim (λ h. preds q (rw h at b)) (λ s. v.closed p q s b) s);
        fits = v.fits;
        first = λ k. (λ p r n. ⊎_elim (λ h. absurd (unmarked k p h n.0)) ((v.first k).0 p r n), λ p r n h. inr ((v.first k).1 p r n h));
        flags = λ k. (
          λ h. let t = (v.flags k).0 h in (t.0, λ p g l n a. ⊎_elim (λ h. absurd (unmarked l g h a)) (t.1 p g l n a)),
          λ h. (v.flags k).1 (h.0, λ p g l n a s. h.1 p g l n a (inr s)),
        );
      }
    where
      unmarked : (k p : ℕ) → p ≡ length past → At (x ∷ past) p (mark k) → ⊥
      unmarked k p h a = ⊎_elim (λ c. plain k c.1) (λ b. let l = at_bound b in omega arith) (at_cases a)

-- the union of two sets: the larger counts, and of equal counts the lesser flag
module _ {es : List Event} {S T : ℕ → Type 0} {c d : ℕ → ℕ} {f g : ℕ → Bool} (v : Describes es S c f) (w : Describes es T d g) where
  abbrev Either : ℕ → Type 0
  Either p = S p ⊎ T p

  abbrev Joined : ℕ → ℕ → Type 0
  Joined k r = (meet (c k) (f k) (d k) (g k) ≡ true) ↔ ((0 < r) × Top es Either k r)

  joined_larger : (k : ℕ) → c k < d k → meet (c k) (f k) (d k) (g k) ≡ g k → Joined k (d k)
  joined_larger k l e = (
    λ h. let t = (w.flags k).0 (sym e ∙ h) in
        (t.0, λ p o m n a s b. ⊎_elim (λ s. let q = (v.first k).0 p (d k) n (v.closed o p s b) in omega arith) (λ s. t.1 p o m n a s b) s),
    λ h. e ∙ (w.flags k).1 (h.0, λ p o m n a s. h.1 p o m n a (inr s)),
  )

  joined_smaller : (k : ℕ) → d k < c k → meet (c k) (f k) (d k) (g k) ≡ f k → Joined k (c k)
  joined_smaller k l e = (
    λ h. let t = (v.flags k).0 (sym e ∙ h) in
        (t.0, λ p o m n a s b. ⊎_elim (λ s. t.1 p o m n a s b) (λ s. let q = (w.first k).0 p (c k) n (w.closed o p s b) in omega arith) s),
    λ h. e ∙ (v.flags k).1 (h.0, λ p o m n a s. h.1 p o m n a (inl s)),
  )

  joined_equal : (k : ℕ) → c k ≡ d k → meet (c k) (f k) (d k) (g k) ≡ f k && g k → Joined k (c k)
  joined_equal k l e = (
    λ h. let y = (and-eq-true_iff (f k) (g k)).0 (sym e ∙ h) in
        let t = (v.flags k).0 y.0 in
        let u = rw (← l) at ((w.flags k).0 y.1).1 in
        (t.0, λ p o m n a s b. ⊎_elim (λ s. t.1 p o m n a s b) (λ s. u p o m n a s b) s),
    λ h. let x = (v.flags k).1 (h.0, λ p o m n a s. h.1 p o m n a (inl s)) in
        let y = (w.flags k).1 (rw (← l) (h.0, λ p o m n a s. h.1 p o m n a (inr s))) in
        e ∙ rw (x, y),
  )

  joined : (k : ℕ) → Meets (c k) (f k) (d k) (g k) → Joined k (max (c k) (d k))
  joined k (larger l e) = let z : max (c k) (d k) ≡ d k = omega arith in rw z (joined_larger k l e)
  joined k (smaller l e) = let z : max (c k) (d k) ≡ c k = omega arith in rw z (joined_smaller k l e)
  joined k (equal l e) = let z : max (c k) (d k) ≡ c k = omega arith in rw z (joined_equal k l e)

  pub describes_join : Describes es Either (λ k. max (c k) (d k)) (λ k. meet (c k) (f k) (d k) (g k))
  describes_join =
      record {
        bound = λ p. ⊎_elim (v.bound p) (w.bound p);
        closed = λ p q s b. ⊎_elim (λ s. inl (v.closed p q s b)) (λ s. inr (w.closed p q s b)) s;
        fits = λ k. omega (arith, v.fits k, w.fits k);
        first = λ k. (
          λ p r n. ⊎_elim (λ s. omega (arith, (v.first k).0 p r n s)) (λ s. omega (arith, (w.first k).0 p r n s)),
          λ p r n h. reach k p r n h (dec_le r (c k)),
        );
        flags = λ k. joined k (meets (c k) (f k) (d k) (g k));
      }
    where
      reach : (k p r : ℕ) → Numbered es k p r → r ≤ max (c k) (d k) → Dec (r ≤ c k) → Either p
      reach k p r n h (yes l) = inl ((v.first k).1 p r n l)
      reach k p r n h (no l) = inr ((w.first k).1 p r n (omega arith))

-- a mark of i is added to a set that has just what is before it: i's count rises, and only i's flag is set
module _ {past : List Event} (i : ℕ) {S : ℕ → Type 0} {c : ℕ → ℕ} {f : ℕ → Bool} (u : Describes past S c f)
    (own : c i ≡ marks i past)
    (preds : (q : ℕ) → Before (mark i ∷ past) q (length past) → S q)
    (succs : (q : ℕ) → S q → Before (mark i ∷ past) q (length past)) where
  abbrev Fit : ℕ → ℕ → Bool → Type 0
  Fit k r x =
      (r ≤ marks k (mark i ∷ past)) × First k (mark i ∷ past) (New past S) r
      × ((x ≡ true) ↔ ((0 < r) × Top (mark i ∷ past) (New past S) k r))

  fit_own : Fit i (suc (c i)) true
  fit_own = (
    omega (arith, marks_same i past),
    (
      λ p r n s. omega (arith, (numbered_bound n).1, marks_same i past),
      λ p r n h. ⊎_elim (λ e. inl e.1) (λ o. inr ((u.first i).1 p r o (omega (arith, (numbered_bound o).1)))) (numbered_cases n),
    ),
    (
      λ h. (
        omega arith,
        λ p g l n a s b. let o = before_forward b in
            ⊎_elim (λ d. let z = d.1 in omega arith) (λ y. let z = numbered_bound y in omega arith) (numbered_cases n),
      ),
      λ h. refl,
    ),
  )

  fit_other : (k : ℕ) → i ≢ k → Fit k (c k) false
  fit_other k h = (
    omega (arith, u.fits k, marks_rise k (mark i) past),
    (
      λ p r n s. let o = old n in let b = numbered_bound o in
          ⊎_elim (λ e. absurd (omega arith)) (λ s. (u.first k).0 p r o s) s,
      λ p r n l. inr ((u.first k).1 p r (old n) l),
    ),
    (
      λ e. absurd (false≢true e),
      λ t. let n = numbered_exists k past (c k) t.0 (u.fits k) in
          absurd (t.1 n.0 (length past) i (numbered_up n.1) at_head (inl refl) (succs n.0 ((u.first k).1 n.0 (c k) n.1 (le_refl _)))),
    ),
  )
    where
      old : {p r : ℕ} → Numbered (mark i ∷ past) k p r → Numbered past k p r
      old n = ⊎_elim (λ e. absurd (h (cc))) (λ o. o) (numbered_cases n)

  fit : (k : ℕ) → Fit k (put i (suc (c i)) c k) (put i true (λ k. false) k)
  fit k = put_both (Fit k) i (suc (c i)) c true (λ k. false) k (λ h. rw (← h) fit_own) (fit_other k)

  pub describes_mark : Describes (mark i ∷ past) (New past S) (put i (suc (c i)) c) (put i true (λ k. false))
  describes_mark =
      record {
        bound = λ p. ⊎_elim (λ h. omega arith) (λ s. let h = u.bound p s in omega arith);
        closed = λ p q s b. inr (⊎_elim (λ h. preds q (rw h at b)) (λ s. u.closed p q s (before_down (u.bound p s) b)) s);
        fits = λ k. (fit k).0;
        first = λ k. (fit k).1;
        flags = λ k. (fit k).2;
      }
