-- The marks of a node have the numbers from 1 to how many there are, and a set that has just the first c of them has c of
-- them: by induction on the cut.
-- Assumes nothing.
use mathlib.Core.Path.{◌≡◌, refl, ap, subst}
use mathlib.Core.Logic.{◌⊎◌, inl, inr, ◌≢◌, ⊎_elim}
use mathlib.Core.Bool.{cond}
use mathlib.Core.List.{List, [], ◌∷◌}
use Prim.Native.Nat.{ℕ, suc, ◌<◌, ◌≤◌, min}
use native.Mathlib.Decide.{ℕ_discrete, dec_le}
use native.Mathlib.Omega.{arith}
use lib.Dec.{eqb}
use lib.ListN.{length}
use borrow.Author.Tests.{eq-eqb, ne_eqb}
use Rattle.order.specs.Order.{Event, idle, mark, send, receipt, At, at_head, at_tail, Counts, counts_zero, counts_yes, counts_no, Numbered}
use Rattle.order.proofs.Places.{at_bound, at_cases, at_down}
use Rattle.order.proofs.Counts.{counts_unique, counts_same, counts_grow, counts_rise}
use Rattle.order.proofs.Growing.{numbered_up, numbered_down}
use Rattle.machine.proofs.Small.{differ}

-- how many marks of k the cut has
unfoldable pub marks : ℕ → List Event → ℕ
marks k [] = 0
marks k (idle i ∷ past) = marks k past
marks k (mark i ∷ past) = cond (eqb i k) (suc (marks k past)) (marks k past)
marks k (send i j m ∷ past) = marks k past
marks k (receipt j m ∷ past) = marks k past

pub marks_same : (k : ℕ) (past : List Event) → marks k (mark k ∷ past) ≡ suc (marks k past)
unfolding marks
marks_same k past = rw (eq-eqb k k refl)

pub marks_other : (k : ℕ) (e : Event) (past : List Event) → e ≢ mark k → marks k (e ∷ past) ≡ marks k past
unfolding marks
marks_other k (idle i) past h = refl
marks_other k (mark i) past h = rw (ne_eqb i k (λ q. h (ap mark q)))
marks_other k (send i j m) past h = refl
marks_other k (receipt j m) past h = refl

pub dec_mark : (k : ℕ) (e : Event) → Dec (e ≡ mark k)
dec_mark k (idle i) = no (differ (λ z. omega arith))
dec_mark k (mark i) = go (ℕ_discrete i k)
  where
    go : Dec (i ≡ k) → Dec (mark i ≡ mark k)
    go (yes e) = yes (ap mark e)
    go (no e) = no (λ h. e (cc))
dec_mark k (send i j m) = no (differ (λ z. omega arith))
dec_mark k (receipt j m) = no (differ (λ z. omega arith))

pub marks_rise : (k : ℕ) (e : Event) (past : List Event) → marks k past ≤ marks k (e ∷ past)
marks_rise k e past = go (dec_mark k e)
  where
    go : Dec (e ≡ mark k) → marks k past ≤ marks k (e ∷ past)
    go (yes h) = rw h (omega (arith, marks_same k past))
    go (no h) = omega (arith, marks_other k e past h)

-- ---- the number of a mark

-- the marks of k in the cut are `marks k` in number
pub counts_marks : (k : ℕ) (es : List Event) → Counts (λ p. At es p (mark k)) (length es) (marks k es)
unfolding marks
counts_marks k [] = counts_zero
counts_marks k (e ∷ past) = go (dec_mark k e) (counts_same (λ p h a. at_tail a) (λ p h a. at_down h a) (counts_marks k past))
  where
    go : Dec (e ≡ mark k) → Counts (λ p. At (e ∷ past) p (mark k)) (length past) (marks k past)
        → Counts (λ p. At (e ∷ past) p (mark k)) (suc (length past)) (marks k (e ∷ past))
    go (yes h) rec = rw (ap (λ (y : Event). marks k (y ∷ past)) h, marks_same k past) (counts_yes {m = length past} (rw h at_head) rec)
    go (no h) rec = rw (marks_other k e past h) (counts_no {m = length past} (λ a. ⊎_elim (λ c. h c.1) (λ b. let l = at_bound b in omega arith) (at_cases a)) rec)

-- the newest mark of k has the next number
pub numbered_new : (k : ℕ) (past : List Event) → Numbered (mark k ∷ past) k (length past) (suc (marks k past))
numbered_new k past = (at_head, rw marks_same at (counts_marks k (mark k ∷ past)))

pub numbered_cases : {k : ℕ} {e : Event} {past : List Event} {p r : ℕ} → Numbered (e ∷ past) k p r
    → ((e ≡ mark k) × (p ≡ length past) × (r ≡ suc (marks k past))) ⊎ Numbered past k p r
numbered_cases {k} {e} {past} {p} {r} n = ⊎_elim (λ c. inl (c.1, c.0, newest c.0 c.1)) (λ a. inr (numbered_down (at_bound a) n)) (at_cases n.0)
  where
    newest : p ≡ length past → e ≡ mark k → r ≡ suc (marks k past)
    newest h q =
        let n : Numbered (e ∷ past) k (length past) r = rw h at n in
        let n = subst (λ (y : Event). Numbered (y ∷ past) k (length past) r) q n in
        counts_unique n.1 (numbered_new k past).1

pub numbered_bound : {k : ℕ} {es : List Event} {p r : ℕ} → Numbered es k p r → (0 < r) × (r ≤ marks k es) × (p < length es)
numbered_bound {k} {es} n = let l = at_bound n.0 in (counts_rise (omega arith) n.0 counts_zero n.1, counts_grow l n.1 (counts_marks k es), l)

pub numbered_exists : (k : ℕ) (es : List Event) (r : ℕ) → 0 < r → r ≤ marks k es → (p : ℕ) × Numbered es k p r
unfolding marks
numbered_exists k [] r h l = absurd (omega arith)
numbered_exists k (e ∷ past) r h l = go (dec_mark k e) (dec_le r (marks k past)) (numbered_exists k past r h)
  where
    go : Dec (e ≡ mark k) → Dec (r ≤ marks k past) → (r ≤ marks k past → (p : ℕ) × Numbered past k p r) → (p : ℕ) × Numbered (e ∷ past) k p r
    go d (yes b) rec = let n = rec b in (n.0, numbered_up n.1)
    go (yes d) (no b) rec =
        let t = subst (λ (x : Event). r ≤ marks k (x ∷ past)) d l in
        let q : r ≡ suc (marks k past) = omega (arith, marks_same k past) in
        (length past, rw (d, q) (numbered_new k past))
    go (no d) (no b) rec = absurd (omega (arith, marks_other k e past d))

-- ---- the first marks of a node

-- S has just the marks of k up to number c
abbrev pub First : ℕ → List Event → (ℕ → Type 0) → ℕ → Type 0
First k es S c = ((p r : ℕ) → Numbered es k p r → S p → r ≤ c) × ((p r : ℕ) → Numbered es k p r → r ≤ c → S p)

counts_min : (k : ℕ) (es : List Event) (S : ℕ → Type 0) (c : ℕ) → First k es S c
    → (d : ℕ) → d ≡ min c (marks k es) → Counts (λ p. At es p (mark k) × S p) (length es) d
unfolding marks
counts_min k [] S c f d h = let z : d ≡ 0 = omega arith in rw z counts_zero
counts_min k (e ∷ past) S c f d h =
    go (dec_mark k e) (dec_le (suc (marks k past)) c)
    (counts_same (λ p b a. (at_tail a.0, a.1)) (λ p b a. (at_down b a.0, a.1))
    (counts_min k past S c (λ p r n. f.0 p r (numbered_up n), λ p r n. f.1 p r (numbered_up n)) (min c (marks k past)) refl))
  where
    P : ℕ → Type 0
    P p = At (e ∷ past) p (mark k) × S p

    go : Dec (e ≡ mark k) → Dec (suc (marks k past) ≤ c) → Counts P (length past) (min c (marks k past)) → Counts P (suc (length past)) d
    go (yes q) b rec = newest b
      where
        n : Numbered (e ∷ past) k (length past) (suc (marks k past))
        n = rw q (numbered_new k past)

        t : d ≡ min c (marks k (mark k ∷ past))
        t = subst (λ (x : Event). d ≡ min c (marks k (x ∷ past))) q h

        newest : Dec (suc (marks k past) ≤ c) → Counts P (suc (length past)) d
        newest (yes b) =
            let z : d ≡ suc (min c (marks k past)) = omega (arith, t, marks_same k past) in
            rw z (counts_yes (n.0, f.1 _ _ n b) rec)
        newest (no b) =
            let z : d ≡ min c (marks k past) = omega (arith, t, marks_same k past) in
            rw z (counts_no (λ x. b (f.0 _ _ n x.1)) rec)
    go (no q) b rec =
        let z : d ≡ min c (marks k past) = omega (arith, marks_other k e past q) in
        rw z (counts_no {m = length past} (λ x. ⊎_elim (λ y. q y.1) (λ y. let l = at_bound y in omega arith) (at_cases x.0)) rec)

-- a set that has just the first c marks of k has c of them
pub counts_first : (k : ℕ) (es : List Event) (S : ℕ → Type 0) (c : ℕ) → c ≤ marks k es → First k es S c
    → Counts (λ p. At es p (mark k) × S p) (length es) c
counts_first k es S c h f = counts_min k es S c f c (omega arith)
