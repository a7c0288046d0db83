-- A count has one value, which depends only on which places below its end have the property, and grows with them: by induction
-- on the count.
-- Assumes nothing.
use mathlib.Core.Path.{◌≡◌, refl, ap, subst}
use mathlib.Core.Logic.{⊎_elim}
use Prim.Native.Nat.{ℕ, suc, ◌<◌, ◌≤◌}
use native.Mathlib.Nat.{le_refl, eq-or-lt_of_le}
use native.Mathlib.Omega.{arith}
use Rattle.order.specs.Order.{Counts, counts_zero, counts_yes, counts_no}

pub counts_unique : {P : ℕ → Type 0} {m c d : ℕ} → Counts P m c → Counts P m d → c ≡ d
counts_unique counts_zero counts_zero = refl
counts_unique (counts_yes x a) (counts_yes y b) = ap suc (counts_unique a b)
counts_unique (counts_yes x a) (counts_no y b) = absurd (y x)
counts_unique (counts_no x a) (counts_yes y b) = absurd (x y)
counts_unique (counts_no x a) (counts_no y b) = counts_unique a b

-- the same places, the same count
pub counts_same : {P Q : ℕ → Type 0} {m c : ℕ} → ((p : ℕ) → p < m → P p → Q p) → ((p : ℕ) → p < m → Q p → P p) → Counts P m c → Counts Q m c
counts_same f g counts_zero = counts_zero
counts_same f g (counts_yes {m = m} x a) = counts_yes (f m (le_refl _) x) (counts_same (λ p h. f p (omega arith)) (λ p h. g p (omega arith)) a)
counts_same f g (counts_no {m = m} x a) = counts_no (λ y. x (g m (le_refl _) y)) (counts_same (λ p h. f p (omega arith)) (λ p h. g p (omega arith)) a)

-- ---- a later end

same_end : {P : ℕ → Type 0} {l m c d : ℕ} → l ≡ m → Counts P l c → Counts P m d → c ≤ d
same_end {P} {c = c} e a b = let z = counts_unique (subst (λ (x : ℕ). Counts P x c) e a) b in omega arith

-- a count does not fall as its end moves on
pub counts_grow : {P : ℕ → Type 0} {l m c d : ℕ} → l ≤ m → Counts P l c → Counts P m d → c ≤ d
counts_grow h a (counts_yes x b) = ⊎_elim (λ e. same_end e a (counts_yes x b)) (λ l. let g = counts_grow (omega arith) a b in omega arith) (eq-or-lt_of_le h)
counts_grow h a (counts_no x b) = ⊎_elim (λ e. same_end e a (counts_no x b)) (λ l. counts_grow (omega arith) a b) (eq-or-lt_of_le h)
counts_grow h a counts_zero = same_end (omega arith) a counts_zero

-- and it rises past a place that has the property
pub counts_rise : {P : ℕ → Type 0} {l m c d : ℕ} → l ≤ m → P m → Counts P l c → Counts P (suc m) d → c < d
counts_rise h x a (counts_yes y b) = let g = counts_grow h a b in omega arith
counts_rise h x a (counts_no y b) = absurd (y x)

-- ---- more places

-- a place that has a property that the last place has not is an earlier one
earlier : (P : ℕ → Type 0) {p m : ℕ} → p < suc m → P p → ¬ P m → p < m
earlier P {p} {m} h y x = ⊎_elim (λ e. let q : p ≡ m = omega arith in absurd (x (subst P q y))) (λ l. omega arith) (eq-or-lt_of_le h)

-- a property of more places has no smaller count
pub counts_more : {P Q : ℕ → Type 0} {m c d : ℕ} → ((p : ℕ) → p < m → P p → Q p) → Counts P m c → Counts Q m d → c ≤ d
counts_more f counts_zero counts_zero = le_refl _
counts_more f (counts_yes x a) (counts_yes y b) = let h = counts_more (λ p l. f p (omega arith)) a b in omega arith
counts_more f (counts_yes {m = m} x a) (counts_no y b) = absurd (y (f m (le_refl _) x))
counts_more f (counts_no x a) (counts_yes y b) = let h = counts_more (λ p l. f p (omega arith)) a b in omega arith
counts_more f (counts_no x a) (counts_no y b) = counts_more (λ p l. f p (omega arith)) a b

-- and a larger one if some place has it that has not the other
pub counts_exceed : {P Q : ℕ → Type 0} {m c d : ℕ} (p : ℕ) → ((q : ℕ) → q < m → P q → Q q) → p < m → Q p → ¬ P p → Counts P m c → Counts Q m d → c < d
counts_exceed p f h y x counts_zero counts_zero = absurd (omega arith)
counts_exceed {P} p f h y x (counts_yes z a) (counts_yes w b) =
    let l = counts_exceed p (λ q l. f q (omega arith)) (earlier (λ q. ¬ P q) h x (λ n. n z)) y x a b in
    omega arith
counts_exceed p f h y x (counts_yes {m = m} z a) (counts_no w b) = absurd (w (f m (le_refl _) z))
counts_exceed p f h y x (counts_no z a) (counts_yes w b) = let h = counts_more (λ p l. f p (omega arith)) a b in omega arith
counts_exceed {Q = Q} p f h y x (counts_no z a) (counts_no w b) = counts_exceed p (λ q l. f q (omega arith)) (earlier Q h y w) y x a b

-- ---- one place

-- a count decides each of its places
pub counts_decide : {P : ℕ → Type 0} {m c p : ℕ} → p < m → Counts P m c → Dec (P p)
counts_decide h counts_zero = absurd (omega arith)
counts_decide {P} {p = p} h (counts_yes {m = m} x a) =
    ⊎_elim (λ e. let q : m ≡ p = omega arith in yes (subst P q x)) (λ l. counts_decide (omega arith) a) (eq-or-lt_of_le h)
counts_decide {P} {p = p} h (counts_no {m = m} x a) =
    ⊎_elim (λ e. let q : p ≡ m = omega arith in no (λ y. x (subst P q y))) (λ l. counts_decide (omega arith) a) (eq-or-lt_of_le h)

-- a count is no more than its places
pub counts_bound : {P : ℕ → Type 0} {m c : ℕ} → Counts P m c → c ≤ m
counts_bound counts_zero = le_refl _
counts_bound (counts_yes x a) = let h = counts_bound a in omega arith
counts_bound (counts_no x a) = let h = counts_bound a in omega arith

-- and if it is above zero, one of them has the property
pub counts_some : {P : ℕ → Type 0} {m c : ℕ} → 0 < c → Counts P m c → (p : ℕ) × (p < m) × P p
counts_some h counts_zero = absurd (omega arith)
counts_some h (counts_yes {m = m} x a) = (m, le_refl _, x)
counts_some h (counts_no x a) = let (p, l, y) = counts_some h a in (p, omega arith, y)
