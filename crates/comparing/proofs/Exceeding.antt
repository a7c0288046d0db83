-- Whether an entry of one stamp exceeds the other's, and whether one differs: the computed answer is true just if there is such
-- a node, and false just if there is none, node after node.
-- Assumes nothing.
use mathlib.Core.Path.{◌≡◌, refl, sym, ◌∙◌}
use mathlib.Core.Logic.{◌↔◌, ◌⊎◌, inl, inr, ◌≢◌, ⊎_elim}
use mathlib.Core.Bool.{Bool, true, false, not, ◌||◌, true≢false, false≢true}
use Prim.Native.Nat.{ℕ, zero, suc, ◌<◌, ◌≤◌}
use native.Mathlib.Nat.{le_refl}
use native.Mathlib.Decide.{ℕ_discrete}
use native.Mathlib.Omega.{arith}
use lib.Dec.{eqb, ltb}
use borrow.Author.Tests.{ltb-true, ltb-false, eqb-true, eqb-false, not-true, not-false}
use Rattle.comparing.specs.Compare.{exceeds, differs}

-- ---- any test, node after node

-- some node below m passes it
unfoldable anywhere : ℕ → (ℕ → Bool) → Bool
anywhere zero test = false
anywhere (suc m) test = anywhere m test || test m

-- one of two tests is passed, or neither
either : (x y : Bool) → (x || y) ≡ true → (x ≡ true) ⊎ (y ≡ true)
either true y h = inl refl
either false y h = inr h

neither : (x y : Bool) → (x || y) ≡ false → (x ≡ false) × (y ≡ false)
neither true y h = absurd (true≢false h)
neither false y h = (refl, h)

module _ (test : ℕ → Bool) where
  -- true: there is one
  found : (m : ℕ) → anywhere m test ≡ true → (k : ℕ) × (k < m) × (test k ≡ true)
  unfolding anywhere
  found zero h = absurd (false≢true h)
  found (suc m) h = ⊎_elim (λ l. let (k, b, e) = found m l in (k, omega arith, e)) (λ e. (m, le_refl _, e)) (either _ _ h)

  -- false: there is none
  unfound : (m : ℕ) → anywhere m test ≡ false → (k : ℕ) → k < m → test k ≡ false
  unfolding anywhere
  unfound zero h k l = absurd (omega arith)
  unfound (suc m) h k l = let (none, last) = neither _ _ h in go last (unfound m none k) (ℕ_discrete k m)
    where
      go : test m ≡ false → (k < m → test k ≡ false) → Dec (k ≡ m) → test k ≡ false
      go last rec (yes e) = rw e last
      go last rec (no e) = rec (omega arith)

-- an answer that is true for a reason and false for its contrary is so just for these
decides : {A B : Type 0} (x : Bool) → (x ≡ true → A) → (x ≡ false → B) → (A → ¬ B) → ((x ≡ true) ↔ A) × ((x ≡ false) ↔ B)
decides true f g n = ((f, λ a. refl), (λ h. absurd (true≢false h), λ b. absurd (n (f refl) b)))
decides false f g n = ((λ h. absurd (false≢true h), λ a. absurd (n a (g refl))), (g, λ b. refl))

-- ---- two stamps

module _ (s t : ℕ → ℕ) where
  -- both questions are such tests
  exceeds_anywhere : (m : ℕ) → exceeds m s t ≡ anywhere m (λ k. ltb (t k) (s k))
  unfolding exceeds anywhere
  exceeds_anywhere zero = refl
  exceeds_anywhere (suc m) = rw (exceeds_anywhere m)

  differs_anywhere : (m : ℕ) → differs m s t ≡ anywhere m (λ k. not (eqb (s k) (t k)))
  unfolding differs anywhere
  differs_anywhere zero = refl
  differs_anywhere (suc m) = rw (differs_anywhere m)

module _ (m : ℕ) (s t : ℕ → ℕ) where
  -- the answer to the first
  exceeding : ((exceeds m s t ≡ true) ↔ ((k : ℕ) × (k < m) × (t k < s k))) × ((exceeds m s t ≡ false) ↔ ((k : ℕ) → k < m → s k ≤ t k))
  exceeding =
      decides (exceeds m s t)
      (λ h. let (k, l, e) = found (λ k. ltb (t k) (s k)) m (sym (exceeds_anywhere s t m) ∙ h) in (k, l, ltb-true _ _ e))
      (λ h k l. ltb-false _ _ (unfound (λ k. ltb (t k) (s k)) m (sym (exceeds_anywhere s t m) ∙ h) k l))
      (λ a b. omega (arith, b a.0 a.1))

  -- the answer to the second
  differing : ((differs m s t ≡ true) ↔ ((k : ℕ) × (k < m) × (s k ≢ t k))) × ((differs m s t ≡ false) ↔ ((k : ℕ) → k < m → s k ≡ t k))
  differing =
      decides (differs m s t)
      (λ h. let (k, l, e) = found (λ k. not (eqb (s k) (t k))) m (sym (differs_anywhere s t m) ∙ h) in (k, l, eqb-false _ _ (not-true _ e)))
      (λ h k l. eqb-true _ _ (not-false _ (unfound (λ k. not (eqb (s k) (t k))) m (sym (differs_anywhere s t m) ∙ h) k l)))
      (λ a b. a.2 (b a.0 a.1))

  -- some entry of the first exceeds the second's, or none does
  pub exceeds_some : (exceeds m s t ≡ true) ↔ ((k : ℕ) × (k < m) × (t k < s k))
  exceeds_some = exceeding.0

  pub exceeds_none : (exceeds m s t ≡ false) ↔ ((k : ℕ) → k < m → s k ≤ t k)
  exceeds_none = exceeding.1

  -- some entry differs, or none does
  pub differs_some : (differs m s t ≡ true) ↔ ((k : ℕ) × (k < m) × (s k ≢ t k))
  differs_some = differing.0

  pub differs_none : (differs m s t ≡ false) ↔ ((k : ℕ) → k < m → s k ≡ t k)
  differs_none = differing.1
