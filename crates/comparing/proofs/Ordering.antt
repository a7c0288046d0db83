-- What the comparison of two stamps says: before just if the first lies under the second, after just if the second lies under
-- the first, apart just if neither does. So it is known by the entries.
-- Assumes nothing.
use mathlib.Core.Path.{◌≡◌, refl, sym}
use mathlib.Core.Logic.{◌↔◌}
use mathlib.Core.Bool.{Bool, true, false, cond, not, ◌&&◌, false≢true}
use Prim.Native.Nat.{ℕ, ◌<◌}
use native.Mathlib.Omega.{arith}
use borrow.Author.Tests.{not-true}
use Rattle.reading.proofs.Standing.{both}
use Rattle.comparing.specs.declared.Standing.{Standing}
use Rattle.comparing.specs.declared.Standing.TheVariants.{Before, After, Apart}
use Rattle.comparing.specs.Compare.{exceeds, differs, ordered}
use Rattle.comparing.specs.Table.{Under}
use Rattle.comparing.proofs.Exceeding.{exceeds_none, differs_some}

-- of two stamps not both lie under the other
under_asymmetric : {s t : ℕ → ℕ} → Under s t → ¬ Under t s
under_asymmetric u v = let (k, l, h) = u.some_differs in h (omega (arith, u.none_exceeds k l, v.none_exceeds k l))

-- stamps that agree with these below 32 lie so too
under_same : {s s' t t' : ℕ → ℕ} → ((k : ℕ) → k < 32 → s k ≡ s' k) → ((k : ℕ) → k < 32 → t k ≡ t' k) → Under s t → Under s' t'
under_same same same' u =
    let (k, l, h) = u.some_differs in
    record {
      none_exceeds = λ k l. omega (arith, u.none_exceeds k l, same k l, same' k l);
      some_differs = (k, l, λ e. h (omega (arith, same k l, same' k l)));
    }

-- ---- the test

-- no entry exceeds and some entry differs
abbrev lies : (ℕ → ℕ) → (ℕ → ℕ) → Bool
lies s t = not (exceeds 32 s t) && differs 32 s t

-- the test is passed just if the stamp lies under the other
lies_under : (s t : ℕ → ℕ) → (lies s t ≡ true) ↔ Under s t
lies_under s t = (there, back)
  where
    there : lies s t ≡ true → Under s t
    there h =
        let (e, d) = both (not (exceeds 32 s t)) (differs 32 s t) h in
        record { none_exceeds = (exceeds_none 32 s t).0 (not-true _ e); some_differs = (differs_some 32 s t).0 d }

    back : Under s t → lies s t ≡ true
    back u = rw ((exceeds_none 32 s t).1 u.none_exceeds, (differs_some 32 s t).1 u.some_differs)

-- ---- the answer

-- what an answer says of two stamps
pub data Says (s t : ℕ → ℕ) : Standing → Type 0 where
  says_before : Under s t → Says s t Before
  says_after : Under t s → Says s t After
  says_apart : ¬ Under s t → ¬ Under t s → Says s t Apart

-- only one answer does
says_one : {s t : ℕ → ℕ} {r q : Standing} → Says s t r → Says s t q → r ≡ q
says_one (says_before u) (says_before v) = refl
says_one (says_before u) (says_after v) = absurd (under_asymmetric u v)
says_one (says_before u) (says_apart n m) = absurd (n u)
says_one (says_after u) (says_before v) = absurd (under_asymmetric u v)
says_one (says_after u) (says_after v) = refl
says_one (says_after u) (says_apart n m) = absurd (m u)
says_one (says_apart n m) (says_before v) = absurd (n v)
says_one (says_apart n m) (says_after v) = absurd (m v)
says_one (says_apart n m) (says_apart o p) = refl

-- the comparison's does
pub ordered_says : (s t : ℕ → ℕ) → Says s t (ordered s t)
unfolding ordered
ordered_says s t = go (lies s t) (lies t s) (lies_under s t) (lies_under t s)
  where
    go : (x y : Bool) → (x ≡ true) ↔ Under s t → (y ≡ true) ↔ Under t s → Says s t (cond x Before (cond y After Apart))
    go true y a b = says_before (a.0 refl)
    go false true a b = says_after (b.0 refl)
    go false false a b = says_apart (λ u. false≢true (a.1 u)) (λ u. false≢true (b.1 u))

module _ (s t : ℕ → ℕ) where
  -- before: the first lies under the second
  pub ordered_under : (ordered s t ≡ Before) ↔ Under s t
  ordered_under = (λ h. out (rw h at (ordered_says s t)), λ u. says_one (ordered_says s t) (says_before u))
    where
      out : Says s t Before → Under s t
      out (says_before u) = u

  -- after: the second lies under the first
  pub ordered_over : (ordered s t ≡ After) ↔ Under t s
  ordered_over = (λ h. out (rw h at (ordered_says s t)), λ u. says_one (ordered_says s t) (says_after u))
    where
      out : Says s t After → Under t s
      out (says_after u) = u

  -- apart: neither does
  pub ordered_neither : (ordered s t ≡ Apart) ↔ ((¬ Under s t) × (¬ Under t s))
  ordered_neither = (λ h. out (rw h at (ordered_says s t)), λ n. says_one (ordered_says s t) (says_apart n.0 n.1))
    where
      out : Says s t Apart → (¬ Under s t) × (¬ Under t s)
      out (says_apart n m) = (n, m)

-- it looks only at the entries of the nodes below 32
pub ordered_same : {s s' t t' : ℕ → ℕ} → ((k : ℕ) → k < 32 → s k ≡ s' k) → ((k : ℕ) → k < 32 → t k ≡ t' k) → ordered s t ≡ ordered s' t'
ordered_same {s} {s'} {t} {t'} same same' = says_one (moved (ordered_says s t)) (ordered_says s' t')
  where
    moved : {r : Standing} → Says s t r → Says s' t' r
    moved (says_before u) = says_before (under_same same same' u)
    moved (says_after u) = says_after (under_same same' same u)
    moved (says_apart n m) =
        says_apart (λ u. n (under_same (λ k l. sym (same k l)) (λ k l. sym (same' k l)) u)) (λ u. m (under_same (λ k l. sym (same' k l)) (λ k l. sym (same k l)) u))
