-- The list of the flagged nodes: who is on it, that it ascends, and that an ascending list is known by its members.
-- Assumes nothing.
use mathlib.Core.Path.{◌≡◌, refl, sym, ◌∙◌, ap, ap₂}
use mathlib.Core.Logic.{⊎_elim}
use mathlib.Core.Bool.{Bool, true, false, cond}
use mathlib.Core.List.Memᴰ
use mathlib.Core.List.{List, [], ◌∷◌, ◌++◌, append-nil, Memᴰ}
use Prim.Native.Nat.{ℕ, zero, suc, ◌<◌}
use native.Mathlib.Decide.{ℕ_discrete}
use native.Mathlib.Omega.{arith}
use Rattle.machine.specs.Answer.{flagged, Ascending, ascending_nil, ascending_cons}

same_node : {k l c d : ℕ} → ◌≡◌ {A = ℕ × ℕ} (k, c) (l, d) → k ≡ l
same_node q = ap (λ (p : ℕ × ℕ). p.0) q

-- a pair behind all others
ascending_last : {n : ℕ} (d : ℕ) {s : List (ℕ × ℕ)} → ((k c : ℕ) → Memᴰ (k, c) s → k < n) → Ascending s → Ascending (s ++ ((n, d) ∷ []))
ascending_last d h ascending_nil = ascending_cons (λ l e m. absurd (Memᴰ.not-nil m)) ascending_nil
ascending_last {n} d h (ascending_cons {k = k} {c = c} {rest = rest} o a) =
    ascending_cons
    (λ l e m. ⊎_elim (o l e)
    (λ m. let q : l ≡ n = same_node (Memᴰ.eq_of_singleton m) in rw q (h k c (Memᴰ.head refl)))
    (Memᴰ.append_cases rest m))
    (ascending_last d (λ l e m. h l e (Memᴰ.tail m)) a)

module _ (c : ℕ → ℕ) (f : ℕ → Bool) where
  -- a flagged node is on the list
  pub flagged_in : (n k : ℕ) → k < n → f k ≡ true → Memᴰ (k, c k) (flagged n c f)
  unfolding flagged
  flagged_in zero k l h = absurd (omega arith)
  flagged_in (suc n) k l h = go (ℕ_discrete k n) (λ b. flagged_in n k b h)
    where
      go : Dec (k ≡ n) → (k < n → Memᴰ (k, c k) (flagged n c f)) → Memᴰ (k, c k) (flagged n c f ++ cond (f n) ((n, c n) ∷ []) [])
      go (yes q) rec = rw (← q, h) (Memᴰ.append_right (flagged k c f) (Memᴰ.head refl))
      go (no q) rec = Memᴰ.append_left _ (rec (omega arith))

  -- and who is on it is flagged
  pub flagged_out : (n k d : ℕ) → Memᴰ (k, d) (flagged n c f) → (k < n) × (f k ≡ true) × (d ≡ c k)
  unfolding flagged
  flagged_out zero k d m = absurd (Memᴰ.not-nil m)
  flagged_out (suc n) k d m =
      ⊎_elim (λ o. let h = flagged_out n k d o in (omega arith, h.1, h.2)) (λ o. last (f n) refl o) (Memᴰ.append_cases (flagged n c f) m)
    where
      last : (x : Bool) → f n ≡ x → Memᴰ {A = ℕ × ℕ} (k, d) (cond x ((n, c n) ∷ []) []) → (k < suc n) × (f k ≡ true) × (d ≡ c k)
      last true e m =
          let q = Memᴰ.eq_of_singleton m in
          let k : k ≡ n = same_node q in
          (omega arith, ap f k ∙ e, ap (λ (p : ℕ × ℕ). p.1) q ∙ ap c (sym k))
      last false e m = absurd (Memᴰ.not-nil m)

  pub flagged_ascending : (n : ℕ) → Ascending (flagged n c f)
  unfolding flagged
  flagged_ascending zero = ascending_nil
  flagged_ascending (suc n) = last (f n) (flagged_ascending n)
    where
      last : (x : Bool) → Ascending (flagged n c f) → Ascending (flagged n c f ++ cond x ((n, c n) ∷ []) [])
      last true h = ascending_last (c n) (λ k d m. (flagged_out n k d m).0) h
      last false h = rw (append-nil (flagged n c f)) h

-- ---- an ascending list is known by its members

-- no pair is on a list behind a larger node
behind : {k l c d : ℕ} {rest : List (ℕ × ℕ)} → ((m b : ℕ) → Memᴰ (m, b) rest → l < m) → k < l → ¬ Memᴰ (k, c) ((l, d) ∷ rest)
behind {k} {l} {c} h o m =
    ⊎_elim (λ q. let z : k ≡ l = same_node q in omega arith) (λ m. let z = h k c m in omega arith) (Memᴰ.cases_cons m)

-- the pair is not the first of its list
past_first : {k l c d : ℕ} {rest : List (ℕ × ℕ)} → l < k → Memᴰ (k, c) ((l, d) ∷ rest) → Memᴰ (k, c) rest
past_first {k} {l} o m = ⊎_elim (λ q. let z : k ≡ l = same_node q in absurd (omega arith)) (λ m. m) (Memᴰ.cases_cons m)

abbrev Among : List (ℕ × ℕ) → List (ℕ × ℕ) → Type 0
Among s t = (k c : ℕ) → Memᴰ (k, c) s → Memᴰ (k, c) t

pub ascending_same : {s t : List (ℕ × ℕ)} → Ascending s → Ascending t → Among s t → Among t s → s ≡ t
ascending_same ascending_nil ascending_nil f g = refl
ascending_same ascending_nil (ascending_cons h b) f g = absurd (Memᴰ.not-nil (g _ _ (Memᴰ.head refl)))
ascending_same (ascending_cons h a) ascending_nil f g = absurd (Memᴰ.not-nil (f _ _ (Memᴰ.head refl)))
ascending_same (ascending_cons {k = k} {c = c} h a) (ascending_cons {k = l} {c = d} o b) f g =
    ap₂ ◌∷◌ heads
    (ascending_same a b
    (λ m e i. let z = h m e i in past_first (omega (arith, same)) (f m e (Memᴰ.tail i)))
    (λ m e i. let z = o m e i in past_first (omega (arith, same)) (g m e (Memᴰ.tail i))))
  where
    same : k ≡ l
    same =
        ⊎_elim same_node
        (λ m. absurd (behind h (o k c m) (g l d (Memᴰ.head refl))))
        (Memᴰ.cases_cons (f k c (Memᴰ.head refl)))

    heads : ◌≡◌ {A = ℕ × ℕ} (k, c) (l, d)
    heads = ⊎_elim (λ q. q) (λ m. let z = o k c m in absurd (omega (arith, same))) (Memᴰ.cases_cons (f k c (Memᴰ.head refl)))
