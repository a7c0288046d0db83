-- What the first two bytes are behind each answer of the first record's reader, both ways, and that only they decide it. By
-- deciding the tests of its definition.
-- Assumes nothing.
use mathlib.Core.Path.{◌≡◌, refl, sym, ◌∙◌, ap, subst}
use mathlib.Core.Logic.{◌⊎◌, inl, inr, ◌≢◌, ◌↔◌}
use mathlib.Core.Bool.{Bool, true, false, cond, ◌&&◌}
use mathlib.Core.List.{List}
use Prim.Native.Nat.{ℕ, ◌<◌, ◌≤◌}
use native.Mathlib.Decide.{dec_le}
use native.Mathlib.Omega.{arith}
use lib.Dec.{eqb, leb}
use lib.ListN.{length, get_or}
use borrow.Author.Tests.{le-leb, lt-leb, leb-true, leb-false, eq-eqb, ne_eqb, eqb-true, eqb-false}
use Rattle.logs.specs.declared.Cursor.{Cursor}
use Rattle.logs.specs.declared.Refusal.{Refusal}
use Rattle.logs.specs.Record.{Opening}
use Rattle.logs.specs.Record.{place, opening_of}
use Rattle.std.specs.Prelude.{Ok, Err}
use Rattle.logs.specs.Record.{refusal}
use Rattle.logs.specs.declared.Reason.TheVariants.{NoOpening, NodeCount}

-- the bytes behind an answer
pub data Opens (log : List ℕ) : Opening → Type 0 where
  opens_missing : (length log < 2) ⊎ (¬ (get_or log 0 0 ≡ 0x10)) → Opens log (Err (refusal NoOpening 0))
  opens_range : 2 ≤ length log → get_or log 0 0 ≡ 0x10 → (get_or log 1 0 ≡ 0) ⊎ (32 < get_or log 1 0) → Opens log (Err (refusal NodeCount 1))
  opens_nodes : 2 ≤ length log → get_or log 0 0 ≡ 0x10 → 1 ≤ get_or log 1 0 → get_or log 1 0 ≤ 32 → Opens log (Ok (get_or log 1 0, place 2))

module _ (log : List ℕ) where
  pub opens : Opens log (opening_of log)
  unfolding opening_of
  opens = go _ _ _ _ refl refl refl refl
    where
      count : ℕ
      count = get_or log 1 0

      go : (b₁ b₂ b₃ b₄ : Bool) → leb 2 (length log) ≡ b₁ → eqb (get_or log 0 0) 0x10 ≡ b₂ → leb 1 count ≡ b₃ → leb count 32 ≡ b₄
          → Opens log (cond (b₁ && b₂) (cond (b₃ && b₄) (Ok (count, place 2)) (Err (refusal NodeCount 1))) (Err (refusal NoOpening 0)))
      go false b₂ b₃ b₄ e₁ e₂ e₃ e₄ = opens_missing (inl (leb-false _ _ e₁))
      go true false b₃ b₄ e₁ e₂ e₃ e₄ = opens_missing (inr (eqb-false _ _ e₂))
      go true true false b₄ e₁ e₂ e₃ e₄ = opens_range (leb-true _ _ e₁) (eqb-true _ _ e₂) (inl (let h = leb-false 1 count e₃ in omega arith))
      go true true true false e₁ e₂ e₃ e₄ = opens_range (leb-true _ _ e₁) (eqb-true _ _ e₂) (inr (leb-false _ _ e₄))
      go true true true true e₁ e₂ e₃ e₄ = opens_nodes (leb-true _ _ e₁) (eqb-true _ _ e₂) (leb-true _ _ e₃) (leb-true _ _ e₄)

  -- a log has one node count
  pub opened_one : {n m : ℕ} {c d : Cursor} → opening_of log ≡ Ok (n, c) → opening_of log ≡ Ok (m, d) → (n ≡ m) × (c ≡ d)
  opened_one {n} {m} {c} {d} e f =
      let both : (n, c) ≡ (m, d) = cc in
      (ap (λ (w : ℕ × Cursor). w.0) both, ap (λ (w : ℕ × Cursor). w.1) both)

  -- the node count lies in its range, and the records start at place 2
  pub nodes_there : {n : ℕ} {c : Cursor} → opening_of log ≡ Ok (n, c) → (c.at ≡ 2) × (2 ≤ length log) × (1 ≤ n) × (n ≤ 32)
  nodes_there e = go (subst (Opens log) e opens)
    where
      go : {n : ℕ} {c : Cursor} → Opens log (Ok (n, c)) → (c.at ≡ 2) × (2 ≤ length log) × (1 ≤ n) × (n ≤ 32)
      go (opens_nodes a b h k) = (refl, a, h, k)

  pub missing_there : {q : ℕ} → opening_of log ≡ Err (refusal NoOpening q) → q ≡ 0
  missing_there e = go (subst (Opens log) e opens)
    where
      go : {q : ℕ} → Opens log (Err (refusal NoOpening q)) → q ≡ 0
      go (opens_missing h) = refl

  pub range_there : {q : ℕ} → opening_of log ≡ Err (refusal NodeCount q) → (q ≡ 1) × (2 ≤ length log)
  range_there e = go (subst (Opens log) e opens)
    where
      go : {q : ℕ} → Opens log (Err (refusal NodeCount q)) → (q ≡ 1) × (2 ≤ length log)
      go (opens_range a b h) = (refl, a)

  -- a first record that is not read is missing, or its node count out of range
  pub unopened_there : {f : Refusal} → opening_of log ≡ Err f → (f ≡ refusal NoOpening 0) ⊎ (f ≡ refusal NodeCount 1)
  unopened_there e = go (subst (Opens log) e opens)
    where
      go : {f : Refusal} → Opens log (Err f) → (f ≡ refusal NoOpening 0) ⊎ (f ≡ refusal NodeCount 1)
      go (opens_missing h) = inl refl
      go (opens_range a b h) = inr refl

  -- where the bytes of an answer stand, it is given
  pub opens_given : {o : Opening} → Opens log o → opening_of log ≡ o
  unfolding opening_of
  opens_given (opens_missing (inl h)) = simp (lt-leb _ _ h)
  opens_given (opens_missing (inr h)) = go (dec_le 2 (length log))
    where
      go : Dec (2 ≤ length log) → opening_of log ≡ Err (refusal NoOpening 0)
      go (yes a) = simp (le-leb _ _ a, ne_eqb _ _ h)
      go (no a) = let b : length log < 2 = omega arith in simp (lt-leb _ _ b)
  opens_given (opens_range a b (inl h)) = simp (le-leb _ _ a, eq-eqb _ _ b, h)
  opens_given (opens_range a b (inr h)) = let one : 1 ≤ get_or log 1 0 = omega arith in simp (le-leb _ _ a, eq-eqb _ _ b, le-leb _ _ one, lt-leb _ _ h)
  opens_given (opens_nodes a b h k) = simp (le-leb _ _ a, eq-eqb _ _ b, le-leb _ _ h, le-leb _ _ k)

  -- where the bytes of a first record stand, it is read
  pub opens_read : {n : ℕ} {c : Cursor} → Opens log (Ok (n, c)) → opening_of log ≡ Ok (n, c)
  opens_read h = opens_given h

  -- fewer than two bytes, or the first is not 0x10: at 0
  pub missing_exactly : {q : ℕ} → (opening_of log ≡ Err (refusal NoOpening q)) ↔ ((q ≡ 0) × ((length log < 2) ⊎ (get_or log 0 0 ≢ 0x10)))
  missing_exactly = (λ e. go (subst (Opens log) e opens), λ h. rw h.0 (opens_given (opens_missing h.1)))
    where
      go : {q : ℕ} → Opens log (Err (refusal NoOpening q)) → (q ≡ 0) × ((length log < 2) ⊎ (get_or log 0 0 ≢ 0x10))
      go (opens_missing h) = (refl, h)

  -- two bytes or more, the first 0x10 and the second 0 or above 32: at 1
  pub range_exactly : {q : ℕ}
      → (opening_of log ≡ Err (refusal NodeCount q)) ↔ ((q ≡ 1) × (2 ≤ length log) × (get_or log 0 0 ≡ 0x10) × ((get_or log 1 0 ≡ 0) ⊎ (32 < get_or log 1 0)))
  range_exactly = (λ e. go (subst (Opens log) e opens), λ h. rw h.0 (opens_given (opens_range h.1 h.2 h.3)))
    where
      go : {q : ℕ} → Opens log (Err (refusal NodeCount q)) → (q ≡ 1) × (2 ≤ length log) × (get_or log 0 0 ≡ 0x10) × ((get_or log 1 0 ≡ 0) ⊎ (32 < get_or log 1 0))
      go (opens_range a b h) = (refl, a, b, h)

  -- two bytes or more, the first 0x10 and the second, from 1 to 32, the node count: the records start at place 2
  pub nodes_exactly : {n : ℕ} {c : Cursor}
      → (opening_of log ≡ Ok (n, c)) ↔ ((c.at ≡ 2) × (2 ≤ length log) × (get_or log 0 0 ≡ 0x10) × (n ≡ get_or log 1 0) × (1 ≤ n) × (n ≤ 32))
  nodes_exactly = (
    λ e. go (subst (Opens log) e opens),
    λ h. rw (h.0, h.3) (opens_given (opens_nodes h.1 h.2 (rw h.3 at h.4) (rw h.3 at h.5))),
  )
    where
      go : {n : ℕ} {c : Cursor} → Opens log (Ok (n, c)) → (c.at ≡ 2) × (2 ≤ length log) × (get_or log 0 0 ≡ 0x10) × (n ≡ get_or log 1 0) × (1 ≤ n) × (n ≤ 32)
      go (opens_nodes a b h k) = (refl, a, b, refl, h, k)

-- a log that has the same first two bytes opens in the same way
pub nodes_same : (log other : List ℕ) → 2 ≤ length other → get_or log 0 0 ≡ get_or other 0 0 → get_or log 1 0 ≡ get_or other 1 0
    → {n : ℕ} {c : Cursor} → opening_of log ≡ Ok (n, c) → opening_of other ≡ Ok (n, c)
nodes_same log other long first second e = opens_read other (go (subst (Opens log) e (opens log)))
  where
    go : {n : ℕ} {c : Cursor} → Opens log (Ok (n, c)) → Opens other (Ok (n, c))
    go (opens_nodes a b h k) = rw second (opens_nodes long (sym first ∙ b) (rw second at h) (rw second at k))
