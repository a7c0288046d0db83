-- The stamp of a written group is read back: the record at the place reached is the node's own, or there is none because a
-- later node, a predecessor or the next group stands there.
-- Assumes nothing.
use mathlib.Core.Path.{◌≡◌, refl, sym, ap, ◌∙◌}
use mathlib.Core.Logic.{◌⊎◌, inl, inr}
use mathlib.Core.Bool.{true, false, and-false}
use mathlib.Core.List.{List, [], ◌∷◌, ◌++◌, append_assoc, append-nil}
use Prim.Native.Nat.{ℕ, zero, suc, ◌+◌, ◌-◌, ◌/◌, ◌%◌, ◌≤◌, ◌<◌}
use native.Mathlib.Nat.{add-zero}
use native.Mathlib.Omega.{arith}
use lib.ListN.{length, get_or, length-append}
use lib.Seq.{get_or-append-add}
use borrow.Author.Tests.{le-leb, eq-eqb, ne_eqb}
use Rattle.groups.specs.Groups.{four_bytes, stamp_record, stamp_records}
use Rattle.reading.specs.Reading.{number_at, whole_at, stamp_here, count_at, past_count, stamp_place, stamp_at}
use Rattle.reading.proofs.Standing.{count_there, count_missing, past_there, past_missing}

-- the first byte of what stands behind
pub front_byte : (xs ys : List ℕ) → get_or (xs ++ ys) (length xs) 0 ≡ get_or ys 0 0
front_byte xs ys = ap (λ (i : ℕ). get_or (xs ++ ys) i 0) (sym (add-zero (length xs))) ∙ get_or-append-add xs ys 0 0

-- ---- where a record stands

-- bytes of this kind that stand behind others are a whole record
pub whole_written : (xs ys : List ℕ) (kind size : ℕ) → size ≤ length (kind ∷ ys) → whole_at kind size (xs ++ (kind ∷ ys)) (length xs) ≡ true
unfolding whole_at
whole_written xs ys kind size h =
    let fits : length xs + size ≤ length (xs ++ (kind ∷ ys)) = omega (arith, length-append xs (kind ∷ ys)) in
    rw (le-leb _ _ fits, front_byte xs (kind ∷ ys)) (eq-eqb kind kind refl)

-- the node and the number of four bytes are read back
module _ (xs ys : List ℕ) (kind k c : ℕ) where
  pub node_written : get_or (xs ++ (four_bytes kind k c ++ ys)) (length xs + 1) 0 ≡ k
  node_written = get_or-append-add xs (four_bytes kind k c ++ ys) 1 0

  pub number_written : number_at (xs ++ (four_bytes kind k c ++ ys)) (length xs + 2) ≡ c
  number_written =
      let three : length xs + 2 + 1 ≡ length xs + 3 = omega arith in
      rw (three, get_or-append-add xs (four_bytes kind k c ++ ys) 2 0, get_or-append-add xs (four_bytes kind k c ++ ys) 3 0) (omega arith)

-- no count of node k begins these bytes
abbrev Clear : ℕ → List ℕ → Type 0
Clear k ys = (¬ (get_or ys 0 0 ≡ 0x22)) ⊎ (¬ (get_or ys 1 0 ≡ k))

clear_missing : (xs ys : List ℕ) (k : ℕ) → Clear k ys → stamp_here (xs ++ ys) (length xs) k ≡ false
unfolding stamp_here whole_at
clear_missing xs ys k (inl h) = rw (front_byte xs ys, ne_eqb _ _ h, and-false)
clear_missing xs ys k (inr h) = rw (get_or-append-add xs ys 1 0, ne_eqb _ _ h, and-false)

-- a count that was written stands there
count_stands : (xs ys : List ℕ) (k c : ℕ) → stamp_here (xs ++ (four_bytes 0x22 k c ++ ys)) (length xs) k ≡ true
unfolding stamp_here
count_stands xs ys k c =
    rw (whole_written xs (k ∷ c % 256 ∷ c / 256 ∷ ys) 0x22 4 (omega arith), node_written xs ys 0x22 k c) (eq-eqb k k refl)

-- ---- one node's count

-- it is read back, and the place moves on by its bytes, where no count of the node follows one that is 0
count_read : (xs ys : List ℕ) (k c : ℕ) → Clear k ys
    → let report = xs ++ (stamp_record k c ++ ys) in (count_at report (length xs) k ≡ c) × (past_count report (length xs) k ≡ length (xs ++ stamp_record k c))
unfolding stamp_record
count_read xs ys k zero clear =
    let missing = clear_missing xs ys k clear in
    (count_missing _ _ k missing, past_missing _ _ k missing ∙ ap length (sym (append-nil xs)))
count_read xs ys k (suc c) clear =
    let stands = count_stands xs ys k (suc c) in
    (count_there _ _ k stands ∙ number_written xs ys 0x22 k (suc c), past_there _ _ k stands ∙ sym (length-append xs (four_bytes 0x22 k (suc c))))

-- a count that has bytes is not 0
record_some : (k c : ℕ) → length (stamp_record k c) ≡ 4 → 0 < c
unfolding stamp_record
record_some k zero e = absurd (omega arith)
record_some k (suc c) e = omega arith

-- ---- the stamp

-- the counts of m nodes from node k on
stamp_rest : ℕ → ℕ → (ℕ → ℕ) → List ℕ
stamp_rest k zero stamp = []
stamp_rest k (suc m) stamp = stamp_record k (stamp k) ++ stamp_rest (suc k) m stamp

-- the counts are those below k and those from k on
stamp_split : (stamp : ℕ → ℕ) (m k : ℕ) → stamp_records (k + m) stamp ≡ stamp_records k stamp ++ stamp_rest k m stamp
unfolding stamp_records stamp_rest
stamp_split stamp zero k = rw (add-zero k) (sym (append-nil _))
stamp_split stamp (suc m) k =
    let next : k + suc m ≡ suc k + m = omega arith in
    rw next (stamp_split stamp m (suc k) ∙ append_assoc (stamp_records k stamp) (stamp_record k (stamp k)) (stamp_rest (suc k) m stamp))

-- behind the counts of later nodes no count of node k follows, if none does behind them all
rest_clear : (stamp : ℕ → ℕ) (tail : List ℕ) → ¬ (get_or tail 0 0 ≡ 0x22) → (m k i : ℕ) → k < i → Clear k (stamp_rest i m stamp ++ tail)
unfolding stamp_rest stamp_record
rest_clear stamp tail h zero k i l = inl h
rest_clear stamp tail h (suc m) k i l = go (stamp i) (rest_clear stamp tail h m k (suc i) (omega arith))
  where
    go : (c : ℕ) → Clear k (stamp_rest (suc i) m stamp ++ tail) → Clear k (stamp_record i c ++ stamp_rest (suc i) m stamp ++ tail)
    go zero r = r
    go (suc c) r = inr (λ e. omega arith)

module _ (xs : List ℕ) (stamp : ℕ → ℕ) (n : ℕ) (tail : List ℕ) (next : ¬ (get_or tail 0 0 ≡ 0x22)) where
  -- the report up to the counts below k, the count of k, and what follows
  parted : (k m : ℕ) → k + suc m ≡ n
      → xs ++ (stamp_records n stamp ++ tail) ≡ (xs ++ stamp_records k stamp) ++ (stamp_record k (stamp k) ++ (stamp_rest (suc k) m stamp ++ tail))
  unfolding stamp_rest
  parted k m e = rw (← e, stamp_split stamp (suc m) k) (simp append_assoc)

  -- at the place that the counts below k end at, the count of k is read
  step : (k : ℕ) → k < n
      → let report = xs ++ (stamp_records n stamp ++ tail) in let q = length (xs ++ stamp_records k stamp) in
      (count_at report q k ≡ stamp k) × (past_count report q k ≡ length (xs ++ stamp_records k stamp ++ stamp_record k (stamp k)))
  step k h =
      let e : k + suc (n - suc k) ≡ n = omega arith in
      rw (parted k (n - suc k) e) (count_read (xs ++ stamp_records k stamp) (stamp_rest (suc k) (n - suc k) stamp ++ tail) k (stamp k) (rest_clear stamp tail next (n - suc k) k (suc k) (omega arith)))

  -- that place is reached
  pub place_read : (k : ℕ) → k ≤ n → stamp_place (xs ++ (stamp_records n stamp ++ tail)) (length xs) k ≡ length (xs ++ stamp_records k stamp)
  unfolding stamp_place stamp_records
  place_read zero h = ap length (sym (append-nil xs))
  place_read (suc k) h =
      rw (place_read k (omega arith)) ((step k (omega arith)).1 ∙ ap length (append_assoc xs (stamp_records k stamp) (stamp_record k (stamp k))))

  -- each count is read back
  pub stamp_read : (k : ℕ) → k < n → stamp_at (xs ++ (stamp_records n stamp ++ tail)) (length xs) k ≡ stamp k
  unfolding stamp_at
  stamp_read k h = rw (place_read k (omega arith)) (step k h).0

  -- a count that stands there is not 0
  pub count_some : (k : ℕ) → k < n
      → let report = xs ++ (stamp_records n stamp ++ tail) in stamp_here report (stamp_place report (length xs) k) k ≡ true → 0 < stamp k
  count_some k h e =
      let past = past_there _ _ k (rw (place_read k (omega arith)) at e) in
      record_some k (stamp k) (omega (arith, (step k h).1, length-append (xs ++ stamp_records k stamp) (stamp_record k (stamp k))))
