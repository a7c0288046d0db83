-- The two loops of a line, turn by turn: one count, and one direct predecessor, behind those that are laid.
-- Assumes nothing.
use mathlib.Core.Path.{◌≡◌, refl, sym, ap, ◌∙◌}
use mathlib.Core.List.{List, [], ◌∷◌, ◌++◌, append_assoc, append-nil}
use Prim.Native.Nat.{ℕ, zero, suc, ◌+◌, ◌<◌}
use native.Mathlib.Numerals.{add-one}
use native.Mathlib.Omega.{arith}
use lib.ListN.{length, get_or, take}
use Rattle.groups.specs.Groups.{Laid}
use Rattle.words.specs.Words.{decimal}
use Rattle.groups.proofs.Laying.{and_then}
use Rattle.reading.specs.Reading.{node_at, number_here, count_at, stamp_place, stamp_at}
use Rattle.text.specs.Text.{named, name_text, stamp_text, causes_text, nearest_text}

-- the node, the dot and the number of a name
pub name_laid : {at p q r : ℕ} {room room₁ room₂ room₃ : List ℕ} (node number : ℕ)
    → Laid at (decimal node) room room₁ p → Laid p (46 ∷ []) room₁ room₂ q → Laid q (decimal number) room₂ room₃ r → Laid at (name_text node number) room room₃ r
unfolding name_text
name_laid node number f g h = and_then (and_then f g) h

-- ---- the stamp

-- one count more
pub stamp_more : (report : List ℕ) (place k : ℕ) {read count at write write' : ℕ} {room₀ room room' : List ℕ}
    → read ≡ stamp_place report place k → count ≡ count_at report read k
    → Laid at (stamp_text k (stamp_at report place)) room₀ room write → Laid write (32 ∷ decimal count) room room' write'
    → Laid at (stamp_text (k + 1) (stamp_at report place)) room₀ room' write'
unfolding stamp_text stamp_at
stamp_more report place k r c f g =
    let counted = c ∙ ap (λ (q : ℕ). count_at report q k) r in
    rw (add-one k, ← counted) (and_then f g)

-- ---- the direct predecessors

-- two runs of them, one behind the other
causes_append : (xs ys : List (ℕ × ℕ)) → causes_text (xs ++ ys) ≡ causes_text xs ++ causes_text ys
unfolding causes_text
causes_append [] ys = refl
causes_append (x ∷ xs) ys =
    ap (λ (l : List ℕ). (32 ∷ name_text x.0 x.1) ++ l) (causes_append xs ys)
    ∙ sym (append_assoc (32 ∷ name_text x.0 x.1) (causes_text xs) (causes_text ys))

-- the first ones and the one behind them
named_more : (records : List (List ℕ)) (k : ℕ) → k < length records
    → let mark = get_or records k [] in named (take (suc k) records) ≡ named (take k records) ++ ((node_at mark 0, number_here mark 0) ∷ [])
named_more [] k h = absurd (omega arith)
named_more (first ∷ rest) zero h = refl
named_more (first ∷ rest) (suc k) h = ap (λ (l : List (ℕ × ℕ)). (node_at first 0, number_here first 0) ∷ l) (named_more rest k (omega arith))

-- one more of them
pub causes_more : (records : List (List ℕ)) (k : ℕ) {at write write' : ℕ} {room₀ room room' : List ℕ} → k < length records
    → Laid at (causes_text (named (take k records))) room₀ room write
    → let mark = get_or records k [] in Laid write (32 ∷ name_text (node_at mark 0) (number_here mark 0)) room room' write'
    → Laid at (causes_text (named (take (k + 1) records))) room₀ room' write'
unfolding causes_text
causes_more records k h f g =
    let mark = get_or records k [] in
    rw (
      add-one k,
      named_more records k h,
      causes_append (named (take k records)) ((node_at mark 0, number_here mark 0) ∷ []),
      append-nil (name_text (node_at mark 0) (number_here mark 0)),
    ) (and_then f g)

-- a dash where there is none
pub nearest_none : (records : List (List ℕ)) → length records ≡ 0 → nearest_text (named records) ≡ 32 ∷ 45 ∷ []
unfolding nearest_text
nearest_none [] e = refl
nearest_none (first ∷ rest) e = absurd (omega (arith, e))

pub nearest_some : (records : List (List ℕ)) → ¬ (length records ≡ 0) → nearest_text (named records) ≡ causes_text (named records)
unfolding nearest_text
nearest_some [] h = absurd (h refl)
nearest_some (first ∷ rest) h = refl
