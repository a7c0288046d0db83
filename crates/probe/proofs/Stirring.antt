-- A room is stirred in element by element: a fold over the bytes of each element in turn is the fold over all bytes.
-- Assumes nothing.
use Rattle.std.proofs.Common.{ℕ, List, [], ◌∷◌, ◌≡◌, refl, sym, ap, ◌∙◌}
use Rattle.std.specs.List.{fold, flat_map}
use Rattle.std.proofs.lemmas.List.Sums.{fold-append}

pub fold_of_pieces : {A B C : Type 0} (step : B → C → B) (pieces : A → List C) (start : B) (xs : List A)
    → fold (λ b x. fold step b (pieces x)) start xs ≡ fold step start (flat_map pieces xs)
fold_of_pieces step pieces start [] = refl
fold_of_pieces step pieces start (x ∷ xs) =
    fold_of_pieces step pieces (fold step start (pieces x)) xs ∙ sym (fold-append step start (pieces x) (flat_map pieces xs))

-- pieces of one byte each are the bytes
pub single_bytes : (bytes : List ℕ) → flat_map (λ byte. byte ∷ []) bytes ≡ bytes
single_bytes [] = refl
single_bytes (byte ∷ rest) = ap (λ l. byte ∷ l) (single_bytes rest)
