-- A number in decimal digits, and a word behind it.
-- Assumes nothing.
use Rattle.std.specs.Prelude.{cond, List, [], ◌∷◌, ◌++◌, ℕ, zero, suc, ◌+◌, ◌/◌, ◌%◌, ltb}

-- the code of a digit: 48 is `0`
abbrev pub digit : ℕ → ℕ
digit d = 48 + d

-- the digits of a number that has at most so many, the first one first
unfoldable pub digits : ℕ → ℕ → List ℕ
digits zero n = []
digits (suc most) n = cond (ltb n 10) (digit n ∷ []) (digits most (n / 10) ++ (digit (n % 10) ∷ []))

-- a number in decimal, with no zero in front: n has at most n + 1 digits
unfoldable pub decimal : ℕ → List ℕ
decimal n = digits (suc n) n

-- a number and the word behind it
abbrev pub counted : ℕ → List ℕ → List ℕ
counted n word = decimal n ++ word
