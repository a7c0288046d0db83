-- `words::decimal` recurs on a tenth of the number, which is less.
-- Assumes nothing.
use Rattle.words.proofs.+decimal.Given as goal

abbrev pub decreases-decimal : goal.decreases-decimal
decreases-decimal l = l.n
