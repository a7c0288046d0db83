-- The answer of comparing from two tests of the stamps. proofs/Weighing.antt shows that it is 01's.
-- Assumes nothing.
use Rattle.std.specs.Prelude.{Bool, true, false}
use Rattle.comparing.specs.declared.Standing.{Standing}
use Rattle.comparing.specs.declared.Standing.TheVariants.{Before, After, Apart}

-- some entry of the first stamp exceeds the second's, and some entry of the second exceeds the first's
abbrev pub judged : Bool → Bool → Standing
judged true true = Apart
judged true false = After
judged false true = Before
judged false false = Apart
