-- `words::paste` meets its contract: after k turns the first k bytes are pasted.
use mathlib.Core.Path.{◌≡◌}
use lib.Seq.{paste}
use Rattle.words.proofs.paste.Given as goal

abbrev pub invariant-loop-k : goal.invariant-loop-k
invariant-loop-k l = l.room ≡ paste l.fn.room l.at l.bytes l.k
