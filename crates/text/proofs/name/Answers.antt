-- `text::name` meets its contract: word, node, dot and number lie one behind the other.
use Rattle.groups.proofs.Laying.{and_then}
use Rattle.text.proofs.Turns.{name_laid}
use Rattle.text.proofs.name.Goals as goal

pub returns-clause-laid : goal.returns-clause-laid
returns-clause-laid c =
    and_then c.word.ensures.laid
    (name_laid _ _ c.number.ensures.laid c.word-2.ensures.laid c.number-2.ensures.laid)
