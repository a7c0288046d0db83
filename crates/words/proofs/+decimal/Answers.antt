-- `words::decimal` meets its contract: the last digit lies behind what a tenth of the number has, or stands alone.
-- Assumes nothing.
use Rattle.groups.proofs.Laying.{and_then}
use Rattle.words.proofs.Decimals.{decimal_one, decimal_more}
use Rattle.words.proofs.+decimal.Goals as goal

pub returns-then-n-lt10 : goal.returns-then-n-lt10
returns-then-n-lt10 t c = rw (decimal_one _ c.if-n-lt10.true) c.digit.ensures

pub returns : goal.returns
returns t c = rw (decimal_more _ c.if-n-lt10.false) (and_then c.decimal-last.ensures c.digit-2.ensures)
