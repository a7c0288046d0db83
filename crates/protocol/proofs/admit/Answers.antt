-- `admit` meets its contract: the count of events is tested first, then the record by its kind.
use Rattle.verdict.specs.Table.{breaks_12}
use Rattle.protocol.specs.Admission.{refuses}
use native.Mathlib.Omega.{arith}
use Rattle.protocol.proofs.admit.Goals as goal

pub returns-then-events-ge4096 : goal.returns-then-events-ge4096
returns-then-events-ge4096 c = λ cut many mail. rw c.at.ensures (refuses (breaks_12 (omega arith)))
