use Rattle.unary.proofs.OperationLaws.{whole_is}
use Rattle.unary.proofs.operation.whole_parts.Goals as goal

pub returns : goal.returns
returns c = whole_is _ c.ranges.n c.unsigned_abs.ensures.value
