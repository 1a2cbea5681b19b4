use Rattle.unary.proofs.FloorLaws.{signed_negative, signed_positive}
use Rattle.unary.proofs.operation.to_signed.Goals as goal

pub returns-then-negative : goal.returns-then-negative
returns-then-negative c = signed_negative _ c.requires _ c.if-negative.true

pub returns-else-negative : goal.returns-else-negative
returns-else-negative c = signed_positive _ c.requires _ c.if-negative.false
