use Rattle.unary.proofs.OperationLaws.{parts_reciprocal, floor_returns, numerator_turns, ceiling_fits, ceiling_returns, mod_returns}
use Rattle.unary.specs.Operations.{exact_parts, reciprocal_parts}
use Rattle.unary.proofs.operation.exact_parts.Goals as goal

pub overflow_sub-n : goal.overflow_sub-n
overflow_sub-n c = numerator_turns _ c.requires _ c.to_signed-n.ensures

pub overflow_sub-div_euclid : goal.overflow_sub-div_euclid
overflow_sub-div_euclid c = ceiling_fits _ c.requires _ c.to_signed-n.ensures c.div_euclid-in-5.ensures

-- (the check finds it without; with it an edit of the parts is refused by the parts that differ)
pub returns-in-3 : goal.returns-in-3
unfolding reciprocal_parts
returns-in-3 c = parts_reciprocal _ _ c.in-3.is

pub returns-in-4 : goal.returns-in-4
unfolding exact_parts
returns-in-4 c = rw c.in-4.is (floor_returns _ c.requires _ c.to_signed-n.ensures c.div_euclid.ensures c.whole_parts.ensures)

pub returns-in-5 : goal.returns-in-5
unfolding exact_parts
returns-in-5 c = rw c.in-5.is (ceiling_returns _ c.requires _ c.to_signed-n.ensures c.div_euclid-in-5.ensures c.whole_parts-in-5.ensures)

pub returns-in-6 : goal.returns-in-6
unfolding exact_parts
returns-in-6 c = rw c.in-6.is (mod_returns _ c.requires _ c.to_signed-n.ensures c.rem_euclid.ensures.value)
