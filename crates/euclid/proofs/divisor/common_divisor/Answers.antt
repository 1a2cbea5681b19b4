use native.Mathlib.Omega.{arith}
use Rattle.euclid.proofs.DivisorLaws.{common_next, common_end, greatest_is}
use Rattle.euclid.proofs.divisor.common_divisor.Goals as goal

pub loop-v-preserved : goal.loop-v-preserved
loop-v-preserved c = common_next c.loop-v.invariant

pub returns : goal.returns
returns c = greatest_is _ _ _ (common_end c.loop-v.invariant (omega arith))
