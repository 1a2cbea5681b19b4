use Rattle.slash.proofs.BitLaws.{field_is}
use lib.Pow.{pow_pos}
use native.Mathlib.Omega.{arith}
use Rattle.slash.proofs.bits.field.Goals as goal

pub overflow_sub-result : goal.overflow_sub-result
overflow_sub-result c = omega (arith, c.power.ensures, pow_pos c.args.count)

pub returns : goal.returns
returns c = field_is _ _ _ _ c.power.ensures
