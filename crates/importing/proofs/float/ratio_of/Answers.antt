use native.Mathlib.Omega.{arith}
use Rattle.importing.proofs.FloatLaws.{exponents, ratio_of_is}
use Rattle.importing.proofs.float.ratio_of.Goals as goal

pub overflow_sub-distance : goal.overflow_sub-distance
overflow_sub-distance c = omega (arith, c.exponent_of.ensures, c.exponent_of-2.ensures, (exponents c.args.first c.args.second c.requires).0)

pub overflow_shl-significand_of : goal.overflow_shl-significand_of
overflow_shl-significand_of c = omega (arith, c.exponent_of.ensures, c.exponent_of-2.ensures, (exponents c.args.first c.args.second c.requires).1)

pub returns : goal.returns
returns c = ratio_of_is _ _ c.requires c.significand_of.ensures c.significand_of-2.ensures c.exponent_of-2.ensures c.exponent_of.ensures c.of_parts.ensures.defined
