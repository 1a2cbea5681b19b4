use Prim.Native.Nat.{◌-◌}
use Rattle.slash.proofs.FormatLaws.{known_k, largest_fixed, largest_floating}
use lib.Pow.{pow_pos}
use native.Mathlib.Omega.{arith}
use Rattle.slash.proofs.format.Format.largest_part.Goals as goal

pub power-requires : goal.power-requires
power-requires c = omega (arith, known_k _ c.requires)

pub overflow_sub-result : goal.overflow_sub-result
overflow_sub-result c = omega (arith, c.power.ensures, pow_pos c.args.self.k)

pub overflow_sub-self : goal.overflow_sub-self
overflow_sub-self c = omega (arith, known_k _ c.requires)

pub power-requires-else-self-eq-FIXED : goal.power-requires-else-self-eq-FIXED
power-requires-else-self-eq-FIXED c = omega (arith, known_k _ c.requires)

pub overflow_sub-result-else-self-eq-FIXED : goal.overflow_sub-result-else-self-eq-FIXED
overflow_sub-result-else-self-eq-FIXED c = omega (arith, c.power-else-self-eq-FIXED.ensures, pow_pos (c.args.self.k - 1))

pub returns-then-self-eq-FIXED : goal.returns-then-self-eq-FIXED
returns-then-self-eq-FIXED c = largest_fixed _ c.if-self-eq-FIXED.true _ c.power.ensures

pub returns-else-self-eq-FIXED : goal.returns-else-self-eq-FIXED
returns-else-self-eq-FIXED c = largest_floating _ c.if-self-eq-FIXED.false _ c.power-else-self-eq-FIXED.ensures
