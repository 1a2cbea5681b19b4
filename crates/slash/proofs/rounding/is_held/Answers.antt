use Rattle.slash.proofs.FormatLaws.{known_k, holds_or, holds_floating}
use Rattle.slash.proofs.BitLaws.{bit_count_le}
use lib.Pow.{pow_pos}
use native.Mathlib.Omega.{arith}
use Rattle.slash.proofs.rounding.is_held.Goals as goal

pub power-most-requires : goal.power-most-requires
power-most-requires c = omega (arith, known_k _ c.args.f.is_known)

pub overflow_sub-most : goal.overflow_sub-most
overflow_sub-most c = omega (arith, c.power-most.ensures, pow_pos c.args.f.format.k)

pub overflow_add-result : goal.overflow_add-result
overflow_add-result c =
    let a = c.args in
    omega (arith, c.bit_count.ensures, c.bit_count-else-f-eq-FIXED.ensures, bit_count_le a.r 64 (omega arith) (omega arith), bit_count_le a.s 64 (omega arith) (omega arith))

pub returns-then-f-eq-FIXED : goal.returns-then-f-eq-FIXED
returns-then-f-eq-FIXED c = holds_or _ _ _ c.if-f-eq-FIXED.true _ c.power-most.ensures

pub returns-else-f-eq-FIXED : goal.returns-else-f-eq-FIXED
returns-else-f-eq-FIXED c =
    holds_floating _ _ _ c.if-f-eq-FIXED.false _ _ c.bit_count.ensures c.bit_count-else-f-eq-FIXED.ensures
