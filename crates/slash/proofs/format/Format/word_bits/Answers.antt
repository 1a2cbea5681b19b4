use Rattle.slash.proofs.FormatLaws.{known_k, slash_bits_le, width_fixed, width_floating}
use native.Mathlib.Omega.{arith}
use Rattle.slash.proofs.format.Format.word_bits.Goals as goal

pub overflow_mul-result : goal.overflow_mul-result
overflow_mul-result c = omega (arith, known_k _ c.requires)

pub overflow_add-result : goal.overflow_add-result
overflow_add-result c = omega (arith, known_k _ c.requires)

pub slash_bits-requires : goal.slash_bits-requires
slash_bits-requires c = (known_k _ c.requires).0

pub overflow_add-result-else-self-eq-FIXED : goal.overflow_add-result-else-self-eq-FIXED
overflow_add-result-else-self-eq-FIXED c =
    let h = known_k _ c.requires in
    omega (arith, h, c.slash_bits.ensures, slash_bits_le _ h.1)

pub overflow_add-result-else-self-eq-FIXED-2 : goal.overflow_add-result-else-self-eq-FIXED-2
overflow_add-result-else-self-eq-FIXED-2 c =
    let h = known_k _ c.requires in
    omega (arith, h, c.slash_bits.ensures, slash_bits_le _ h.1)

pub returns-then-self-eq-FIXED : goal.returns-then-self-eq-FIXED
returns-then-self-eq-FIXED c = width_fixed _ c.if-self-eq-FIXED.true

pub returns-else-self-eq-FIXED : goal.returns-else-self-eq-FIXED
returns-else-self-eq-FIXED c = width_floating _ c.if-self-eq-FIXED.false _ c.slash_bits.ensures
