use Rattle.text.proofs.ColumnLaws.{unsigned_good, fraction_parts, parts_small}
use Rattle.slash.proofs.ReadingLaws.{check_stop, check_value}
use native.Mathlib.Omega.{arith}
use Rattle.text.proofs.columns.word_fraction.Goals as goal

pub returns-in_default : goal.returns-in_default
returns-in_default c = absurd (unsigned_good _ _ c.format.ensures c.requires (check_stop _ _ c.check.ensures c.in_default.is))

pub overflow_cast-result : goal.overflow_cast-result
overflow_cast-result c =
    let v = check_value _ _ c.check.ensures c.in-Ok.is c.value.ensures in
    omega (arith, parts_small _ _ c.format.ensures _ v _ c.parts_of-p.ensures)

pub overflow_cast-result-2 : goal.overflow_cast-result-2
overflow_cast-result-2 c =
    let v = check_value _ _ c.check.ensures c.in-Ok.is c.value.ensures in
    omega (arith, parts_small _ _ c.format.ensures _ v _ c.parts_of-p.ensures)

pub returns : goal.returns
returns c = fraction_parts _ _ c.format.ensures _ (check_value _ _ c.check.ensures c.in-Ok.is c.value.ensures) _ c.parts_of-p.ensures
