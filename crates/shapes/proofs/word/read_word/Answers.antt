use mathlib.Core.Path.{◌∙◌}
use native.Mathlib.Omega.{arith}
use Rattle.shapes.proofs.WordLaws.{word_none, hexing_start, hexing_not, hexing_few, hexing_small, hexing_next, hexing_end}
use Rattle.shapes.proofs.word.read_word.Goals as goal

pub returns-then-field-ne8 : goal.returns-then-field-ne8
returns-then-field-ne8 c = word_none _ (λ e. omega (arith, e, c.if-field-ne8.true))

pub loop-b-init : goal.loop-b-init
loop-b-init c = hexing_start _

pub overflow_mul-value : goal.overflow_mul-value
overflow_mul-value c = omega (arith, hexing_few c.loop-b.invariant c.if-field-ne8.false c.loop-b-test.true)

pub returns-in_err-value : goal.returns-in_err-value
returns-in_err-value c = c.from_residual.ensures ∙ hexing_not c.loop-b.invariant c.if-field-ne8.false c.loop-b-test.true c.in_err-value.ensures

pub overflow_add-value : goal.overflow_add-value
overflow_add-value c = omega (arith, hexing_small c.loop-b.invariant c.if-field-ne8.false c.loop-b-test.true c.in_ok-value.ensures)

pub loop-b-preserved : goal.loop-b-preserved
loop-b-preserved c = hexing_next c.loop-b.invariant c.if-field-ne8.false c.loop-b-test.true c.in_ok-value.ensures

pub returns : goal.returns
returns c = hexing_end c.loop-b.invariant c.if-field-ne8.false (omega arith)
