use Rattle.arithmetic.proofs.ComparisonLaws.{compare_left, compare_right, compare_both}
use Rattle.arithmetic.proofs.OperandLaws.{checked_operand}
use Rattle.slash.proofs.AnswerLaws.{passed_on}
use Rattle.slash.proofs.ReadingLaws.{check_stopped, check_good, check_value, check_read}
use mathlib.Core.Path.{◌∙◌, ap}
use Rattle.arithmetic.specs.Comparison.{comparison_outcome}
use Rattle.arithmetic.proofs.comparison.compare.Goals as goal

pub compare_values-requires : goal.compare_values-requires
compare_values-requires c =
    let left = check_good _ _ c.check.ensures c.in_ok-x.was in
    let right = check_good _ _ c.check-2.ensures c.in_ok-y.was in (
      checked_operand _ _ left _ (check_value _ _ c.check.ensures c.in_ok-x.was c.value-v.ensures),
      checked_operand _ _ right _ (check_value _ _ c.check-2.ensures c.in_ok-y.was c.value-w.ensures),
    )

pub returns-in_err-x : goal.returns-in_err-x
returns-in_err-x c = ap comparison_outcome (passed_on _ c.from_residual.ensures) ∙ compare_left _ _ _ (check_stopped _ _ c.check.ensures c.in_err-x.was)

pub returns-in_err-y : goal.returns-in_err-y
returns-in_err-y c =
    ap comparison_outcome (passed_on _ c.from_residual-in_err-y.ensures)
    ∙ compare_right _ _ _ _ (check_read _ _ c.check.ensures c.in_ok-x.was) (check_stopped _ _ c.check-2.ensures c.in_err-y.was)

pub returns : goal.returns
returns c =
    compare_both _ _ _ (check_good _ _ c.check.ensures c.in_ok-x.was) (check_good _ _ c.check-2.ensures c.in_ok-y.was) _ _ (check_value _ _ c.check.ensures c.in_ok-x.was c.value-v.ensures)
    (check_value _ _ c.check-2.ensures c.in_ok-y.was c.value-w.ensures) _ c.compare_values.ensures
