use Rattle.unary.proofs.OperationLaws.{untold, width_told, touch_done}
use Rattle.slash.proofs.AnswerLaws.{passed_on}
use native.Mathlib.Omega.{arith}
use mathlib.Core.Path.{sym, ◌∙◌}
use Rattle.unary.proofs.sign.touch_sign.Goals as goal

pub returns-in_err-width : goal.returns-in_err-width
returns-in_err-width c = passed_on _ c.from_residual.ensures ∙ untold _ _ _ (sym c.in_err-width.was ∙ c.width.ensures)

pub overflow_sub-width : goal.overflow_sub-width
overflow_sub-width c = omega (arith, width_told _ (sym c.in_ok-width.was ∙ c.width.ensures))

pub touch_highest-requires : goal.touch_highest-requires
touch_highest-requires c = omega (arith, width_told _ (sym c.in_ok-width.was ∙ c.width.ensures))

pub returns : goal.returns
returns c = touch_done _ _ _ (sym c.in_ok-width.was ∙ c.width.ensures) c.touch_highest.ensures
