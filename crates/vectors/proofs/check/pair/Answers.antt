use Rattle.slash.proofs.ReadingLaws.{check_good, check_stop}
use Rattle.slash.proofs.AnswerLaws.{passed_on, then_stop, then_done}
use Rattle.vectors.specs.Checks.{check_operands}
use mathlib.Core.Path.{sym, ◌∙◌}
use Rattle.vectors.proofs.check.pair.Goals as goal

pub returns-in_err-check : goal.returns-in_err-check
unfolding check_operands
returns-in_err-check c = passed_on _ c.from_residual.ensures ∙ then_stop _ (check_stop _ _ c.check.ensures c.in_err-check.was)

pub returns-in_err-check-2 : goal.returns-in_err-check-2
unfolding check_operands
returns-in_err-check-2 c =
    passed_on _ c.from_residual-in_err-check-2.ensures
    ∙ then_done _ (sym (check_good _ _ c.check.ensures c.in_ok-check.was)) (check_stop _ _ c.check-2.ensures c.in_err-check-2.was)

pub returns : goal.returns
unfolding check_operands
returns c = then_done _ (sym (check_good _ _ c.check.ensures c.in_ok-check.was)) (sym (check_good _ _ c.check-2.ensures c.in_ok-check-2.was))
