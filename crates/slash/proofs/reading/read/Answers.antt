use mathlib.Core.Path.{◌∙◌}
use Rattle.slash.proofs.AnswerLaws.{passed_on}
use Rattle.slash.proofs.ReadingLaws.{check_stopped, check_good, check_value, check_mark, checked_done}
use Rattle.slash.proofs.reading.read.Goals as goal

pub returns-in_err-g : goal.returns-in_err-g
returns-in_err-g c = passed_on _ c.from_residual.ensures ∙ check_stopped _ _ c.check.ensures c.in_err-g.was

pub returns : goal.returns
returns c = checked_done _ _ (check_good _ _ c.check.ensures c.in_ok-g.was) _ _ (check_value _ _ c.check.ensures c.in_ok-g.was c.value-v.ensures) (check_mark _ _ c.check.ensures c.in_ok-g.was c.is_approximate.ensures)
