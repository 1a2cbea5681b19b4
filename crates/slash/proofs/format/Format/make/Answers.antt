use Rattle.slash.proofs.AnswerLaws.{passed_on}
use mathlib.Core.Path.{sym, ◌∙◌}
use Rattle.slash.proofs.FormatLaws.{check_known, make_known, make_refused}
use Rattle.slash.proofs.format.Format.make.Goals as goal

pub returns-in_err-check : goal.returns-in_err-check
returns-in_err-check c = passed_on _ c.from_residual.ensures ∙ make_refused _ _ (sym c.in_err-check.was ∙ c.check.ensures)

pub returns : goal.returns
returns c = make_known _ _ (check_known _ c.check.ensures c.in_ok-check.was)
