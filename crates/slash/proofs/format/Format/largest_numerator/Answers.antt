use Rattle.slash.proofs.AnswerLaws.{passed_on}
use mathlib.Core.Path.{sym}
use Rattle.slash.proofs.FormatLaws.{check_known, of_known_lem, of_refused}
use Rattle.slash.specs.Answers.{done}
use mathlib.Core.Path.{ap, ◌∙◌}
use Rattle.slash.proofs.format.Format.largest_numerator.Goals as goal

pub largest_part-requires : goal.largest_part-requires
largest_part-requires c = check_known _ c.check.ensures c.in_ok-check.was

pub returns-in_err-check : goal.returns-in_err-check
returns-in_err-check c = passed_on _ c.from_residual.ensures ∙ of_refused _ _ (sym c.in_err-check.was ∙ c.check.ensures)

pub returns : goal.returns
returns c = ap done c.largest_part.ensures ∙ of_known_lem _ _ (check_known _ c.check.ensures c.in_ok-check.was)
