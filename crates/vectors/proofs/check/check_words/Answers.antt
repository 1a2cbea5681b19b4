use Rattle.vectors.proofs.CheckLaws.{words_format, words_all}
use Rattle.slash.proofs.AnswerLaws.{passed_on}
use Rattle.slash.proofs.FormatLaws.{check_known}
use mathlib.Core.Path.{sym, ◌∙◌}
use Rattle.vectors.proofs.check.check_words.Goals as goal

pub returns-in_err-check : goal.returns-in_err-check
returns-in_err-check c = passed_on _ c.from_residual.ensures ∙ words_format _ _ (sym c.in_err-check.was ∙ c.check.ensures)

pub returns : goal.returns
returns c = c.words.ensures ∙ words_all _ _ (check_known _ c.check.ensures c.in_ok-check.was)
