use Rattle.vectors.proofs.CheckLaws.{pairs_format, pairs_length, pairs_all}
use Rattle.slash.proofs.AnswerLaws.{passed_on, plain_stop}
use Rattle.slash.proofs.FormatLaws.{check_known}
use mathlib.Core.Path.{sym, ◌∙◌}
use Rattle.vectors.proofs.check.check_pairs.Goals as goal

pub returns-in_err-check : goal.returns-in_err-check
returns-in_err-check c = passed_on _ c.from_residual.ensures ∙ pairs_format _ _ _ (sym c.in_err-check.was ∙ c.check.ensures)

pub returns-then-left-right : goal.returns-then-left-right
returns-then-left-right c = plain_stop _ 3 c.plain.ensures (pairs_length _ _ _ (check_known _ c.check.ensures c.in_ok-check.was) c.if-left-right.true)

pub returns : goal.returns
returns c = c.pairs.ensures ∙ pairs_all _ _ _ (check_known _ c.check.ensures c.in_ok-check.was) c.if-left-right.false
