use Rattle.slash.proofs.AnswerLaws.{passed_on}
use Rattle.euclid.proofs.QuotientLaws.{count_stop, count_done}
use mathlib.Core.Path.{◌∙◌}
use Rattle.euclid.proofs.quotient.quotient_count.Goals as goal

pub returns-in_err-p : goal.returns-in_err-p
returns-in_err-p c = passed_on _ c.from_residual.ensures ∙ count_stop _ _ c.in_err-p.ensures

pub returns : goal.returns
returns c = count_done _ _ c.in_ok-p.ensures c.count.ensures
