use Rattle.slash.proofs.AnswerLaws.{passed_on}
use Rattle.euclid.proofs.QuotientLaws.{quotients_stop, quotients_done}
use mathlib.Core.Path.{◌∙◌}
use Rattle.euclid.proofs.quotient.quotients.Goals as goal

pub returns-in_err-p : goal.returns-in_err-p
returns-in_err-p c =
    let both = quotients_stop _ _ _ c.in_err-p.ensures in
    record { counted = passed_on _ c.from_residual.ensures ∙ both.0; stored = both.1 }

pub returns : goal.returns
returns c =
    let both = quotients_done _ _ _ c.in_ok-p.ensures _ _ (c.list.ensures.counted, c.list.ensures.stored) in
    record { counted = both.0; stored = both.1 }
