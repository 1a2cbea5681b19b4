use Rattle.std.proofs.Common.{sym, ◌∙◌, arith}
use Rattle.slash.proofs.AnswerLaws.{passed_on}
use Rattle.listing.proofs.WholeLaws.{list_done, list_stopped}
use Rattle.listing.proofs.listing.list.Goals as goal

pub returns-in_err-check : goal.returns-in_err-check
returns-in_err-check c =
    let both = list_stopped _ _ (sym c.in_err-check.was ∙ c.check.ensures) in
    record { answered = passed_on _ c.from_residual.ensures ∙ both.0; stored = both.1.0; best = both.1.1 }

pub returns : goal.returns
returns c =
    let both = (list_done _ _ _ _ (sym c.in_ok-check.was ∙ c.check.ensures) (omega arith) (c.put_first.ensures.answered, c.put_first.ensures.stored)) in
    record { answered = both.0; stored = both.1.0; best = both.1.1 }
