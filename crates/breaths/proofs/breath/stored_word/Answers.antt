use Rattle.slash.proofs.AnswerLaws.{passed_on}
use Rattle.std.proofs.Common.{sym, ◌∙◌}
use Rattle.breaths.proofs.RateLaws.{stored_done, stored_stopped}
use Rattle.breaths.proofs.breath.stored_word.Goals as goal

pub returns-in_err-known-clause-defined : goal.returns-in_err-known-clause-defined
returns-in_err-known-clause-defined c = passed_on _ c.from_residual.ensures ∙ stored_stopped _ _ _ _ (sym c.in_err-known.was ∙ c.make.ensures)

pub returns : goal.returns
returns c =
    let both = stored_done _ _ _ _ _ (sym c.in_ok-known.was ∙ c.make.ensures) _ c.between-b.ensures _ (c.ratio-r.ensures.defined, (c.ratio-r.ensures.word, c.ratio-r.ensures.best)) _ c.word.ensures in
    record { defined = both.0; best = both.1 }
