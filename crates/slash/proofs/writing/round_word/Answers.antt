use mathlib.Core.Path.{sym, ◌∙◌}
use Rattle.slash.proofs.AnswerLaws.{passed_on, plain_stop}
use Rattle.slash.proofs.FormatLaws.{check_known}
use Rattle.slash.proofs.WritingLaws.{write_refused, ratio_over_zero, ratio_word_lem}
use Rattle.slash.proofs.writing.round_word.Goals as goal

pub returns-in_err-check-clause-written : goal.returns-in_err-check-clause-written
returns-in_err-check-clause-written c = passed_on _ c.from_residual.ensures ∙ write_refused _ _ (sym c.in_err-check.was ∙ c.check.ensures)

pub returns-then-d-eq0 : goal.returns-then-d-eq0
returns-then-d-eq0 c =
    record { written = plain_stop _ 6 c.plain.ensures (ratio_over_zero _ _ _ (check_known _ c.check.ensures c.in_ok-check.was) c.if-d-eq0.true); best = tt }

pub parts_word-requires : goal.parts_word-requires
parts_word-requires c = check_known _ c.check.ensures c.in_ok-check.was

pub returns : goal.returns
returns c =
    let both = (ratio_word_lem _ _ _ (check_known _ c.check.ensures c.in_ok-check.was) c.if-d-eq0.false _ c.parts_word.ensures) in
    record { written = both.0; best = both.1 }
