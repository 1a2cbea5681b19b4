use Rattle.slash.proofs.AnswerLaws.{passed_on, plain_stop}
use Rattle.slash.proofs.FormatLaws.{check_known}
use Rattle.slash.proofs.WritingLaws.{write_refused, write_over_zero, write_word}
use mathlib.Core.Path.{sym, ◌∙◌}
use Rattle.slash.proofs.writing.write.Goals as goal

pub returns-in_err-check-clause-written : goal.returns-in_err-check-clause-written
returns-in_err-check-clause-written c = passed_on _ c.from_residual.ensures ∙ write_refused _ _ (sym c.in_err-check.was ∙ c.check.ensures)

pub returns-then-is_over_zero : goal.returns-then-is_over_zero
returns-then-is_over_zero c =
    let known = check_known _ c.check.ensures c.in_ok-check.was in
    record { written = plain_stop _ 6 c.plain.ensures (write_over_zero _ _ known (sym c.is_over_zero.ensures ∙ c.if-is_over_zero.true)); best = tt }

pub value_word-requires : goal.value_word-requires
value_word-requires c = sym c.is_over_zero.ensures ∙ c.if-is_over_zero.false

pub invariant_of-value_word : goal.invariant_of-value_word
invariant_of-value_word c = record { is_known = check_known _ c.check.ensures c.in_ok-check.was }

pub returns : goal.returns
returns c =
    let both = (let known = check_known _ c.check.ensures c.in_ok-check.was in
    write_word _ _ known (sym c.is_over_zero.ensures ∙ c.if-is_over_zero.false) _ c.value_word.ensures) in
    record { written = both.0; best = both.1 }
