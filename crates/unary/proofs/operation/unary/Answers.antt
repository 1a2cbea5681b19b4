use Rattle.unary.proofs.OperationLaws.{stop_format, stop_code, best_answered}
use Rattle.slash.proofs.AnswerLaws.{plain_stop, passed_on}
use Rattle.slash.proofs.FormatLaws.{check_known}
use mathlib.Core.Path.{sym, ◌∙◌}
use Rattle.unary.proofs.operation.unary.Goals as goal

pub returns-in_err-check : goal.returns-in_err-check
returns-in_err-check c =
    let e = passed_on _ c.from_residual.ensures ∙ stop_format _ _ _ (sym c.in_err-check.was ∙ c.check.ensures) in
    record { written = e; best = best_answered _ _ _ e }

pub returns-then-not-is_unary : goal.returns-then-not-is_unary
returns-then-not-is_unary c =
    let known = check_known _ c.check.ensures c.in_ok-check.was in
    let e = plain_stop _ 2 c.plain.ensures (stop_code _ _ _ known (sym c.is_unary.ensures ∙ c.if-not-is_unary.true)) in
    record { written = e; best = best_answered _ _ _ e }

pub unary_word-requires : goal.unary_word-requires
unary_word-requires c = (check_known _ c.check.ensures c.in_ok-check.was, sym c.is_unary.ensures ∙ c.if-not-is_unary.false)

pub returns : goal.returns
returns c = record { written = c.unary_word.ensures; best = best_answered _ _ _ c.unary_word.ensures }
