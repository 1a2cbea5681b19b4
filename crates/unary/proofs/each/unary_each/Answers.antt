use Rattle.vectors.proofs.EachLaws.{refused}
use Rattle.unary.proofs.EachLaws.{unary_each_format, unary_each_code, unary_each_length, unary_each_stopped, unary_each_done, handed_on}
use Rattle.slash.proofs.AnswerLaws.{plain_stop, passed_on}
use Rattle.slash.proofs.FormatLaws.{check_known}
use mathlib.Core.Path.{sym, ◌∙◌}
use Rattle.unary.proofs.each.unary_each.Goals as goal

pub returns-in_err-check : goal.returns-in_err-check
returns-in_err-check c =
    let both = handed_on _ _ (passed_on _ c.from_residual.ensures) (refused _ _ (unary_each_format _ _ _ _ (sym c.in_err-check.was ∙ c.check.ensures))) in
    record { answered = both.0; stored = both.1.0; best = both.1.1 }

pub returns-then-not-is_unary : goal.returns-then-not-is_unary
returns-then-not-is_unary c =
    let known = check_known _ c.check.ensures c.in_ok-check.was in
    let both = refused _ _ (plain_stop _ 2 c.plain.ensures (unary_each_code _ _ _ _ known (sym c.is_unary.ensures ∙ c.if-not-is_unary.true))) in
    record { answered = both.0; stored = both.1.0; best = both.1.1 }

pub returns-then-operand-out : goal.returns-then-operand-out
returns-then-operand-out c =
    let known = check_known _ c.check.ensures c.in_ok-check.was in
    let both = refused _ _ (plain_stop _ 3 c.plain-then-operand-out.ensures (unary_each_length _ _ _ _ known (sym c.is_unary.ensures ∙ c.if-not-is_unary.false) c.if-operand-out.true)) in
    record { answered = both.0; stored = both.1.0; best = both.1.1 }

pub returns-in_err-check_words : goal.returns-in_err-check_words
returns-in_err-check_words c =
    let known = check_known _ c.check.ensures c.in_ok-check.was in
    let both = handed_on _ _ (passed_on _ c.from_residual-in_err-check_words.ensures) (unary_each_stopped _ _ _ _ known (sym c.is_unary.ensures ∙ c.if-not-is_unary.false) c.if-operand-out.false _ c.check_words.ensures _ c.in_err-check_words.was) in
    record { answered = both.0; stored = both.1.0; best = both.1.1 }

pub store_unary-requires : goal.store_unary-requires
store_unary-requires c = (check_known _ c.check.ensures c.in_ok-check.was, sym c.is_unary.ensures ∙ c.if-not-is_unary.false, c.if-operand-out.false)

pub returns : goal.returns
returns c =
    let known = check_known _ c.check.ensures c.in_ok-check.was in
    let both = unary_each_done _ _ _ _ known (sym c.is_unary.ensures ∙ c.if-not-is_unary.false) c.if-operand-out.false _ c.check_words.ensures c.in_ok-check_words.was _ c.store_unary.ensures in
    record { answered = both.0; stored = both.1.0; best = both.1.1 }
