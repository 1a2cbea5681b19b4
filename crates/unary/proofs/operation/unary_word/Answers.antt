use Rattle.unary.proofs.OperationLaws.{good_small, good_touched, good_written, stop_word, unary_made}
use Rattle.slash.proofs.AnswerLaws.{passed_on}
use Rattle.slash.proofs.FormatLaws.{of_known_lem}
use Rattle.slash.proofs.ReadingLaws.{check_stop, check_good, check_value, check_mark}
use mathlib.Core.Path.{refl, sym, ◌∙◌}
use Rattle.unary.proofs.operation.unary_word.Goals as goal

pub returns-in_err-x : goal.returns-in_err-x
returns-in_err-x c = passed_on _ c.from_residual.ensures ∙ stop_word _ _ _ c.requires.0 c.requires.1 (check_stop _ _ c.check.ensures c.in_err-x.was)

pub returns-then-is_sign_touch : goal.returns-then-is_sign_touch
returns-then-is_sign_touch c =
    let good = check_good _ _ c.check.ensures c.in_ok-x.was in
    let v = check_value _ _ c.check.ensures c.in_ok-x.was c.value-v.ensures in
    c.touch_sign.ensures ∙ sym (of_known_lem _ _ c.requires.0)
    ∙ unary_made _ _ _ c.requires.0 c.requires.1 good (good_touched _ _ _ good _ v _ c.is_sign_touch.ensures c.if-is_sign_touch.true)

pub exact_value-requires : goal.exact_value-requires
exact_value-requires c =
    let good = check_good _ _ c.check.ensures c.in_ok-x.was in
    let v = check_value _ _ c.check.ensures c.in_ok-x.was c.value-v.ensures in
    good_small _ c.args.code _ good _ v _ c.is_sign_touch.ensures

pub returns : goal.returns
returns c =
    let good = check_good _ _ c.check.ensures c.in_ok-x.was in
    let v = check_value _ _ c.check.ensures c.in_ok-x.was c.value-v.ensures in
    let a = check_mark _ _ c.check.ensures c.in_ok-x.was c.is_approximate.ensures in
    c.write.ensures.written
    ∙ good_written _ _ _ good _ v _ c.is_sign_touch.ensures _ _ c.if-is_sign_touch.false c.exact_value.ensures a
    ∙ unary_made _ _ _ c.requires.0 c.requires.1 good refl
