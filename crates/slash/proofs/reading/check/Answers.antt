use Rattle.slash.proofs.AnswerLaws.{passed_on, plain_stop, then_stop, then_done}
use Rattle.slash.proofs.FormatLaws.{check_known, known_k, width_range}
use Rattle.slash.proofs.ReadingLaws.{above_case, check_refused, check_above, check_fixed, check_undefined, check_floating_lem}
use mathlib.Core.Path.{refl, sym, ◌∙◌}
use native.Mathlib.Omega.{arith}
use Rattle.slash.proofs.reading.check.Goals as goal

pub returns-in_err-check : goal.returns-in_err-check
returns-in_err-check c = passed_on _ c.from_residual.ensures ∙ then_stop _ (check_refused _ _ (sym c.in_err-check.was ∙ c.check.ensures))

pub word_bits-requires : goal.word_bits-requires
word_bits-requires c = check_known _ c.check.ensures c.in_ok-check.was

pub is_above-requires : goal.is_above-requires
is_above-requires c = omega (arith, c.word_bits.ensures, width_range _ (check_known _ c.check.ensures c.in_ok-check.was))

pub returns-then-is_above : goal.returns-then-is_above
returns-then-is_above c =
    let known = check_known _ c.check.ensures c.in_ok-check.was in
    plain_stop _ 4 c.plain.ensures (then_stop _ (check_above _ _ known (above_case _ _ _ _ c.word_bits.ensures c.is_above.ensures c.if-is_above.true)))

pub returns-then-f-eq-FIXED : goal.returns-then-f-eq-FIXED
returns-then-f-eq-FIXED c =
    let known = check_known _ c.check.ensures c.in_ok-check.was in
    then_done _ (check_fixed _ _ known (above_case _ _ _ _ c.word_bits.ensures c.is_above.ensures c.if-is_above.false) c.if-f-eq-FIXED.true) refl

pub invariant_of-is_undefined : goal.invariant_of-is_undefined
invariant_of-is_undefined c = let b = known_k _ (check_known _ c.check.ensures c.in_ok-check.was) in record { least = b.0; most = b.1 }

pub returns-then-is_undefined : goal.returns-then-is_undefined
returns-then-is_undefined c =
    let known = check_known _ c.check.ensures c.in_ok-check.was in
    plain_stop _ 5 c.plain-then-is_undefined.ensures
    (then_stop _ (check_undefined _ _ known (above_case _ _ _ _ c.word_bits.ensures c.is_above.ensures c.if-is_above.false) c.if-f-eq-FIXED.false (sym c.is_undefined.ensures ∙ c.if-is_undefined.true)))

pub returns : goal.returns
returns c =
    let known = check_known _ c.check.ensures c.in_ok-check.was in
    then_done _ (check_floating_lem _ _ known (above_case _ _ _ _ c.word_bits.ensures c.is_above.ensures c.if-is_above.false) c.if-f-eq-FIXED.false (sym c.is_undefined.ensures ∙ c.if-is_undefined.false)) refl
