use mathlib.Core.Path.{sym, ◌∙◌}
use mathlib.Core.Logic.{⊎_elim}
use native.Mathlib.Nat.{lt_of_le_of_lt}
use Rattle.slash.proofs.AnswerLaws.{plain_stop}
use Rattle.importing.proofs.FloatLaws.{nan_free}
use Rattle.importing.proofs.RecordLaws.{timings_held, not_timings, not_given, given_float}
use Rattle.importing.proofs.record.read_ratio.Goals as goal

pub returns-then-not-are_timings : goal.returns-then-not-are_timings
returns-then-not-are_timings c =
    plain_stop _ 18 c.plain.ensures
    (not_given _ _ (λ o z. ⊎_elim (λ e. not_timings _ _ (sym c.are_timings.ensures ∙ e) o) (λ e. e.1 z) c.then-not-are_timings.either))

pub float_from_bits-result : goal.float_from_bits-result
float_from_bits-result c =
    let o = timings_held _ _ (sym c.are_timings.ensures ∙ c.if-not-are_timings.false) in
    nan_free _ (lt_of_le_of_lt o.order o.below)

pub returns : goal.returns
returns c = given_float _ _ (timings_held _ _ (sym c.are_timings.ensures ∙ c.if-not-are_timings.false)) c.if-second-ne0.false
