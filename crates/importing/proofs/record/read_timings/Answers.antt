use mathlib.Core.Path.{sym, ◌∙◌}
use native.Mathlib.Nat.{lt_of_le_of_lt}
use Rattle.slash.proofs.AnswerLaws.{plain_stop}
use Rattle.importing.proofs.FloatLaws.{nan_free}
use Rattle.importing.proofs.RecordLaws.{timings_held, not_timings, untimed, timed_floats}
use Rattle.importing.proofs.record.read_timings.Goals as goal

pub returns-then-not-are_timings : goal.returns-then-not-are_timings
returns-then-not-are_timings c = plain_stop _ 18 c.plain.ensures (untimed _ _ (not_timings _ _ (sym c.are_timings.ensures ∙ c.if-not-are_timings.true)))

pub float_from_bits-inspiration : goal.float_from_bits-inspiration
float_from_bits-inspiration c =
    let o = timings_held _ _ (sym c.are_timings.ensures ∙ c.if-not-are_timings.false) in
    nan_free _ (lt_of_le_of_lt o.order o.below)

pub float_from_bits-whole : goal.float_from_bits-whole
float_from_bits-whole c = nan_free _ (timings_held _ _ (sym c.are_timings.ensures ∙ c.if-not-are_timings.false)).below

pub returns : goal.returns
returns c = timed_floats _ _ (timings_held _ _ (sym c.are_timings.ensures ∙ c.if-not-are_timings.false))
