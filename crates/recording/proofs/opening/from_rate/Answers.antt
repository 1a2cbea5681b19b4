use Rattle.std.proofs.Common.{ap, sym, ◌∙◌}
use Rattle.std.specs.Prelude.{Err}
use Rattle.recording.proofs.OpeningLaws.{rate_wrong, rate_good, rate_bad}
use Rattle.recording.proofs.LineLaws.{handed_on}
use Rattle.recording.proofs.opening.from_rate.Goals as goal

pub returns-in_err-ticks : goal.returns-in_err-ticks
returns-in_err-ticks c =
    handed_on c.in_err-ticks.ensures.ok_part c.in_err-ticks.ensures.value c.from_residual.ensures ∙ ap Err c.stop_at_first-refused.ensures
    ∙ rate_wrong _ _ c.in_err-ticks.ensures.ok_part

pub returns-in-Ok : goal.returns-in-Ok
returns-in-Ok c = rate_good _ _ _ c.in_ok-ticks.ensures.ok_part _ (sym c.make.ensures ∙ c.in-Ok.is)

pub returns-in-Err : goal.returns-in-Err
returns-in-Err c = ap Err c.stop_at_first-refused.ensures ∙ rate_bad _ _ _ c.in_ok-ticks.ensures.ok_part (sym c.make.ensures ∙ c.in-Err.is)
