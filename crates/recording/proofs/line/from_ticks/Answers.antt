use Rattle.std.proofs.Common.{◌∙◌}
use Rattle.recording.proofs.LineLaws.{handed_on, ticks_onset, ticks_peak, ticks_next, ticks_read}
use Rattle.recording.proofs.line.from_ticks.Goals as goal

pub returns-in_err-o : goal.returns-in_err-o
returns-in_err-o c = handed_on c.in_err-o.ensures.ok_part c.in_err-o.ensures.value c.from_residual.ensures ∙ ticks_onset _ _ _ _ c.in_err-o.ensures.ok_part

pub returns-in_err-p : goal.returns-in_err-p
returns-in_err-p c =
    handed_on c.in_err-p.ensures.ok_part c.in_err-p.ensures.value c.from_residual-in_err-p.ensures
    ∙ ticks_peak _ _ _ _ _ c.in_ok-o.ensures.ok_part c.in_err-p.ensures.ok_part

pub returns-in_err-n : goal.returns-in_err-n
returns-in_err-n c =
    handed_on c.in_err-n.ensures.ok_part c.in_err-n.ensures.value c.from_residual-in_err-n.ensures
    ∙ ticks_next _ _ _ _ _ c.in_ok-o.ensures.ok_part _ c.in_ok-p.ensures.ok_part c.in_err-n.ensures.ok_part

pub returns : goal.returns
returns c = ticks_read _ _ _ _ _ c.in_ok-o.ensures.ok_part _ c.in_ok-p.ensures.ok_part _ c.in_ok-n.ensures.ok_part _ c.between-breath.ensures
