use Rattle.recording.proofs.StepLaws.{length_found}
use Rattle.recording.proofs.measure.breath_length.Goals as goal

pub returns : goal.returns
returns c = length_found c.in_ok-second.ensures c.in_ok-third.ensures _ c.tick_end-3.ensures
