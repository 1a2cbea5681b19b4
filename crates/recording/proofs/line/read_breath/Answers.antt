use Rattle.recording.proofs.StepLaws.{breath_read}
use Rattle.recording.proofs.line.read_breath.Goals as goal

pub returns : goal.returns
returns c = breath_read c.in_ok-second.ensures c.in_ok-third.ensures c.in_ok-used.ensures _ c.between-breath.ensures
