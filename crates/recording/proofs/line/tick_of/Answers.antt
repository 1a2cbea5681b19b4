use Rattle.std.proofs.Common.{◌∙◌}
use Rattle.recording.proofs.LineLaws.{tick_made}
use Rattle.recording.proofs.line.tick_of.Goals as goal

pub returns : goal.returns
returns c = c.ok.ensures.value ∙ tick_made _ _ c.try_from.ensures
