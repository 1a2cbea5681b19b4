use Rattle.std.proofs.Common.{sym, ◌∙◌}
use Rattle.recording.proofs.StepLaws.{tick_ends}
use Rattle.recording.proofs.measure.tick_end.Goals as goal

pub returns : goal.returns
returns c = tick_ends _ c.requires c.count_digits.ensures c.if-bytes-k.false (sym c.is_begun.ensures ∙ c.if-not-is_begun.false)
