use Rattle.recording.proofs.OpeningLaws.{first_none, first_long, first_read}
use mathlib.Core.Path.{ap, ◌∙◌}
use Rattle.std.specs.Prelude.{Err}
use Rattle.recording.proofs.opening.first_line.Goals as goal

pub returns-then-bytes-eq0 : goal.returns-then-bytes-eq0
returns-then-bytes-eq0 c = first_none _ c.if-bytes-eq0.true

pub returns-then-bytes-k : goal.returns-then-bytes-k
returns-then-bytes-k c = ap Err c.stop_at_first.ensures ∙ first_long _ c.if-bytes-eq0.false _ c.line_length-k.ensures c.if-bytes-k.true

pub returns : goal.returns
returns c = first_read _ c.if-bytes-eq0.false _ c.line_length-k.ensures c.if-bytes-k.false _ c.read_rate.ensures
