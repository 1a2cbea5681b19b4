use Rattle.recording.proofs.LineLaws.{line_long, line_read}
use Rattle.recording.proofs.line.read_any.Goals as goal

pub returns-then-bytes-k : goal.returns-then-bytes-k
returns-then-bytes-k c = line_long _ _ c.line_length-k.ensures c.if-bytes-k.true

pub returns : goal.returns
returns c = line_read _ _ c.line_length-k.ensures c.if-bytes-k.false _ c.read_fields.ensures
