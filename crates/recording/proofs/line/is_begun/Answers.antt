use Rattle.recording.proofs.LineLaws.{begun_empty, begun_some}
use Rattle.recording.proofs.line.is_begun.Goals as goal

pub returns-in-empty : goal.returns-in-empty
returns-in-empty c = begun_empty _ c.in-empty.len_below

pub returns-in-len1-up : goal.returns-in-len1-up
returns-in-len1-up c = begun_some _ c.in-len1-up.len_at_least
