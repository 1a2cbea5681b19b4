use Rattle.std.proofs.Common.{ap, ◌∙◌, arith}
use Rattle.std.specs.Prelude.{Err}
use Rattle.recording.proofs.ReadingLaws.{next_none, next_over, next_read, next_refused}
use Rattle.recording.proofs.reading.any_line.Goals as goal

pub returns-then-bytes-eq0 : goal.returns-then-bytes-eq0
returns-then-bytes-eq0 c = next_none _ _ c.if-bytes-eq0.true

pub returns-then-breath-gt-MOST_BREATHS : goal.returns-then-breath-gt-MOST_BREATHS
returns-then-breath-gt-MOST_BREATHS c = ap Err c.stop_at.ensures ∙ next_over _ _ c.if-bytes-eq0.false (omega (arith, c.if-breath-gt-MOST_BREATHS.true))

pub returns-in-Ok : goal.returns-in-Ok
returns-in-Ok c = next_read _ _ c.if-bytes-eq0.false (omega (arith, c.if-breath-gt-MOST_BREATHS.false)) _ c.read_any.ensures _ c.in-Ok.is

pub returns-in-Err : goal.returns-in-Err
returns-in-Err c =
    ap Err c.stop_at-in-Err.ensures ∙ next_refused _ _ c.if-bytes-eq0.false (omega (arith, c.if-breath-gt-MOST_BREATHS.false)) _ c.read_any.ensures _ c.in-Err.is
