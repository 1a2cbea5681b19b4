use Rattle.std.proofs.Common.{arith}
use Rattle.recording.proofs.ReadingLaws.{next_quick}
use Rattle.recording.proofs.StepLaws.{breath_found}
use Rattle.recording.proofs.reading.next_breath.Goals as goal

pub returns-in-Some : goal.returns-in-Some
returns-in-Some c = next_quick _ (omega (arith, c.if-breath-le-MOST_BREATHS.true)) _ _ (breath_found _ c.read_breath.ensures c.in-Some.is)
