use Rattle.recording.proofs.ReadingLaws.{Reading}
use lib.ListN.{length}
use Rattle.recording.proofs.reading.check_breaths.Given as goal

abbrev pub invariant-loop-used : goal.invariant-loop-used
invariant-loop-used l = Reading l.bytes l.breath l.rest

abbrev pub decreases-loop-used : goal.decreases-loop-used
decreases-loop-used l = length l.rest
