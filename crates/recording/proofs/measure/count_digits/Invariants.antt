use Rattle.recording.proofs.StepLaws.{Running}
use Rattle.recording.proofs.measure.count_digits.Given as goal

abbrev pub invariant-loop-i : goal.invariant-loop-i
invariant-loop-i l = Running l.bytes l.i
