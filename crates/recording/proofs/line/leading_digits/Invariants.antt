use Rattle.recording.proofs.LineLaws.{Leading}
use Rattle.recording.proofs.line.leading_digits.Given as goal

abbrev pub invariant-loop-i : goal.invariant-loop-i
invariant-loop-i l = Leading l.bytes l.value l.i
