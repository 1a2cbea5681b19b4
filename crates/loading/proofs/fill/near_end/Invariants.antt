use Rattle.loading.proofs.EndLaws.{Marking}
use Rattle.loading.proofs.fill.near_end.Given as goal

abbrev pub invariant-loop-i : goal.invariant-loop-i
invariant-loop-i l = Marking l.bytes l.marks l.i
