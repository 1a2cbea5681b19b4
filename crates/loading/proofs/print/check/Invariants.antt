use Rattle.loading.proofs.PrintLaws.{Checking}
use Rattle.loading.proofs.print.check.Given as goal

abbrev pub invariant-loop-i : goal.invariant-loop-i
invariant-loop-i l = Checking l.words l.total l.i
