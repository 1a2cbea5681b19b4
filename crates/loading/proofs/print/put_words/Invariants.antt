use Rattle.loading.proofs.PrintLaws.{Putting}
use Rattle.loading.proofs.print.put_words.Given as goal

abbrev pub invariant-loop-i : goal.invariant-loop-i
invariant-loop-i l = Putting l.initial.out l.words l.out l.at l.i
