use Rattle.loading.proofs.FillLaws.{Filling}
use Rattle.loading.proofs.fill.fill_lists.Given as goal

abbrev pub invariant-loop-i : goal.invariant-loop-i
invariant-loop-i l = Filling l.text l.count l.initial.numbers l.initial.words l.numbers l.words l.from l.i
