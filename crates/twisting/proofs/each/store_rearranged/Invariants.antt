use Rattle.vectors.specs.Steps.{Storing}
use Rattle.twisting.specs.Twisting.{rearranged}
use Rattle.twisting.specs.Steps.{way_of}
use Rattle.twisting.proofs.each.store_rearranged.Given as goal

abbrev pub invariant-loop-i : goal.invariant-loop-i
invariant-loop-i l = Storing (rearranged (way_of l.way) l.layout.k) l.operand l.initial.out l.out l.i
