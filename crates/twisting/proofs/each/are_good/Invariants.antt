use Rattle.twisting.specs.Steps.{Joined}
use Rattle.twisting.proofs.each.are_good.Given as goal

abbrev pub invariant-loop-w : goal.invariant-loop-w
invariant-loop-w l = Joined l.layout.k l.operand l.above l.next l.w-index
