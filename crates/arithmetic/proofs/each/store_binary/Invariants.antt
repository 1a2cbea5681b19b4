use Rattle.vectors.specs.Places.{places}
use Rattle.arithmetic.specs.Steps.{binary_in, code_of}
use Rattle.vectors.specs.Steps.{Storing}
use Rattle.arithmetic.proofs.each.store_binary.Given as goal

abbrev pub invariant-loop-i : goal.invariant-loop-i
invariant-loop-i l = Storing (binary_in l.f (code_of l.operation)) (places l.left l.right) l.initial.out l.out l.i
