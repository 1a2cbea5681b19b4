use Rattle.slash.specs.Steps.{or_zero}
use Rattle.unary.specs.Operations.{unary_word}
use Rattle.vectors.specs.Steps.{Storing}
use Rattle.unary.proofs.each.store_unary.Given as goal

abbrev pub invariant-loop-i : goal.invariant-loop-i
invariant-loop-i l = Storing (λ x. or_zero (unary_word l.f l.code x)) l.operand l.initial.out l.out l.i
