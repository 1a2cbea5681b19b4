use Rattle.slash.specs.Steps.{or_zero}
use Rattle.conversion.specs.Conversion.{convert_word}
use Rattle.vectors.specs.Steps.{Storing}
use Rattle.conversion.proofs.each.store_converted.Given as goal

abbrev pub invariant-loop-i : goal.invariant-loop-i
invariant-loop-i l = Storing (λ x. or_zero (convert_word l.source l.target x)) l.operand l.initial.out l.out l.i
