use Rattle.breaths.proofs.ProportionLaws.{Packed}
use Rattle.breaths.proofs.proportion.proportion_word.Given as goal

abbrev pub invariant-loop-v : goal.invariant-loop-v
invariant-loop-v l = Packed l.n l.d l.former l.last l.u l.v

abbrev pub decreases-loop-v : goal.decreases-loop-v
decreases-loop-v l = l.v
