use Rattle.euclid.proofs.DivisorLaws.{Common}
use Rattle.euclid.proofs.divisor.common_divisor.Given as goal

abbrev pub invariant-loop-v : goal.invariant-loop-v
invariant-loop-v l = Common l.n l.d l.u l.v

abbrev pub decreases-loop-v : goal.decreases-loop-v
decreases-loop-v l = l.v
