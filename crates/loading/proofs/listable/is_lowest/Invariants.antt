use Rattle.euclid.proofs.DivisorLaws.{Common}
use Rattle.loading.proofs.listable.is_lowest.Given as goal

abbrev pub invariant-loop-v : goal.invariant-loop-v
invariant-loop-v l = Common l.n l.d l.u l.v

abbrev pub decreases-loop-v : goal.decreases-loop-v
decreases-loop-v l = l.v
