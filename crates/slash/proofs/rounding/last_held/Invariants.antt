use Rattle.convergents.proofs.RoundingLaws.{Going}
use Rattle.slash.specs.Formats.{holds}
use Rattle.slash.proofs.rounding.last_held.Given as goal

abbrev pub invariant-loop-v : goal.invariant-loop-v
invariant-loop-v l = Going (holds l.f.format) l.n l.d l.p0 l.q0 l.p l.q l.u l.v

abbrev pub decreases-loop-v : goal.decreases-loop-v
decreases-loop-v l = l.v
