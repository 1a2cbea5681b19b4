use Rattle.euclid.proofs.CountLaws.{Counting}
use Rattle.euclid.proofs.quotient.WordParts.count.Given as goal

abbrev pub invariant-loop-v : goal.invariant-loop-v
invariant-loop-v l = Counting l.fn.self.numerator l.fn.self.denominator l.u l.v l.i

abbrev pub decreases-loop-v : goal.decreases-loop-v
decreases-loop-v l = l.v
