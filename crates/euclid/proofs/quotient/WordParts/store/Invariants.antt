use Rattle.euclid.proofs.QuotientLaws.{Storing}
use Rattle.euclid.proofs.quotient.WordParts.store.Given as goal

abbrev pub invariant-loop-i : goal.invariant-loop-i
invariant-loop-i l = Storing l.fn.self.numerator l.fn.self.denominator l.initial.list l.list l.u l.v l.i
