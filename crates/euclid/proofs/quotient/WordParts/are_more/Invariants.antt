use Prim.Native.Nat.{◌-◌}
use Rattle.euclid.proofs.CountLaws.{Taking}
use Rattle.euclid.proofs.quotient.WordParts.are_more.Given as goal

abbrev pub invariant-loop : goal.invariant-loop
invariant-loop l = Taking l.fn.self.numerator l.fn.self.denominator l.places l.u l.v (l.places - l.counter)
