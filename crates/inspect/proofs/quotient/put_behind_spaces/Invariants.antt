use Rattle.inspect.proofs.QuotientLaws.{Spacing}
use Rattle.inspect.proofs.quotient.put_behind_spaces.Given as goal

abbrev pub invariant-loop-q : goal.invariant-loop-q
invariant-loop-q l = Spacing l.initial.out.items l.list l.out.items l.q-index
