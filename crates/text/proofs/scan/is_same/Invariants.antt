use Rattle.text.proofs.PartLaws.{Matching}
use Rattle.text.proofs.scan.is_same.Given as goal

abbrev pub invariant-loop-i : goal.invariant-loop-i
invariant-loop-i l = Matching l.a l.b l.same l.i
