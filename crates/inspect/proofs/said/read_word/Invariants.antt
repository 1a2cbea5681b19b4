use Rattle.inspect.proofs.SaidLaws.{Hexing}
use Rattle.inspect.proofs.said.read_word.Given as goal

abbrev pub invariant-loop-b : goal.invariant-loop-b
invariant-loop-b l = Hexing l.line l.value l.b-index
