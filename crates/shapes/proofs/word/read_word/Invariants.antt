use Rattle.shapes.proofs.WordLaws.{Hexing}
use Rattle.shapes.proofs.word.read_word.Given as goal

abbrev pub invariant-loop-b : goal.invariant-loop-b
invariant-loop-b l = Hexing l.field l.value l.b-index
