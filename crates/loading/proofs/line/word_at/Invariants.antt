use Rattle.loading.proofs.LineLaws.{Reading}
use Rattle.loading.proofs.line.word_at.Given as goal

abbrev pub invariant-loop-b : goal.invariant-loop-b
invariant-loop-b l = Reading l.b-items l.value l.b-index
