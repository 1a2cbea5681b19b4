use Rattle.breaths.proofs.RatioLaws.{of_zero, of_some}
use Rattle.breaths.proofs.ratio.Ratio.of_word.Goals as goal

pub returns-then-w-eq0 : goal.returns-then-w-eq0
returns-then-w-eq0 c = of_zero _ c.if-w-eq0.true

pub returns-else-w-eq0 : goal.returns-else-w-eq0
returns-else-w-eq0 c = of_some _ c.if-w-eq0.false
