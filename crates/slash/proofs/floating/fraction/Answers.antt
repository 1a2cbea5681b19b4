use Rattle.slash.proofs.ReadingLaws.{floating_zero, parted_most, parted_fraction}
use Rattle.slash.proofs.floating.fraction.Goals as goal

pub overflow_sub-result-else-n-eq0 : goal.overflow_sub-result-else-n-eq0
overflow_sub-result-else-n-eq0 c = parted_most c.args.negative _ _ c.if-n-eq0.false c.requires.1

pub returns-then-n-eq0 : goal.returns-then-n-eq0
returns-then-n-eq0 c = floating_zero _ _ _ c.if-n-eq0.true

pub returns-else-n-eq0 : goal.returns-else-n-eq0
returns-else-n-eq0 c = parted_fraction _ _ _ c.if-n-eq0.false c.requires.1
