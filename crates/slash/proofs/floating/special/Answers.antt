use Rattle.slash.proofs.ReadingLaws.{special_infinity, special_nan}
use Rattle.slash.proofs.floating.special.Goals as goal

pub returns-then-f-eq0 : goal.returns-then-f-eq0
returns-then-f-eq0 c = special_infinity _ _ c.if-f-eq0.true

pub returns-else-f-eq0 : goal.returns-else-f-eq0
returns-else-f-eq0 c = special_nan _ _ c.if-f-eq0.false
