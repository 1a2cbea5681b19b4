use Rattle.slash.proofs.WritingLaws.{parts_nan, parts_infinity, parts_rounded}
use Rattle.convergents.proofs.Optimal.{one_held}
use mathlib.Core.Path.{refl}
use native.Mathlib.Omega.{arith}
use Rattle.slash.proofs.writing.parts_word.Goals as goal

pub returns-then-n-eq0 : goal.returns-then-n-eq0
returns-then-n-eq0 c = parts_nan _ _ _ _ _ _ c.if-d-eq0.true c.if-n-eq0.true c.nan_word.ensures

pub pair_word-requires : goal.pair_word-requires
pair_word-requires c = one_held _

pub returns-then-d-eq0 : goal.returns-then-d-eq0
returns-then-d-eq0 c = parts_infinity _ _ _ _ _ _ c.if-d-eq0.true c.if-n-eq0.false c.pair_word.ensures

pub last_held-r-requires : goal.last_held-r-requires
last_held-r-requires c = omega (arith, c.if-d-eq0.false)

pub pair_word-requires-2 : goal.pair_word-requires-2
pair_word-requires-2 c = c.last_held-r.ensures.best.is_held

pub returns : goal.returns
returns c = parts_rounded _ _ _ _ _ _ c.if-d-eq0.false _ c.last_held-r.ensures.rounded _ refl c.pair_word-2.ensures
