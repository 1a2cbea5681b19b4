use Rattle.loading.proofs.ListableLaws.{listable_zero, listable_large, listable_above, listable_is_lowest}
use Rattle.std.proofs.Common.{arith}
use Rattle.loading.proofs.listable.is_listable.Goals as goal

pub returns-then-w-eq0 : goal.returns-then-w-eq0
returns-then-w-eq0 c = listable_zero _ c.if-w-eq0.true

pub returns-then-w-ge-SIGN : goal.returns-then-w-ge-SIGN
returns-then-w-ge-SIGN c = listable_large _ (omega (arith, c.if-w-ge-SIGN.true))

pub returns-then-denominator-numerator : goal.returns-then-denominator-numerator
returns-then-denominator-numerator c = listable_above _ (omega (arith, c.if-w-ge-SIGN.false)) c.if-w-eq0.false (omega (arith, c.if-denominator-numerator.true))

pub returns : goal.returns
returns c = listable_is_lowest _ (omega (arith, c.if-w-ge-SIGN.false)) c.if-w-eq0.false (omega (arith, c.if-denominator-numerator.false)) _ c.is_lowest.ensures
