use Rattle.std.proofs.Common.{sym, arith}
use borrow.Author.Tests.{eqb-true}
use Rattle.loading.proofs.LineLaws.{stopped_at}
use Rattle.loading.proofs.PrintLaws.{checking_many, checking_not, checking_next, checking_none, checking_total, checking_end, void_by}
use Rattle.loading.proofs.print.check.Goals as goal

pub returns-then-i : goal.returns-then-i
returns-then-i c = stopped_at c.stop_at.ensures (checking_many c.loop-i.invariant c.loop-i-test.true c.if-i.true)

pub returns-then-not-is_listable : goal.returns-then-not-is_listable
returns-then-not-is_listable c = stopped_at c.stop_at-then-not-is_listable.ensures (checking_not c.loop-i.invariant c.loop-i-test.true (omega arith) c.if-not-is_listable.ensures)

pub loop-i-preserved : goal.loop-i-preserved
loop-i-preserved c = checking_next c.loop-i.invariant c.loop-i-test.true (omega arith) c.if-not-is_listable.ensures

pub returns-then-total-ne0 : goal.returns-then-total-ne0
returns-then-total-ne0 c = stopped_at c.stop_at-then-total-ne0.ensures (checking_none c.loop-i.invariant c.loop-i-test.false (eqb-true _ _ (sym c.if-is_empty.ensures)) c.if-total-ne0.true)

pub returns-then-not-is_listable-2 : goal.returns-then-not-is_listable-2
returns-then-not-is_listable-2 c = stopped_at c.stop_at-then-not-is_listable-2.ensures (checking_total c.loop-i.invariant c.loop-i-test.false (void_by _ c.is_empty.ensures c.else-is_empty.either) c.if-not-is_listable-2.ensures)

pub returns : goal.returns
returns c = checking_end c.loop-i.invariant c.loop-i-test.false (void_by _ c.is_empty.ensures c.else-is_empty.either) c.if-not-is_listable-2.ensures
