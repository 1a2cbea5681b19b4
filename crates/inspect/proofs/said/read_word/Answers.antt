use Rattle.inspect.proofs.SaidLaws.{word_empty, word_some, word_long, hexing_not, hexing_small, hexing_next, hexing_end}
use native.Mathlib.Omega.{arith}
use Rattle.inspect.proofs.said.read_word.Goals as goal

pub returns-then-is_empty : goal.returns-then-is_empty
returns-then-is_empty c = word_empty _ _ c.is_empty.ensures c.if-is_empty.true

pub returns-then-line-gt16 : goal.returns-then-line-gt16
returns-then-line-gt16 c = word_long _ c.if-line-gt16.true

pub returns-in_default : goal.returns-in_default
returns-in_default c = hexing_not c.loop-b.invariant (word_some _ _ c.is_empty.ensures c.if-is_empty.false) c.if-line-gt16.false c.loop-b-test.true c.in_default.ensures

pub overflow_mul-value : goal.overflow_mul-value
overflow_mul-value c = omega (arith, hexing_small c.loop-b.invariant (word_some _ _ c.is_empty.ensures c.if-is_empty.false) c.if-line-gt16.false c.loop-b-test.true c.in-Some.ensures)

pub overflow_add-value : goal.overflow_add-value
overflow_add-value c = omega (arith, hexing_small c.loop-b.invariant (word_some _ _ c.is_empty.ensures c.if-is_empty.false) c.if-line-gt16.false c.loop-b-test.true c.in-Some.ensures)

pub loop-b-preserved : goal.loop-b-preserved
loop-b-preserved c = hexing_next c.loop-b.invariant (word_some _ _ c.is_empty.ensures c.if-is_empty.false) c.if-line-gt16.false c.loop-b-test.true c.in-Some.ensures

pub returns : goal.returns
returns c = hexing_end c.loop-b.invariant (word_some _ _ c.is_empty.ensures c.if-is_empty.false) c.if-line-gt16.false (omega arith)
