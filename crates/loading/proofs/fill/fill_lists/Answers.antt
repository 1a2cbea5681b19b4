use Rattle.loading.proofs.FillLaws.{filling_start, filling_room, filling_last, filling_near, filling_used, filling_next, filling_end}
use Rattle.std.proofs.Common.{arith}
use Rattle.loading.proofs.fill.fill_lists.Goals as goal

pub loop-i-init : goal.loop-i-init
loop-i-init c = filling_start _ _ _ _ c.requires

pub overflow_add-word : goal.overflow_add-word
overflow_add-word c = omega (arith, filling_room c.loop-i.invariant c.loop-i-test.true _ c.digits.ensures)

pub overflow_add-word-in-loop-i : goal.overflow_add-word-in-loop-i
overflow_add-word-in-loop-i c = omega (arith, filling_room c.loop-i.invariant c.loop-i-test.true _ c.digits.ensures)

pub overflow_add-last : goal.overflow_add-last
overflow_add-last c = omega (arith, filling_room c.loop-i.invariant c.loop-i-test.true _ c.digits.ensures)

pub overflow_add-last-in-loop-i : goal.overflow_add-last-in-loop-i
overflow_add-last-in-loop-i c = omega (arith, filling_last c.loop-i.invariant c.loop-i-test.true _ c.digits.ensures)

pub word_at-requires : goal.word_at-requires
word_at-requires c = omega (arith, filling_room c.loop-i.invariant c.loop-i-test.true _ c.digits.ensures)

pub slice_bounds-near_end-count : goal.slice_bounds-near_end-count
slice_bounds-near_end-count c = omega (arith, filling_last c.loop-i.invariant c.loop-i-test.true _ c.digits.ensures)

pub slice_bounds-near_end-start : goal.slice_bounds-near_end-start
slice_bounds-near_end-start c = omega (arith, filling_last c.loop-i.invariant c.loop-i-test.true _ c.digits.ensures)

pub near_end-requires : goal.near_end-requires
near_end-requires c = filling_near c.loop-i.invariant c.loop-i-test.true _ c.digits.ensures

pub overflow_add-from : goal.overflow_add-from
overflow_add-from c = omega (arith, filling_used c.loop-i.invariant c.loop-i-test.true _ c.digits.ensures _ c.near_end.ensures)

pub overflow_add-from-in-loop-i : goal.overflow_add-from-in-loop-i
overflow_add-from-in-loop-i c = omega (arith, filling_used c.loop-i.invariant c.loop-i-test.true _ c.digits.ensures _ c.near_end.ensures)

pub loop-i-preserved : goal.loop-i-preserved
loop-i-preserved c = filling_next c.loop-i.invariant c.loop-i-test.true _ c.digits.ensures _ c.near_end.ensures _ c.word_at.ensures

pub returns : goal.returns
returns c =
    let both = (filling_end c.loop-i.invariant c.loop-i-test.false) in
    record { numbered = both.0; worded = both.1 }
