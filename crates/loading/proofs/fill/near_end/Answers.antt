use Rattle.std.proofs.Common.{arith, ◌-◌, get_or}
use Rattle.loading.proofs.EndLaws.{mark_of, mark_small, marking_start, marking_small, marking_next, marking_end}
use Rattle.loading.proofs.fill.near_end.Goals as goal

pub loop-i-init : goal.loop-i-init
loop-i-init c = marking_start _ c.requires

pub overflow_mul-marks : goal.overflow_mul-marks
overflow_mul-marks c = omega (arith, marking_small c.loop-i.invariant)

pub overflow_add-marks : goal.overflow_add-marks
overflow_add-marks c = omega (arith, marking_small c.loop-i.invariant, mark_small _ _ (mark_of (get_or c.args.bytes.now (c.loop-i.i - 1) 0)))

pub loop-i-preserved : goal.loop-i-preserved
loop-i-preserved c = marking_next c.loop-i.invariant _ (omega arith) _ (mark_of _)

pub returns : goal.returns
returns c = marking_end c.loop-i.invariant (omega arith)
