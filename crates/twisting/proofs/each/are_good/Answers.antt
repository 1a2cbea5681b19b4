use Rattle.twisting.proofs.StepLaws.{few, joined_next, joined_good}
use native.Mathlib.Nat.{not-suc-le-zero}
use native.Mathlib.Omega.{arith}
use Rattle.twisting.proofs.each.are_good.Goals as goal

pub loop-w-init : goal.loop-w-init
loop-w-init c = (omega arith, λ j l. absurd (not-suc-le-zero l))

pub overflow_sub-a : goal.overflow_sub-a
overflow_sub-a c = omega (arith, c.args.layout.least)

pub overflow_shr-a : goal.overflow_shr-a
overflow_shr-a c = omega (arith, c.args.layout.most)

pub loop-w-preserved : goal.loop-w-preserved
loop-w-preserved c = joined_next c.args.layout.k c.args.operand.now _ _ _ c.loop-w.invariant c.loop-w-test.true _ c.raised_next-next.ensures

pub overflow_mul-result : goal.overflow_mul-result
overflow_mul-result c = let fits = few c.args.layout.k c.args.layout.positions c.args.layout.most c.args.layout.position_set in omega (arith, fits)

pub overflow_add-result : goal.overflow_add-result
overflow_add-result c = let fits = few c.args.layout.k c.args.layout.positions c.args.layout.most c.args.layout.position_set in omega (arith, fits)

pub returns : goal.returns
returns c = joined_good c.args.layout.k _ _ _ c.args.operand.now c.args.layout.least c.args.layout.position_set _ c.loop-w.invariant c.loop-w-test.false
