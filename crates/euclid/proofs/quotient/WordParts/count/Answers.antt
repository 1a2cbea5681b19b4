use native.Mathlib.Omega.{arith}
use Rattle.euclid.proofs.CountLaws.{Begun, count_below, count_above, count_nearer, count_as, count_one, count_two, count_end}
use Rattle.euclid.proofs.quotient.WordParts.count.Goals as goal
use Rattle.euclid.proofs.quotient.WordParts.count.Goals.{then-n-d, else-n-d, then-over-v, else-over-v}

pub loop-v-init : goal.loop-v-init
loop-v-init c =
    let begun : Begun c.args.self.numerator c.args.self.denominator c.if-n-d.u =
    elim c.if-n-d.branch [ then-n-d w ↦ count_below _ _ w.if-n-d.true w.u-is | else-n-d w ↦ count_above _ _ w.if-n-d.false w.u-is ] in
    elim c.if-over-v.branch [ then-over-v w ↦ count_nearer begun.0 begun.1 w.if-over-v.true w.v-is w.i-is | else-over-v w ↦ count_as begun.0 w.v-is w.i-is ]

pub loop-v-preserved-then-below-above : goal.loop-v-preserved-then-below-above
loop-v-preserved-then-below-above c = count_two c.loop-v.invariant (omega arith) (omega arith)

pub loop-v-preserved : goal.loop-v-preserved
loop-v-preserved c = count_one c.loop-v.invariant (omega arith)

pub returns : goal.returns
returns c = count_end c.loop-v.invariant (omega arith)
