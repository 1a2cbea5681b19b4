use Rattle.vectors.proofs.EachLaws.{word_at, storing_next, storing_end}
use Rattle.twisting.specs.Twisting.{rearranged}
use Rattle.twisting.specs.Steps.{way_of}
use mathlib.Core.Path.{refl}
use native.Mathlib.Omega.{arith}
use Rattle.twisting.proofs.each.store_rearranged.Goals as goal

pub loop-i-init : goal.loop-i-init
loop-i-init c = (omega arith, refl, refl)

pub loop-i-preserved : goal.loop-i-preserved
loop-i-preserved c = storing_next (rearranged (way_of c.args.way) c.args.layout.k) c.args.operand.now c.args.out.now c.loop-i.out c.loop-i.i c.loop-i.invariant c.requires _ _ (word_at c.args.operand.now c.loop-i.i c.loop-i-test.true) c.loop-i-test.true c.rearranged_word.ensures

pub returns : goal.returns
returns c = storing_end (rearranged (way_of c.args.way) c.args.layout.k) c.args.operand.now c.args.out.now c.loop-i.out c.loop-i.i c.loop-i.invariant c.requires c.loop-i-test.false
