use Rattle.vectors.proofs.EachLaws.{unwrapped, word_at, storing_next, storing_end}
use native.Mathlib.Omega.{arith}
use mathlib.Core.Path.{refl}
use Rattle.conversion.proofs.each.store_converted.Goals as goal

pub loop-i-init : goal.loop-i-init
loop-i-init c = (omega arith, refl, refl)

pub converted-requires : goal.converted-requires
converted-requires c = (c.requires.0, c.requires.1)

pub loop-i-preserved : goal.loop-i-preserved
loop-i-preserved c =
    storing_next _ _ _ _ _ c.loop-i.invariant c.requires.2 _ _ (word_at _ _ c.loop-i-test.true) c.loop-i-test.true (unwrapped _ c.converted.ensures c.unwrap_or.ensures)

pub returns : goal.returns
returns c = storing_end _ _ _ _ _ c.loop-i.invariant c.requires.2 c.loop-i-test.false
