use Rattle.arithmetic.proofs.EachLaws.{stored_at}
use Rattle.vectors.proofs.EachLaws.{operands_at, length_places, storing_next, storing_end}
use native.Mathlib.Omega.{arith}
use mathlib.Core.Path.{refl, ◌∙◌}
use Rattle.arithmetic.proofs.each.store_binary.Goals as goal

pub loop-i-init : goal.loop-i-init
loop-i-init c = (omega arith, refl, refl)

pub combined-requires : goal.combined-requires
combined-requires c = c.requires.0

pub loop-i-preserved : goal.loop-i-preserved
loop-i-preserved c =
    let long = length_places _ _ c.requires.1 in
    let below = c.loop-i-test.true in
    storing_next _ _ _ _ _ c.loop-i.invariant (long ∙ c.requires.2) _ _ (operands_at _ _ _ c.requires.1 below) (omega (arith, long, below))
    (stored_at _ _ _ _ c.combined.ensures _ c.unwrap_or.ensures)

pub returns : goal.returns
returns c =
    let long = length_places _ _ c.requires.1 in
    storing_end _ _ _ _ _ c.loop-i.invariant (long ∙ c.requires.2) (omega (arith, long, c.loop-i-test.false))
