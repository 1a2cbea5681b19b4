use Rattle.vectors.specs.Checks.{check_operands}
use Rattle.vectors.proofs.EachLaws.{operands_at, length_places, check_next, check_stop, check_end}
use Rattle.std.specs.Prelude.{Err}
use native.Mathlib.Omega.{arith}
use mathlib.Core.Path.{refl, sym, ap, ◌∙◌}
use Rattle.vectors.proofs.check.pairs.Goals as goal

pub loop-i-init : goal.loop-i-init
loop-i-init c = refl

pub returns-in-Err : goal.returns-in-Err
returns-in-Err c =
    ap Err c.at_place.ensures
    ∙ check_stop (check_operands _) _ _ _ (operands_at _ _ _ c.requires c.loop-i-test.true) (sym c.in-Err.is ∙ c.pair.ensures)
    ∙ c.loop-i.invariant

pub loop-i-preserved : goal.loop-i-preserved
loop-i-preserved c =
    check_next (check_operands _) _ _ _ (operands_at _ _ _ c.requires c.loop-i-test.true) (sym c.in_default.is ∙ c.pair.ensures) ∙ c.loop-i.invariant

pub returns : goal.returns
returns c = check_end (check_operands _) _ _ (omega (arith, length_places c.args.left.now c.args.right.now c.requires, c.loop-i-test.false)) ∙ c.loop-i.invariant
