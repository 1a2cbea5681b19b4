use Rattle.twisting.specs.Steps.{AllGood}
use Rattle.twisting.proofs.EachLaws.{all_checked}
use mathlib.Core.Path.{subst}
use Prim.Native.Nat.{ℕ}
use Rattle.twisting.proofs.each.check_all.Goals as goal

pub returns-then-are_good : goal.returns-then-are_good
returns-then-are_good c =
    all_checked _ (c.requires.0, c.requires.1) _ (subst (λ (k : ℕ). AllGood k c.args.operand.now) c.requires.2 (c.are_good.ensures c.if-are_good.true))
