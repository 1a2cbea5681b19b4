use Rattle.twisting.proofs.StepLaws.{one_shifted, positions_are}
use mathlib.Core.Path.{ap}
use Prim.Native.Nat.{ℕ, ◌-◌, ◌≤◌}
use native.Mathlib.Omega.{arith}
use Rattle.twisting.proofs.layout.Layout.new.Goals as goal

pub invariant_of-result : goal.invariant_of-result
invariant_of-result c =
    let few : c.args.k - 1 ≤ 63 = omega (arith, c.requires.1) in
    record {
      least = c.requires.0;
      most = c.requires.1;
      field_set = ap (λ (x : ℕ). x - 1) (one_shifted (c.args.k - 1) few);
      position_set = positions_are c.args.k c.requires.0 c.requires.1;
    }
