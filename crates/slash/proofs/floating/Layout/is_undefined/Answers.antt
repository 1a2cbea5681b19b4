use Rattle.slash.proofs.ReadingLaws.{undefined_is}
use Rattle.slash.proofs.FormatLaws.{slash_bits_le, slash_bits_enough}
use Prim.Native.Nat.{ℕ, ◌^◌}
use mathlib.Core.Path.{ap}
use native.Mathlib.Omega.{arith}
use Rattle.slash.proofs.floating.Layout.is_undefined.Goals as goal

pub power-requires : goal.power-requires
power-requires c =
    omega (arith, c.slash_bits.ensures, slash_bits_le _ c.args.self.most)

pub overflow_sub-result-2 : goal.overflow_sub-result-2
overflow_sub-result-2 c =
    let pre = c.requires in
    omega (arith, c.power.ensures, ap (λ (l : ℕ). 2 ^ l) c.slash_bits.ensures, slash_bits_enough c.args.self.k)

pub returns : goal.returns
returns c =
    undefined_is _ _ _ c.slash_position-e.ensures _ _ c.slash_bits.ensures c.power.ensures
