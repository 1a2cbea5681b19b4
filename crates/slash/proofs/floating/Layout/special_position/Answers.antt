use Rattle.slash.proofs.FormatLaws.{slash_bits_le}
use lib.Pow.{pow_pos}
use Prim.Native.Nat.{ℕ, ◌-◌, ◌^◌}
use mathlib.Core.Path.{ap, ◌∙◌}
use native.Mathlib.Omega.{arith}
use Rattle.slash.proofs.floating.Layout.special_position.Goals as goal

pub power-requires : goal.power-requires
power-requires c = omega (arith, c.slash_bits.ensures, slash_bits_le _ c.args.self.most)

pub overflow_sub-result : goal.overflow_sub-result
overflow_sub-result c = omega (arith, c.power.ensures, pow_pos c.slash_bits.result)

pub returns : goal.returns
returns c = ap (λ (p : ℕ). p - 1) (c.power.ensures ∙ ap (λ (l : ℕ). 2 ^ l) c.slash_bits.ensures)
