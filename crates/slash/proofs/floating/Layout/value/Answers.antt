use Rattle.slash.proofs.ReadingLaws.{floating_number_lem, floating_special_lem}
use Rattle.slash.proofs.BitLaws.{bits_lt}
use Rattle.slash.proofs.FormatLaws.{slash_bits_le}
use Prim.Native.Nat.{ℕ, ◌-◌, ◌≤◌}
use lib.Pow.{pow_mono}
use native.Mathlib.Omega.{arith}
use Rattle.slash.proofs.floating.Layout.value.Goals as goal

pub overflow_add-k : goal.overflow_add-k
overflow_add-k c = omega (arith, c.slash_bits.ensures, slash_bits_le _ c.args.self.most)

pub flag-negative-requires : goal.flag-negative-requires
flag-negative-requires c = omega (arith, c.slash_bits.ensures, slash_bits_le _ c.args.self.most)

pub fraction-requires : goal.fraction-requires
fraction-requires c = let k : ℕ = c.args.self.k in
    let l : k - 1 ≤ 31 = omega (arith, c.args.self.most) in
    (omega (arith, c.args.self.most, c.args.self.least, c.if-e-k.true), omega (arith, c.below-f.ensures, bits_lt 0 (k - 1) c.args.w, pow_mono l))

pub returns-then-e-k : goal.returns-then-e-k
returns-then-e-k c = floating_number_lem _ _ _ _ _ _ _ c.slash_bits.ensures c.flag-negative.ensures c.slash_position-e.ensures c.below-f.ensures c.if-e-k.true c.fraction.ensures

pub returns-else-e-k : goal.returns-else-e-k
returns-else-e-k c = floating_special_lem _ _ _ _ _ _ _ c.slash_bits.ensures c.flag-negative.ensures c.slash_position-e.ensures c.below-f.ensures c.if-e-k.false c.special.ensures
