use Rattle.slash.proofs.FieldLaws.{floating_fields_lem}
use Rattle.slash.proofs.FormatLaws.{slash_bits_le}
use Prim.Native.Nat.{ℕ, ◌^◌, ◌<◌}
use mathlib.Core.Path.{sym, subst}
use native.Mathlib.Omega.{arith}
use Rattle.slash.proofs.floating.Layout.from_fields.Goals as goal

pub pack-requires : goal.pack-requires
pack-requires c =
    let pre = c.requires in
    (omega (arith, c.slash_bits.ensures, slash_bits_le _ c.args.self.most, c.args.self.least), pre.0, pre.1, subst (λ (l : ℕ). c.args.e < 2 ^ l) (sym c.slash_bits.ensures) pre.2, pre.3)

pub returns : goal.returns
returns c = floating_fields_lem _ _ _ _ _ _ _ c.slash_bits.ensures c.pack.ensures
