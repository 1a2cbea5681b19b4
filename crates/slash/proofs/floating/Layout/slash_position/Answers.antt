use Rattle.slash.proofs.ReadingLaws.{slash_is}
use Rattle.slash.proofs.FormatLaws.{slash_bits_le}
use native.Mathlib.Omega.{arith}
use Rattle.slash.proofs.floating.Layout.slash_position.Goals as goal

pub field-requires : goal.field-requires
field-requires c =
    let pre = c.requires in
    (omega arith, omega (arith, c.slash_bits.ensures, slash_bits_le _ c.args.self.most))

pub returns : goal.returns
returns c = slash_is _ _ _ _ c.slash_bits.ensures c.field.ensures
