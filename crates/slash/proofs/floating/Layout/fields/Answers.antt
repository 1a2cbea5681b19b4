use Rattle.slash.proofs.ReadingLaws.{floating_fields_are}
use Rattle.slash.proofs.FormatLaws.{slash_bits_le}
use native.Mathlib.Omega.{arith}
use Rattle.slash.proofs.floating.Layout.fields.Goals as goal

pub overflow_add-sign : goal.overflow_add-sign
overflow_add-sign c = omega (arith, c.slash_bits.ensures, slash_bits_le _ c.args.self.most)

pub flag-requires : goal.flag-requires
flag-requires c = omega (arith, c.slash_bits.ensures, slash_bits_le _ c.args.self.most)

pub flag-requires-2 : goal.flag-requires-2
flag-requires-2 c = omega (arith, c.slash_bits.ensures, slash_bits_le _ c.args.self.most)

pub returns : goal.returns
returns c = floating_fields_are _ _ c.slash_bits.ensures c.flag.ensures c.flag-2.ensures c.slash_position.ensures c.below.ensures
