use Rattle.slash.proofs.ReadingLaws.{floating_mark}
use Rattle.slash.proofs.FormatLaws.{slash_bits_le}
use native.Mathlib.Omega.{arith}
use Rattle.slash.proofs.floating.Layout.is_approximate.Goals as goal

pub overflow_add-self : goal.overflow_add-self
overflow_add-self c = omega (arith, c.slash_bits.ensures, slash_bits_le _ c.args.self.most)

pub flag-requires : goal.flag-requires
flag-requires c = omega (arith, c.slash_bits.ensures, slash_bits_le _ c.args.self.most)

pub returns : goal.returns
returns c = floating_mark _ _ _ _ c.slash_bits.ensures c.flag.ensures
