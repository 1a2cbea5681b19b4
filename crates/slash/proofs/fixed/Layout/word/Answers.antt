use Rattle.slash.proofs.FieldLaws.{fixed_word_lem}
use Rattle.slash.proofs.BitLaws.{bit_lt}
use native.Mathlib.Omega.{arith}
use Rattle.slash.proofs.fixed.Layout.word.Goals as goal

pub pack-requires : goal.pack-requires
pack-requires c =
    let a = c.args in
    let pre = c.requires in
    (omega (arith, a.self.most), omega (arith, c.bit_of.ensures, bit_lt a.negative), pre.0, omega (arith, c.bit_of-2.ensures, bit_lt a.approximate), pre.1)

pub returns : goal.returns
returns c = fixed_word_lem _ _ _ _ _ _ _ _ c.bit_of.ensures c.bit_of-2.ensures c.pack.ensures
