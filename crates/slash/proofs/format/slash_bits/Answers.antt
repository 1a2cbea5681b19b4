use Rattle.slash.proofs.FormatLaws.{slash_bits_is}
use Rattle.slash.proofs.format.slash_bits.Goals as goal

pub returns : goal.returns
returns c = slash_bits_is _ _ c.requires c.bit_count.ensures
