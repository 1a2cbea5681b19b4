use Rattle.slash.proofs.BitLaws.{flag_is}
use Rattle.slash.proofs.bits.flag.Goals as goal

pub returns : goal.returns
returns c = flag_is _ _ _ c.field.ensures
