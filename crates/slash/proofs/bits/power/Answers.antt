use Rattle.slash.proofs.BitLaws.{one_shl}
use Rattle.slash.proofs.bits.power.Goals as goal

pub returns : goal.returns
returns c = one_shl c.args.k c.requires
