use Rattle.slash.proofs.FormatLaws.{known_is}
use Rattle.slash.proofs.format.Format.is_known.Goals as goal

pub returns : goal.returns
returns c = known_is _ _ c.k_fits.ensures
