use Rattle.listing.proofs.StepLaws.{behind_rate_lem}
use Rattle.listing.proofs.piece.behind_rate.Goals as goal

pub returns : goal.returns
returns c = behind_rate_lem _ _ _ c.left_to_next.ensures
