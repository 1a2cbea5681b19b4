use Rattle.listing.proofs.NightLaws.{opened_is}
use Rattle.listing.proofs.night.RatedNight.opened.Goals as goal

pub returns : goal.returns
returns c = opened_is _
