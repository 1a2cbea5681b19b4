use Rattle.listing.proofs.NightLaws.{night_none, night_some}
use Rattle.listing.proofs.night.is_rated.Goals as goal

pub returns-then-breath : goal.returns-then-breath
returns-then-breath c = night_none _ c.if-breath.true

pub returns : goal.returns
returns c = night_some _ c.if-breath.false _ c.longest_whole.ensures
