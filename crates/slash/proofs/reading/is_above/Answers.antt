use Rattle.slash.proofs.ReadingLaws.{above_is}
use Rattle.slash.proofs.reading.is_above.Goals as goal

pub returns : goal.returns
returns c = above_is _ _ c.requires.0
