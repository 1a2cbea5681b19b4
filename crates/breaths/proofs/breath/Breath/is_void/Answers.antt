use Rattle.breaths.proofs.RatioLaws.{void_is}
use Rattle.breaths.proofs.breath.Breath.is_void.Goals as goal

pub returns : goal.returns
returns c = void_is _ _ _ c.longest_whole.ensures
