use Rattle.std.proofs.Common.{refl}
use Rattle.breaths.proofs.ratio.Ratio.format.Goals as goal

pub returns : goal.returns
returns c = refl
