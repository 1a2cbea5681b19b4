use Rattle.std.proofs.Common.{refl}
use Rattle.breaths.specs.Breaths.{span, breath_of}
use Rattle.breaths.proofs.breath.Breath.between.Goals as goal

pub returns : goal.returns
unfolding breath_of span
returns c = refl
