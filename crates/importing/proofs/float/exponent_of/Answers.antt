use mathlib.Core.Path.{refl}
use Rattle.importing.specs.Floats.{exponent}
use Rattle.importing.proofs.float.exponent_of.Goals as goal

pub returns : goal.returns
unfolding exponent
returns c = refl
