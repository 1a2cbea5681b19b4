use mathlib.Core.Path.{refl}
use Rattle.importing.specs.Floats.{significand}
use Rattle.importing.proofs.float.significand_of.Goals as goal

pub returns : goal.returns
unfolding significand
returns c = refl
