use Rattle.slash.specs.Bits.{bit_of}
use mathlib.Core.Path.{◌≡◌, refl, ◌∙◌}
use mathlib.Core.Bool.{Bool, true, false}
use mir.Val.{bool_byte}
use Rattle.slash.proofs.bits.bit_of.Goals as goal

byte : (b : Bool) → bool_byte b ≡ bit_of b
unfolding bit_of
byte true = refl
byte false = refl

pub returns : goal.returns
returns c = c.from.ensures ∙ byte c.args.b
