-- For the code and the proofs alone: steps on the way to what the papers say, and the terms of the laws.
use Rattle.std.specs.Prelude.{Bool, false, ◌≡◌}
use Rattle.slash.specs.Numbers.{parts_of}
use Rattle.slash.specs.Rounding.{rounded}
use Rattle.slash.specs.Steps.{SmallParts}
use Rattle.slash.specs.declared.format.Format.{Format}
use Rattle.slash.specs.declared.number.Value.{Value}
use Rattle.slash.specs.declared.number.Value.TheVariants.{Fraction, Zero, Infinity, NotANumber}
use Rattle.slash.specs.declared.number.Parts.{Parts}

-- A value whose parts are small where it is a fraction.
abbrev pub SmallValue : Value → Type 0
SmallValue v = (p : Parts) → v ≡ Fraction p → SmallParts p

-- ---- the laws

-- What that comes to, of what the words say: the sign of a value, and the value with another one. (Not-a-number has none.)
unfoldable pub sign_in : Value → Bool
sign_in v = (parts_of v).negative

unfoldable pub with_sign : Bool → Value → Value
with_sign s (Fraction p) = Fraction (record { negative = s; numerator = p.numerator; denominator = p.denominator })
with_sign s (Zero t) = Zero s
with_sign s (Infinity t) = Infinity s
with_sign s NotANumber = NotANumber

-- A value that the format holds as it is: rounding doesn't mark it, so that the mark is the operand's.
unfoldable pub ExactIn : Format → Value → Type 0
ExactIn f (Fraction p) = (rounded f p.numerator p.denominator).approximate ≡ false
ExactIn f (Zero s) = Unit {0}
ExactIn f (Infinity s) = Unit {0}
ExactIn f NotANumber = Unit {0}
