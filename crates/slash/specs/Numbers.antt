-- What a word says: a signed fraction, zero, infinity or not-a-number; its parts and its pair.
use Rattle.std.specs.Prelude.{ℕ, Bool, true, false, ℤ, pos, neg_ℤ}
use Rattle.convergents.specs.Pairs.{Pair, pair}
use Rattle.slash.specs.declared.number.Parts.{Parts}
use Rattle.slash.specs.declared.number.Value.{Value}
use Rattle.slash.specs.declared.number.Value.TheVariants.{Fraction, Zero, Infinity, NotANumber}

unfoldable pub is_nan : Value → Bool
is_nan (Fraction p) = false
is_nan (Zero s) = false
is_nan (Infinity s) = false
is_nan NotANumber = true

-- The parts of a value: a fraction's fields, zero as 0/1, infinity as 1/0; not-a-number has none, and gets 0/0.
abbrev pub parts_of : Value → Parts
parts_of (Fraction p) = p
parts_of (Zero s) = record { negative = s; numerator = 0; denominator = 1 }
parts_of (Infinity s) = record { negative = s; numerator = 1; denominator = 0 }
parts_of NotANumber = record { negative = false; numerator = 0; denominator = 0 }

-- Its pair, the sign apart.
unfoldable pub pair_of : Value → Pair
pair_of v = pair (parts_of v).numerator (parts_of v).denominator

-- A sign and a size as one number: true is negative.
unfoldable pub signed_of : Bool → ℕ → ℤ
signed_of true n = neg_ℤ (pos n)
signed_of false n = pos n
