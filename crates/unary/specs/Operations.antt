-- The unary operations, codes 1 to 7.
use Rattle.std.specs.Prelude.{ℕ, Bool, not, ◌&&◌, false, eqb, leb, ℤ, nat_abs}
use Rattle.std.specs.Prelude.{if◌then◌else◌}
use Rattle.slash.specs.Answers.{Outcome, stop, done, ◌then◌}
use Rattle.slash.specs.Formats.{when_known}
use Rattle.slash.specs.Numbers.{signed_of, is_nan}
use Rattle.slash.specs.Reading.{number_of, check_word}
use Rattle.slash.specs.Writing.{word_for}
use Rattle.slash.specs.declared.format.Format.{Format}
use Rattle.slash.specs.declared.number.Value.{Value}
use Rattle.slash.specs.declared.number.Value.TheVariants.{Fraction, Zero, Infinity, NotANumber}
use Rattle.slash.specs.declared.number.Parts.{Parts}
use Rattle.slash.specs.declared.number.Number.{Number}
use Rattle.unary.specs.Floor.{is_below_zero, floor_by, ceiling_by, above_floor}
use Rattle.unary.specs.Signs.{sign_touched}

-- ---- the exact values of codes 3 reciprocal, 4 floor, 5 ceiling, 6 mod 1, and 7 normalise

-- A whole number as a fraction. (0/1 is written as zero, with sign 0.)
unfoldable pub over_one : ℤ → Parts
over_one z = record { negative = is_below_zero z; numerator = nat_abs z; denominator = 1 }

-- The numerator of a fraction, with its sign.
unfoldable pub signed_numerator : Parts → ℤ
signed_numerator p = signed_of p.negative p.numerator

-- The reciprocal keeps the sign.
unfoldable pub reciprocal_parts : Parts → Parts
reciprocal_parts p = record { negative = p.negative; numerator = p.denominator; denominator = p.numerator }

-- Floor, ceiling and mod 1 of a fraction, as fractions.
unfoldable pub floor_parts : Parts → Parts
floor_parts p = over_one (floor_by (signed_numerator p) p.denominator)

unfoldable pub ceiling_parts : Parts → Parts
ceiling_parts p = over_one (ceiling_by (signed_numerator p) p.denominator)

unfoldable pub mod_parts : Parts → Parts
mod_parts p = record { negative = false; numerator = above_floor (signed_numerator p) p.denominator; denominator = p.denominator }

-- By code; 7, normalise, leaves the parts as they are: writing brings them to lowest terms.
unfoldable pub exact_parts : ℕ → Parts → Parts
exact_parts code p =
    if eqb code 3 then reciprocal_parts p else
    if eqb code 4 then floor_parts p else
    if eqb code 5 then ceiling_parts p else
    if eqb code 6 then mod_parts p else
    p

-- Zero and infinity of one sign trade; zeros from floor, ceiling and mod 1 have sign 0.
unfoldable pub exact_zero : ℕ → Bool → Value
exact_zero code s =
    if eqb code 3 then Infinity s else
    if eqb code 7 then Zero s else
    Zero false

-- Floor and ceiling keep infinity; mod 1 of it is not-a-number.
unfoldable pub exact_infinity : ℕ → Bool → Value
exact_infinity code s =
    if eqb code 3 then Zero s else
    if eqb code 6 then NotANumber else
    Infinity s

unfoldable pub exact_unary : ℕ → Value → Value
exact_unary code (Fraction p) = Fraction (exact_parts code p)
exact_unary code (Zero s) = exact_zero code s
exact_unary code (Infinity s) = exact_infinity code s
exact_unary code NotANumber = NotANumber

-- ---- by code

unfoldable pub is_unary : ℕ → Bool
is_unary code = leb 1 code && leb code 7

-- The word that a code makes of a word w that says x: on a number, codes 1 and 2 touch only bit s; else the exact value, rounded, its mark
-- inherited. Not-a-number gives the canonical one, whatever the code.
unfoldable pub unary_result : Format → (code w : ℕ) → Number → ℕ
unary_result f code w x =
    if leb code 2 && not (is_nan x.value) then sign_touched f code w else
    word_for f x.approximate (exact_unary code x.value)

-- Stop 1 for the format, 2 for the code, then the word's.
unfoldable pub check_unary : Format → (code w : ℕ) → Outcome (Unit {0})
check_unary f code w =
    when_known f (
    if not (is_unary code) then stop 2 0 else
    check_word f w)

unfoldable pub unary_word : Format → (code w : ℕ) → Outcome ℕ
unary_word f code w =
    check_unary f code w then λ _.
    done (unary_result f code w (number_of f w))
