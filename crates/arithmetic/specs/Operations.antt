-- The four binary operations: the exact result, rounded once.
use Rattle.std.specs.Prelude.{ℕ, ◌+◌, ◌*◌, Bool, true, false, not, ◌&&◌, ◌||◌, leb, eqb}
use Rattle.std.specs.Prelude.{if◌then◌else◌}
use Rattle.convergents.specs.Pairs.{apart}
use Rattle.slash.specs.Answers.{Outcome, stop, done, ◌then◌}
use Rattle.slash.specs.Formats.{when_known}
use Rattle.slash.specs.Reading.{number_of, check_word}
use Rattle.slash.specs.Writing.{word_for}
use Rattle.slash.specs.Numbers.{is_nan}
use Rattle.slash.specs.declared.format.Format.{Format}
use Rattle.slash.specs.declared.number.Parts.{Parts}
use Rattle.slash.specs.declared.number.Value.{Value}
use Rattle.slash.specs.declared.number.Value.TheVariants.{Fraction, Zero, Infinity, NotANumber}
use Rattle.slash.specs.declared.number.Number.{Number}
use Rattle.arithmetic.specs.Operands.{operand_of, sign_of, differ, turned}
use Rattle.arithmetic.specs.declared.operand.Operand.{Operand}
use Rattle.arithmetic.specs.declared.operand.Operand.TheVariants.{Finite, Infinite}

-- ---- adding and subtracting

-- The size of ad ± bc: plus where the two terms have the same sign, minus otherwise.
unfoldable pub sum_size : (opposed : Bool) → ℕ → ℕ → ℕ
sum_size true ad bc = apart ad bc
sum_size false ad bc = ad + bc

-- The larger term's sign; an exact sum of 0 has sign 0.
unfoldable pub sum_sign : (s t : Bool) → (ad bc size : ℕ) → Bool
sum_sign s t ad bc size = if eqb size 0 then false else if leb bc ad then s else t

-- a/b plus c/d: the size of ad ± bc over bd.
unfoldable pub sum_parts : Parts → Parts → Parts
sum_parts p q =
    let ad : ℕ = p.numerator * q.denominator in
    let bc : ℕ = p.denominator * q.numerator in
    let size : ℕ = sum_size (differ p.negative q.negative) ad bc in
    record {
      negative = sum_sign p.negative q.negative ad bc size;
      numerator = size;
      denominator = p.denominator * q.denominator;
    }

-- Finite plus infinity, either way round, is that signed infinity; infinity plus an equal sign is infinity, opposite signs not-a-number.
unfoldable pub sum_of : Operand → Operand → Value
sum_of (Finite p) (Finite q) = Fraction (sum_parts p q)
sum_of (Finite p) (Infinite t) = Infinity t
sum_of (Infinite s) (Finite q) = Infinity s
sum_of (Infinite s) (Infinite t) = if differ s t then NotANumber else Infinity s

-- ---- multiplying and dividing, with the product s of the signs

-- ac over bd.
unfoldable pub product_parts : Bool → Parts → Parts → Parts
product_parts s p q =
    record { negative = s; numerator = p.numerator * q.numerator; denominator = p.denominator * q.denominator }

-- Zero times infinity is not-a-number; other products with infinity are infinity.
unfoldable pub times_infinity : Bool → Parts → Value
times_infinity s p = if eqb p.numerator 0 then NotANumber else Infinity s

unfoldable pub product_of : Bool → Operand → Operand → Value
product_of s (Finite p) (Finite q) = Fraction (product_parts s p q)
product_of s (Finite p) (Infinite t) = times_infinity s p
product_of s (Infinite u) (Finite q) = times_infinity s q
product_of s (Infinite u) (Infinite t) = Infinity s

-- ad over bc; nonzero finite by zero is infinity, 0 by 0 not-a-number.
unfoldable pub divided_by : Bool → Parts → Parts → Value
divided_by s p q =
    if eqb q.numerator 0 then (if eqb p.numerator 0 then NotANumber else Infinity s) else
    Fraction (record { negative = s; numerator = p.numerator * q.denominator; denominator = p.denominator * q.numerator })

-- Finite by infinity is zero; infinity by finite is infinity; infinity by infinity is not-a-number.
unfoldable pub quotient_of : Bool → Operand → Operand → Value
quotient_of s (Finite p) (Finite q) = divided_by s p q
quotient_of s (Finite p) (Infinite t) = Zero s
quotient_of s (Infinite u) (Finite q) = Infinity s
quotient_of s (Infinite u) (Infinite t) = NotANumber

-- ---- by code

-- Codes 1 to 4: +, -, ×, and ÷ for what is left. Subtracting is adding the right operand with its sign turned.
unfoldable pub exact_of : ℕ → Operand → Operand → Value
exact_of code x y =
    if eqb code 1 then sum_of x y else
    if eqb code 2 then sum_of x (turned y) else
    if eqb code 3 then product_of (differ (sign_of x) (sign_of y)) x y else
    quotient_of (differ (sign_of x) (sign_of y)) x y

-- The exact result of two values: any not-a-number operand gives one. (Its size is demand 3's N over D, which stands apart in Sizes: `size_exact`.)
unfoldable pub exact_value : ℕ → Value → Value → Value
exact_value code v w = if is_nan v || is_nan w then NotANumber else exact_of code (operand_of v) (operand_of w)

unfoldable pub is_binary : ℕ → Bool
is_binary code = leb 1 code && leb code 4

-- The exact result of two numbers rounded, marked if an operand was or rounding changed the value.
unfoldable pub combined : Format → ℕ → Number → Number → ℕ
combined f code x y = word_for f (x.approximate || y.approximate) (exact_value code x.value y.value)

-- Stop 1 for the format, 2 for the code, then the words': the left one's, 4 or 5, before the right one's.
unfoldable pub check_binary : Format → (code left right : ℕ) → Outcome (Unit {0})
check_binary f code left right =
    when_known f (
    if not (is_binary code) then stop 2 0 else (
    check_word f left then λ _.
    check_word f right))

unfoldable pub binary_word : Format → (code left right : ℕ) → Outcome ℕ
binary_word f code left right =
    check_binary f code left right then λ _.
    done (combined f code (number_of f left) (number_of f right))
