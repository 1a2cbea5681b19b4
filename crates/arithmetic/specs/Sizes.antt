-- Demand 3's N over D, as 01 has them under Rounding: the absolute value of the exact result of a binary operation, where that is finite.
use Rattle.std.specs.Prelude.{ℕ, ◌+◌, ◌*◌, Bool, true, false, not, ◌&&◌, eqb}
use Rattle.std.specs.Bool.{beq}
use Rattle.std.specs.Prelude.{if◌then◌else◌}
use Rattle.convergents.specs.Pairs.{apart}
use Rattle.slash.specs.Best.{ExactSize, ◌over◌, none}
use Rattle.slash.specs.Numbers.{parts_of}
use Rattle.slash.specs.declared.number.Parts.{Parts}
use Rattle.slash.specs.declared.number.Value.{Value}
use Rattle.slash.specs.declared.number.Value.TheVariants.{Fraction, Zero, Infinity, NotANumber}

unfoldable pub is_finite : Value → Bool
is_finite (Fraction p) = true
is_finite (Zero s) = true
is_finite (Infinity s) = false
is_finite NotANumber = false

unfoldable pub is_infinite : Value → Bool
is_infinite (Fraction p) = false
is_infinite (Zero s) = false
is_infinite (Infinity s) = true
is_infinite NotANumber = false

-- The size of ad ± bc: plus where the two terms added, of signs s and t, have the same sign, and minus otherwise.
unfoldable pub size_of_sum : (s t : Bool) → (ad bc : ℕ) → ℕ
size_of_sum s t ad bc = if beq s t then ad + bc else apart ad bc

-- Of two finite operands, read as a/b and c/d, the signs s and t apart: for a sum or difference the size of ad ± bc over bd; for a product ac
-- over bd; for a quotient ad over bc, where the divisor isn't zero. In a difference the term added is the right operand with its sign turned.
unfoldable pub finite_size : (code : ℕ) (s : Bool) (a b : ℕ) (t : Bool) (c d : ℕ) → ExactSize
finite_size code s a b t c d =
    if eqb code 1 then size_of_sum s t (a * d) (b * c) over b * d else
    if eqb code 2 then size_of_sum s (not t) (a * d) (b * c) over b * d else
    if eqb code 3 then a * c over b * d else
    if eqb code 4 then (if eqb c 0 then none else (a * d over b * c)) else
    none

-- Of two values: finite operands are read by their fields, zero as 0/1 (`parts_of`); 0 over 1 where a finite value is divided by infinity; no
-- other result is finite.
unfoldable pub binary_size : (code : ℕ) (left right : Value) → ExactSize
binary_size code left right =
    let p : Parts = parts_of left in
    let q : Parts = parts_of right in
    if is_finite left && is_finite right
    then finite_size code p.negative p.numerator p.denominator q.negative q.numerator q.denominator
    else if (is_finite left && is_infinite right) && eqb code 4 then 0 over 1 else
    none
