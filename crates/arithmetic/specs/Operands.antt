-- Operands: a word's value as the operations take it.
use Rattle.std.specs.Prelude.{Bool, false, not}
use Rattle.std.specs.Bool.{beq}
use Rattle.slash.specs.Numbers.{parts_of}
use Rattle.slash.specs.declared.number.Value.{Value}
use Rattle.slash.specs.declared.number.Value.TheVariants.{Fraction, Zero, Infinity, NotANumber}
use Rattle.arithmetic.specs.declared.operand.Operand.{Operand}
use Rattle.arithmetic.specs.declared.operand.Operand.TheVariants.{Finite, Infinite}

-- Finite operands are read by their fields as a/b, zero as 0/1 (`parts_of`), the sign apart. (Not-a-number is taken out before: `is_nan`.)
unfoldable pub operand_of : Value → Operand
operand_of (Fraction p) = Finite p
operand_of (Zero s) = Finite (parts_of (Zero s))
operand_of (Infinity s) = Infinite s
operand_of NotANumber = Infinite false

unfoldable pub sign_of : Operand → Bool
sign_of (Finite p) = p.negative
sign_of (Infinite s) = s

-- Whether two signs differ: products and quotients multiply signs.
abbrev pub differ : Bool → Bool → Bool
differ s t = not (beq s t)

-- An operand with its sign turned.
unfoldable pub turned : Operand → Operand
turned (Finite p) = Finite (record { negative = not p.negative; numerator = p.numerator; denominator = p.denominator })
turned (Infinite s) = Infinite (not s)
