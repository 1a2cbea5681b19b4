-- For the code and the proofs alone: what private functions come to, and what they may take for granted.
use Rattle.std.specs.Prelude.{ℕ, ◌+◌, ◌-◌, ◌^◌, Bool, false, true, eqb}
use Rattle.std.specs.Prelude.{if◌then◌else◌}
use Rattle.slash.specs.Answers.{Outcome, stop, done}
use Rattle.slash.specs.Steps.{SmallParts, or_zero}
use Rattle.slash.specs.declared.number.Value.{Value}
use Rattle.slash.specs.declared.number.Value.TheVariants.{Fraction, Zero, Infinity, NotANumber}
use Rattle.slash.specs.declared.format.Format.{Format}
use Rattle.vectors.specs.Places.{Operands}
use Rattle.arithmetic.specs.Operations.{binary_word}
use Rattle.arithmetic.specs.declared.operation.Operation.{Operation}
use Rattle.arithmetic.specs.declared.operation.Operation.TheVariants.{Add, Subtract, Multiply, Divide}
use Rattle.arithmetic.specs.declared.operand.Operand.{Operand}
use Rattle.arithmetic.specs.declared.operand.Operand.TheVariants.{Finite, Infinite}

-- An operand as it is read from a word. (For the code alone.)
unfoldable pub Small : Operand → Type 0
Small (Finite p) = SmallParts p
Small (Infinite s) = Unit {0}

-- Where a number of this sign and size lies on a line that has 0 at 2^62.
abbrev pub on_line : Bool → ℕ → ℕ
on_line true size = 2 ^ 62 - size
on_line false size = 2 ^ 62 + size

unfoldable pub is_fraction : Value → Bool
is_fraction (Fraction p) = true
is_fraction (Zero s) = false
is_fraction (Infinity s) = false
is_fraction NotANumber = false

-- What is stored for the words at a place.
unfoldable pub binary_in : Format → ℕ → Operands → ℕ
binary_in f code x = or_zero (binary_word f code x.left x.right)

-- The value of parts; zero is the fraction 0/1.
unfoldable pub value_from : Bool → ℕ → ℕ → Value
value_from s n d =
    if eqb d 0 then (if eqb n 0 then NotANumber else Infinity s)
    else Fraction (record { negative = s; numerator = n; denominator = d })

-- ---- operations

unfoldable pub code_of : Operation → ℕ
code_of Add = 1
code_of Subtract = 2
code_of Multiply = 3
code_of Divide = 4

-- The operation of a code, or stop 2.
unfoldable pub operation_of : ℕ → Outcome Operation
operation_of code =
    if eqb code 1 then done Add else
    if eqb code 2 then done Subtract else
    if eqb code 3 then done Multiply else
    if eqb code 4 then done Divide else
    stop 2 0
