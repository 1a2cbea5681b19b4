-- Demand 3, of a word: no pair that the format holds does better than the pair of the word.
use Rattle.std.specs.Prelude.{ℕ}
use Rattle.convergents.specs.Best.{Best}
use Rattle.slash.specs.Numbers.{pair_of}
use Rattle.slash.specs.Reading.{number_of}
use Rattle.slash.specs.Formats.{holds}
use Rattle.slash.specs.declared.format.Format.{Format}
use Rattle.slash.specs.declared.number.Value.{Value}
use Rattle.slash.specs.declared.number.Value.TheVariants.{Fraction, Zero, Infinity, NotANumber}

-- The absolute value of an exact result: N over D where it is finite, and none elsewhere.
infix 4 ◌over◌
pub data ExactSize : Type 0 where
  ◌over◌ : (N D : ℕ) → ExactSize
  none : ExactSize

-- The value's own: a fraction's parts, zero as 0/1.
abbrev pub size_of : Value → ExactSize
size_of (Fraction p) = p.numerator over p.denominator
size_of (Zero s) = 0 over 1
size_of (Infinity s) = none
size_of NotANumber = none

-- Of a word w that stands for N/D: its pair is the best that the format holds.
unfoldable pub BestForRatio : Format → ℕ → ℕ → ℕ → Type 0
BestForRatio f N D w = Best (holds f) N D (pair_of (number_of f w).value)

-- The same of a result; of one that isn't finite it says nothing.
abbrev pub BestForSize : Format → ExactSize → ℕ → Type 0
BestForSize f (N over D) w = BestForRatio f N D w
BestForSize f none w = Unit {0}

-- The same of a value that is written.
unfoldable pub BestForValue : Format → Value → ℕ → Type 0
BestForValue f v w = BestForSize f (size_of v) w
