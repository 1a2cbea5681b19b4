-- The vector form: a code at each place of equally long lent vectors.
use Rattle.std.specs.Prelude.{ℕ, not, ◌&&◌, List}
use Rattle.std.specs.Prelude.{if◌then◌else◌}
use Rattle.slash.specs.Answers.{Outcome, stop}
use Rattle.slash.specs.Formats.{when_known}
use Rattle.slash.specs.Reading.{number_of}
use Rattle.slash.specs.Best.{BestForSize}
use Rattle.slash.specs.declared.format.Format.{Format}
use Rattle.vectors.specs.Each.{each}
use Rattle.vectors.specs.Places.{Operands, places, same_length}
use Rattle.arithmetic.specs.Operations.{is_binary, binary_word}
use Rattle.arithmetic.specs.Sizes.{binary_size}

-- Stop 1 for the format, 2 for the code, 3 for vectors of unequal length, the result's too; then the words', lowest place first, the left
-- operand's before the right one's.
unfoldable pub binary_each : Format → ℕ → (left right out : List ℕ) → Outcome (List ℕ)
binary_each f code left right out =
    when_known f (
    if not (is_binary code) then stop 2 0 else
    if not (same_length left right && same_length left out) then stop 3 0 else
    each (λ x. binary_word f code x.left x.right) 0 (places left right))

-- Demand 3, of the operands and the word at a place.
unfoldable pub BestBinary : Format → ℕ → Operands → ℕ → Type 0
BestBinary f code x w = BestForSize f (binary_size code (number_of f x.left).value (number_of f x.right).value) w
