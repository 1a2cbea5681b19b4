-- The vector form: a code at each place of a lent vector.
use Rattle.std.specs.Prelude.{ℕ, ◌≤◌, not, List}
use Rattle.std.specs.Prelude.{if◌then◌else◌}
use Rattle.slash.specs.Answers.{Outcome, stop}
use Rattle.slash.specs.Formats.{when_known}
use Rattle.slash.specs.Reading.{number_of}
use Rattle.slash.specs.Best.{BestForValue}
use Rattle.slash.specs.declared.format.Format.{Format}
use Rattle.vectors.specs.Each.{each}
use Rattle.vectors.specs.Places.{same_length}
use Rattle.unary.specs.Operations.{is_unary, exact_unary, unary_word}

-- Stop 1 for the format, 2 for the code, 3 for vectors of unequal length; then the words', lowest place first.
unfoldable pub unary_each : Format → ℕ → (operand out : List ℕ) → Outcome (List ℕ)
unary_each f code operand out =
    when_known f (
    if not (is_unary code) then stop 2 0 else
    if not (same_length operand out) then stop 3 0 else
    each (unary_word f code) 0 operand)

-- That the word at a place is the best for its operand, by codes 3 to 7 (1 and 2 keep the operand's pair).
unfoldable pub BestUnary : Format → ℕ → ℕ → ℕ → Type 0
BestUnary f code x w = 3 ≤ code → BestForValue f (exact_unary code (number_of f x).value) w
