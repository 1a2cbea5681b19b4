-- The vector form: a conversion at each place of a lent vector.
use Rattle.std.specs.Prelude.{ℕ, not, List}
use Rattle.std.specs.Prelude.{if◌then◌else◌}
use Rattle.slash.specs.Answers.{Outcome, stop}
use Rattle.slash.specs.Formats.{when_known}
use Rattle.slash.specs.Reading.{number_of}
use Rattle.slash.specs.Best.{BestForValue}
use Rattle.slash.specs.declared.format.Format.{Format}
use Rattle.vectors.specs.Each.{each}
use Rattle.vectors.specs.Places.{same_length}
use Rattle.conversion.specs.Conversion.{convert_word}

-- Stop 1 for the source format and then for the target's, 3 for vectors of unequal length; then the words', lowest place first.
unfoldable pub convert_each : (source target : Format) → (operand out : List ℕ) → Outcome (List ℕ)
convert_each source target operand out =
    when_known source (
    when_known target (
    if not (same_length operand out) then stop 3 0 else
    each (convert_word source target) 0 operand))

-- Demand 3, of the operand and the word at a place.
unfoldable pub BestConverted : (source target : Format) → ℕ → ℕ → Type 0
BestConverted source target x w = BestForValue target (number_of source x).value w
