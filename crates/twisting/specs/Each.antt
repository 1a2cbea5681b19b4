-- The vector forms: one of the two ways at each place of a lent vector.
use Rattle.std.specs.Prelude.{ℕ, not, List}
use Rattle.std.specs.Prelude.{if◌then◌else◌}
use Rattle.slash.specs.Answers.{Outcome, stop, ◌then◌}
use Rattle.slash.specs.declared.format.Format.{Format}
use Rattle.vectors.specs.Each.{each}
use Rattle.vectors.specs.Places.{same_length}
use Rattle.twisting.specs.Twisting.{twisted_field, untwisted_field, check_floating, rearrange}

-- Stop 1 for the format, 3 for vectors of unequal length; then the words', lowest place first.
unfoldable pub rearrange_each : (way : ℕ → ℕ → ℕ → ℕ) → Format → (operand out : List ℕ) → Outcome (List ℕ)
rearrange_each way f operand out =
    check_floating f then λ _.
    if not (same_length operand out) then stop 3 0 else
    each (rearrange way f) 0 operand

unfoldable pub twist_each : Format → (operand out : List ℕ) → Outcome (List ℕ)
twist_each f operand out = rearrange_each twisted_field f operand out

unfoldable pub untwist_each : Format → (operand out : List ℕ) → Outcome (List ℕ)
untwist_each f operand out = rearrange_each untwisted_field f operand out
