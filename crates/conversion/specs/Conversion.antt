-- Conversion between formats: finite values are rounded, the sign is kept; zero, infinity and not-a-number are kept as such; the mark is 1
-- if the word's was or rounding changed the value, and 0 on not-a-number.
use Rattle.std.specs.Prelude.{ℕ}
use Rattle.slash.specs.Answers.{Outcome, done, ◌then◌}
use Rattle.slash.specs.Formats.{when_known}
use Rattle.slash.specs.Reading.{check_word, number_of}
use Rattle.slash.specs.Writing.{word_for}
use Rattle.slash.specs.declared.format.Format.{Format}
use Rattle.slash.specs.declared.number.Number.{Number}

-- Stop 1 for the source format and then for the target's, then 4 and 5.
unfoldable pub check_convert : (source target : Format) → ℕ → Outcome (Unit {0})
check_convert source target w =
    when_known source (
    when_known target (
    check_word source w))

-- The word's number, written in the target.
unfoldable pub converted : (source target : Format) → ℕ → ℕ
converted source target w = let x : Number = number_of source w in word_for target x.approximate x.value

unfoldable pub convert_word : (source target : Format) → ℕ → Outcome ℕ
convert_word source target w =
    check_convert source target w then λ _.
    done (converted source target w)
