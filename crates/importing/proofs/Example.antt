-- Records worked by the definitions, from bytes to words (`example`) and to stops (`example_stops`). Assumes nothing.
use mathlib.Core.Path.{◌≡◌, refl}
use mathlib.Core.List.{[], ◌∷◌}
use Rattle.convergents.specs.Pairs.{differs}
use Rattle.convergents.specs.Convergents.{euclid, quotients, recurrence, convergents}
use Rattle.convergents.specs.Rounding.{held, last_held, round}
use Rattle.slash.specs.Answers.{stop, done}
use Rattle.slash.specs.Bits.{bit_of, word_of_fields}
use Rattle.slash.specs.Formats.{holds}
use Rattle.slash.specs.Writing.{word_for, pair_word, fixed_word}
use Rattle.vectors.specs.Each.{at_place, each}
use Rattle.breaths.specs.Ratios.{ratio_word}
use Rattle.importing.specs.Floats.{significand, exponent, is_timing, are_timings, is_ratio, float_ratio}
use Rattle.importing.specs.Records.{lowest_first, number_at, record_of, content_of, content_ratio, record_word}
use Rattle.importing.specs.Imports.{first_records, records_in, import_each}

-- 1.5 seconds of breathing in of 4 seconds, and the ratio 0.375: both are 3/8, word 30008 (hexadecimal).
pub example : import_each (1 ∷ 0 ∷ 0 ∷ 0 ∷ 0 ∷ 0 ∷ 192 ∷ 63 ∷ 0 ∷ 0 ∷ 128 ∷ 64 ∷ 2 ∷ 0 ∷ 0 ∷ 0 ∷ 0 ∷ 0 ∷ 192 ∷ 62 ∷ 0 ∷ 0 ∷ 0 ∷ 0 ∷ []) (7 ∷ 7 ∷ []) ≡ done (196616 ∷ 196616 ∷ [])
unfolding import_each records_in first_records record_of number_at lowest_first each at_place record_word content_of are_timings is_timing is_ratio content_ratio float_ratio significand exponent ratio_word word_for pair_word fixed_word word_of_fields bit_of round last_held held convergents recurrence quotients euclid differs holds
example = refl

-- The ratio 0.375 with a second number that isn't 0, and with -0; 1.5 seconds of 1024; a kind that is 1 read highest byte first; 11 bytes; a
-- record and no place; of two records, a good one before an unknown kind, and a bad number (0 seconds in) before an unknown kind.
pub example_stops : (import_each (2 ∷ 0 ∷ 0 ∷ 0 ∷ 0 ∷ 0 ∷ 192 ∷ 62 ∷ 1 ∷ 0 ∷ 0 ∷ 0 ∷ []) (7 ∷ []) ≡ stop 18 0)
    × (import_each (2 ∷ 0 ∷ 0 ∷ 0 ∷ 0 ∷ 0 ∷ 192 ∷ 62 ∷ 0 ∷ 0 ∷ 0 ∷ 128 ∷ []) (7 ∷ []) ≡ stop 18 0)
    × (import_each (1 ∷ 0 ∷ 0 ∷ 0 ∷ 0 ∷ 0 ∷ 192 ∷ 63 ∷ 0 ∷ 0 ∷ 128 ∷ 68 ∷ []) (7 ∷ []) ≡ stop 18 0)
    × (import_each (0 ∷ 0 ∷ 0 ∷ 1 ∷ 0 ∷ 0 ∷ 192 ∷ 63 ∷ 0 ∷ 0 ∷ 128 ∷ 64 ∷ []) (7 ∷ []) ≡ stop 17 0)
    × (import_each (1 ∷ 0 ∷ 0 ∷ 0 ∷ 0 ∷ 0 ∷ 192 ∷ 63 ∷ 0 ∷ 0 ∷ 128 ∷ []) (7 ∷ []) ≡ stop 16 0)
    × (import_each (1 ∷ 0 ∷ 0 ∷ 0 ∷ 0 ∷ 0 ∷ 192 ∷ 63 ∷ 0 ∷ 0 ∷ 128 ∷ 64 ∷ []) [] ≡ stop 3 0)
    × (import_each (1 ∷ 0 ∷ 0 ∷ 0 ∷ 0 ∷ 0 ∷ 192 ∷ 63 ∷ 0 ∷ 0 ∷ 128 ∷ 64 ∷ 3 ∷ 0 ∷ 0 ∷ 0 ∷ 0 ∷ 0 ∷ 192 ∷ 62 ∷ 0 ∷ 0 ∷ 0 ∷ 0 ∷ []) (7 ∷ 7 ∷ []) ≡ stop 17 1)
    × (import_each (1 ∷ 0 ∷ 0 ∷ 0 ∷ 0 ∷ 0 ∷ 0 ∷ 0 ∷ 0 ∷ 0 ∷ 128 ∷ 64 ∷ 3 ∷ 0 ∷ 0 ∷ 0 ∷ 0 ∷ 0 ∷ 192 ∷ 62 ∷ 0 ∷ 0 ∷ 0 ∷ 0 ∷ []) (7 ∷ 7 ∷ []) ≡ stop 18 0)
unfolding import_each records_in first_records record_of number_at lowest_first each at_place record_word content_of are_timings is_timing is_ratio
example_stops = (refl, refl, refl, refl, refl, refl, refl, refl)
