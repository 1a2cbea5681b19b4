-- Examples of what is printed, and of what lines say. Assumes nothing.
use mathlib.Core.Path.{◌≡◌, refl}
use mathlib.Core.List.{[], ◌∷◌}
use Rattle.convergents.specs.Convergents.{euclid, quotients}
use Rattle.slash.specs.Bits.{bits, bit}
use Rattle.slash.specs.Formats.{k_fits, known, check_format, format_of, width_of}
use Rattle.slash.specs.Reading.{fixed_value, fixed_number, number_of, is_above, check_word, read_word}
use Rattle.euclid.specs.Quotients.{value_quotients}
use Rattle.text.specs.Columns.{thousandths, fraction_text}
use Rattle.text.specs.Lines.{refused_line}
use Rattle.text.specs.Numbers.{decimal_from, decimal, hex_digit, hexadecimal}
use Rattle.text.specs.Scan.{length_before, same}
use Rattle.inspect.specs.Columns.{digit_count, sign_text, mark_text, last_digits, six_places, size_text, behind_spaces, quotients_text}
use Rattle.inspect.specs.Words.{columns, read_text, inspected_text}
use Rattle.inspect.specs.Says.{digit_value, digits_say, word_says, kind_says, format_says, line_says}
use Rattle.inspect.specs.declared.said.Said.TheVariants as Said

-- Words of fixed 15 at line 2: 277/642, a negative infinity that is marked, and one with a bit above the width; and a word where no format is set.
-- (The bytes of `01150282`, `+`, `277/642`, `exact`, `0.431464`, `0 2 3 6 1 3 3`; of `80018000`, `-`, `1/0`, `approximate`, `-`, `-`; of
-- `refused`, 4 and 2; of `refused`, 1 and 2.)
pub words : (inspected_text (format_of 1 15) 2 0x01150282
    ≡ 48 ∷ 49 ∷ 49 ∷ 53 ∷ 48 ∷ 50 ∷ 56 ∷ 50 ∷ 9 ∷ 43 ∷ 9 ∷ 50 ∷ 55 ∷ 55 ∷ 47 ∷ 54 ∷ 52 ∷ 50 ∷ 9 ∷ 101 ∷ 120 ∷ 97 ∷ 99 ∷ 116 ∷ 9 ∷ 48 ∷ 46 ∷ 52 ∷ 51 ∷ 49 ∷ 52 ∷ 54 ∷ 52 ∷ 9 ∷ 48 ∷ 32 ∷ 50 ∷ 32 ∷ 51 ∷ 32 ∷ 54 ∷ 32 ∷ 49 ∷ 32 ∷ 51 ∷ 32 ∷ 51 ∷ 10 ∷ [])
    × (inspected_text (format_of 1 15) 2 0x80018000
    ≡ 56 ∷ 48 ∷ 48 ∷ 49 ∷ 56 ∷ 48 ∷ 48 ∷ 48 ∷ 9 ∷ 45 ∷ 9 ∷ 49 ∷ 47 ∷ 48 ∷ 9 ∷ 97 ∷ 112 ∷ 112 ∷ 114 ∷ 111 ∷ 120 ∷ 105 ∷ 109 ∷ 97 ∷ 116 ∷ 101 ∷ 9 ∷ 45 ∷ 9 ∷ 45 ∷ 10 ∷ [])
    × (inspected_text (format_of 1 15) 2 0x100000000 ≡ 114 ∷ 101 ∷ 102 ∷ 117 ∷ 115 ∷ 101 ∷ 100 ∷ 9 ∷ 52 ∷ 9 ∷ 50 ∷ 10 ∷ [])
    × (inspected_text (format_of 0 0) 2 5 ≡ 114 ∷ 101 ∷ 102 ∷ 117 ∷ 115 ∷ 101 ∷ 100 ∷ 9 ∷ 49 ∷ 9 ∷ 50 ∷ 10 ∷ [])
unfolding inspected_text read_text read_word check_word check_format known k_fits is_above width_of number_of fixed_number fixed_value bits bit columns digit_count hexadecimal hex_digit sign_text fraction_text decimal decimal_from mark_text size_text thousandths six_places last_digits quotients_text behind_spaces value_quotients quotients euclid refused_line
words = (refl, refl, refl, refl)

-- A tie goes to the even digit: 1/128, 0.0078125, prints 0.007812, and 3/128, 0.0234375, prints 0.023438.
pub ties : (size_text 1 128 ≡ 48 ∷ 46 ∷ 48 ∷ 48 ∷ 55 ∷ 56 ∷ 49 ∷ 50 ∷ []) × (size_text 3 128 ≡ 48 ∷ 46 ∷ 48 ∷ 50 ∷ 51 ∷ 52 ∷ 51 ∷ 56 ∷ [])
unfolding size_text thousandths six_places last_digits hex_digit decimal decimal_from
ties = (refl, refl)

-- What lines say: `floating 26`, `1F0a`, and `fixed 02`, where a 0 stands before another digit.
pub lines : (line_says (102 ∷ 108 ∷ 111 ∷ 97 ∷ 116 ∷ 105 ∷ 110 ∷ 103 ∷ 32 ∷ 50 ∷ 54 ∷ []) ≡ Said.Format (format_of 2 26))
    × (line_says (49 ∷ 70 ∷ 48 ∷ 97 ∷ []) ≡ Said.Word 0x1F0A)
    × (line_says (102 ∷ 105 ∷ 120 ∷ 101 ∷ 100 ∷ 32 ∷ 48 ∷ 50 ∷ []) ≡ Said.Other)
unfolding line_says length_before format_says same kind_says word_says digits_say digit_value
lines = (refl, refl, refl)
