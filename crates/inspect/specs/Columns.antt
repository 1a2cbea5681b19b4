-- The columns of an inspected word.
use Rattle.std.specs.Prelude.{ℕ, zero, suc, ◌+◌, ◌*◌, ◌/◌, ◌%◌, Bool, true, false, List, [], ◌∷◌, ◌++◌, eqb}
use Rattle.std.specs.Prelude.{if◌then◌else◌}
use Rattle.slash.specs.Formats.{width_of}
use Rattle.slash.specs.declared.format.Format.{Format}
use Rattle.text.specs.Numbers.{point, hyphen, decimal, hex_digit}
use Rattle.text.specs.Columns.{thousandths}

-- How many hexadecimal digits a word of a format takes: a quarter of its width, rounded up.
unfoldable pub digit_count : Format → ℕ
digit_count f = (width_of f + 3) / 4

-- The sign: a hyphen where it is set, else a plus.
unfoldable pub sign_text : (negative : Bool) → List ℕ
sign_text true = hyphen
sign_text false = 43 ∷ []

-- The mark: the bytes of `approximate` and of `exact`.
unfoldable pub mark_text : (approximate : Bool) → List ℕ
mark_text true = 97 ∷ 112 ∷ 112 ∷ 114 ∷ 111 ∷ 120 ∷ 105 ∷ 109 ∷ 97 ∷ 116 ∷ 101 ∷ []
mark_text false = 101 ∷ 120 ∷ 97 ∷ 99 ∷ 116 ∷ []

-- The last `count` digits of n in a base up to 16, the highest first. (In base 16 they are the text's `hexadecimal`: `last_hex`.)
unfoldable pub last_digits : (base count n : ℕ) → List ℕ
last_digits base zero n = []
last_digits base (suc count) n = last_digits base count (n / base) ++ (hex_digit (n % base) ∷ [])

-- Millionths as a decimal with six places.
unfoldable pub six_places : (millionths : ℕ) → List ℕ
six_places t = decimal (t / 1000000) ++ point ++ last_digits 10 6 t

-- The size n/d to six places: the nearest number of millionths, and at a tie the even one, as thousandths of 1000 n/d are; a hyphen where it is
-- no number.
unfoldable pub size_text : (n d : ℕ) → List ℕ
size_text n d = if eqb d 0 then hyphen else six_places (thousandths (1000 * n) d)

-- Numbers, each behind a space.
unfoldable pub behind_spaces : List ℕ → List ℕ
behind_spaces [] = []
behind_spaces (q ∷ qs) = (32 ∷ []) ++ decimal q ++ behind_spaces qs

-- Partial quotients, parted by a space; a hyphen where there are none.
unfoldable pub quotients_text : List ℕ → List ℕ
quotients_text [] = hyphen
quotients_text (q ∷ qs) = decimal q ++ behind_spaces qs
