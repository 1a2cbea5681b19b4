-- A word as eight lowercase hexadecimal digits.
use Rattle.std.specs.Prelude.{ℕ, ◌+◌, ◌-◌, ◌*◌, Bool, ◌&&◌, ◌||◌, List, [], ◌∷◌, eqb, leb, length, Option, Some, None}
use Rattle.std.specs.Prelude.{if◌then◌else◌}
use Rattle.text.specs.Scan.{is_digit}
use Rattle.std.specs.List.{list_all}

-- A digit from 0 to f: bytes 48 to 57, and 97 to 102.
unfoldable pub is_hex_digit : ℕ → Bool
is_hex_digit x = is_digit x || (leb 97 x && leb x 102)

unfoldable pub is_word : List ℕ → Bool
is_word xs = eqb (length xs) 8 && list_all is_hex_digit xs

-- The value of a digit, and of digits with the value of those before them.
unfoldable pub hex_value : ℕ → ℕ
hex_value x = if is_digit x then x - 48 else x - 87

unfoldable pub hex_from : (value : ℕ) → List ℕ → ℕ
hex_from value [] = value
hex_from value (x ∷ xs) = hex_from (value * 16 + hex_value x) xs

unfoldable pub word_in : List ℕ → ℕ
word_in xs = hex_from 0 xs

-- What a byte says: its value, where it is such a digit; else nothing.
unfoldable pub hex_read : ℕ → Option ℕ
hex_read x = if is_hex_digit x then Some (hex_value x) else None

-- What a field says: the word, where it is eight such digits; else nothing.
unfoldable pub word_read : List ℕ → Option ℕ
word_read xs = if is_word xs then Some (word_in xs) else None
