-- The fields of a line: whole numbers, fractions and one-place decimals, each of any length. A field is a list of bytes.
use Rattle.std.specs.Prelude.{ℕ, Bool, false, not, ◌&&◌, List, [], ◌∷◌, eqb, ltb, length}
use Rattle.std.specs.List.{list_all}
use Rattle.text.specs.Scan.{is_digit, parted}

-- A whole number: digits, at least one, and no 0 (byte 48) in front of another.
unfoldable pub is_whole : List ℕ → Bool
is_whole [] = false
is_whole (x ∷ xs) = (is_digit x && list_all is_digit xs) && not (eqb x 48 && ltb 0 (length xs))

-- One digit.
unfoldable pub is_place : List ℕ → Bool
is_place xs = eqb (length xs) 1 && list_all is_digit xs

-- Two parts, and no more, that go together so.
unfoldable pub in_two : (List ℕ → List ℕ → Bool) → List (List ℕ) → Bool
in_two fit [] = false
in_two fit (x ∷ []) = false
in_two fit (x ∷ y ∷ []) = fit x y
in_two fit (x ∷ y ∷ z ∷ more) = false

-- A fraction: two whole numbers parted by a slash (byte 47).
unfoldable pub are_wholes : List ℕ → List ℕ → Bool
are_wholes x y = is_whole x && is_whole y

unfoldable pub is_fraction : List ℕ → Bool
is_fraction xs = in_two are_wholes (parted 47 xs)

-- A one-place decimal: a whole number and one digit parted by a point (byte 46).
unfoldable pub are_whole_and_place : List ℕ → List ℕ → Bool
are_whole_and_place x y = is_whole x && is_place y

unfoldable pub is_decimal : List ℕ → Bool
is_decimal xs = in_two are_whole_and_place (parted 46 xs)
