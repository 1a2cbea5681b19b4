-- Numbers as text. A text is a list of bytes.
use Rattle.std.specs.Prelude.{ℕ, zero, suc, ◌+◌, ◌/◌, ◌%◌, true, false, List, [], ◌∷◌, ◌++◌, ltb}
use Rattle.std.specs.Prelude.{if◌then◌else◌}

-- A tab, a line feed, a slash, a point, a hyphen.
abbrev pub tab : List ℕ
tab = 9 ∷ []

abbrev pub line_feed : List ℕ
line_feed = 10 ∷ []

abbrev pub slash : List ℕ
slash = 47 ∷ []

abbrev pub point : List ℕ
point = 46 ∷ []

abbrev pub hyphen : List ℕ
hyphen = 45 ∷ []

-- The decimal digits of n, those of n / 10 first, after at most `steps` steps.
unfoldable pub decimal_from : (steps n : ℕ) → List ℕ
decimal_from zero n = (48 + n) ∷ []
decimal_from (suc steps) n = elim (ltb n 10) [ true ↦ (48 + n) ∷ [] | false ↦ decimal_from steps (n / 10) ++ ((48 + n % 10) ∷ []) ]

-- A number in decimal, no leading zeros. (n / 10 is less than n, so n steps are enough.)
unfoldable pub decimal : ℕ → List ℕ
decimal n = decimal_from n n

-- A digit from 0 to 15: 0 to 9, then a to f.
unfoldable pub hex_digit : ℕ → ℕ
hex_digit d = if ltb d 10 then 48 + d else 87 + d

-- The last `count` hexadecimal digits of n, the highest first.
unfoldable pub hexadecimal : (count n : ℕ) → List ℕ
hexadecimal zero n = []
hexadecimal (suc count) n = hexadecimal count (n / 16) ++ (hex_digit (n % 16) ∷ [])
