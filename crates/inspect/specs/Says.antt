-- What a line of input says, its line feed not counted: a format, a word, anything else, or that it isn't ended in time.
use Rattle.std.specs.Prelude.{ℕ, ◌+◌, ◌-◌, ◌*◌, ◌&&◌, List, [], ◌∷◌, eqb, leb, ltb, length, take, drop}
use Rattle.std.specs.Prelude.{if◌then◌else◌}
use Rattle.slash.specs.Formats.{format_of}
use Rattle.text.specs.Scan.{length_before, same}
use Rattle.inspect.specs.declared.said.Said.{Said}

-- The value of a hexadecimal digit, of either case: 0 to 9 (bytes 48 to 57), a to f (97 to 102), A to F (65 to 70); 16 of any other byte.
unfoldable pub digit_value : ℕ → ℕ
digit_value x =
    if leb 48 x && leb x 57 then x - 48 else
    if leb 97 x && leb x 102 then x - 87 else
    if leb 65 x && leb x 70 then x - 55 else
    16

-- ---- a word

-- What hexadecimal digits say, with the value of those before them.
unfoldable pub digits_say : (value : ℕ) → List ℕ → Said
digits_say value [] = Said.Word value
digits_say value (x ∷ xs) = if ltb (digit_value x) 16 then digits_say (value * 16 + digit_value x) xs else Said.Other

-- A word: 1 to 16 digits.
unfoldable pub word_says : List ℕ → Said
word_says xs = if leb 1 (length xs) && leb (length xs) 16 then digits_say 0 xs else Said.Other

-- ---- a format

-- A format of a kind, by its k: one decimal digit, or two of which the first isn't 0.
unfoldable pub kind_says : (kind : ℕ) → List ℕ → Said
kind_says kind [] = Said.Other
kind_says kind (x ∷ []) = if ltb (digit_value x) 10 then Said.Format (format_of kind (digit_value x)) else Said.Other
kind_says kind (x ∷ y ∷ []) =
    if (ltb 0 (digit_value x) && ltb (digit_value x) 10) && ltb (digit_value y) 10
    then Said.Format (format_of kind (digit_value x * 10 + digit_value y)) else Said.Other
kind_says kind (x ∷ y ∷ z ∷ more) = Said.Other

-- The bytes of `fixed` and of `floating`.
abbrev pub fixed_name : List ℕ
fixed_name = 102 ∷ 105 ∷ 120 ∷ 101 ∷ 100 ∷ []

abbrev pub floating_name : List ℕ
floating_name = 102 ∷ 108 ∷ 111 ∷ 97 ∷ 116 ∷ 105 ∷ 110 ∷ 103 ∷ []

-- A kind's name, and what stands behind it.
unfoldable pub format_says : (name k : List ℕ) → Said
format_says name k = if same name fixed_name then kind_says 1 k else if same name floating_name then kind_says 2 k else Said.Other

-- ---- a line

-- The most bytes of a line.
abbrev pub longest_line : ℕ
longest_line = 32

-- A line with more is as one that isn't ended. A line with a space (byte 32) in it is a format's: what stands before the first, and what stands
-- behind it. Any other is a word's.
unfoldable pub line_says : List ℕ → Said
line_says line =
    let i : ℕ = length_before 32 line in
    if ltb longest_line (length line) then Said.Unended else
    if eqb i (length line) then word_says line else format_says (take i line) (drop (i + 1) line)
