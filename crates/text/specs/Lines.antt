-- The lines of a listing.
use Rattle.std.specs.Prelude.{ℕ, suc, ◌^◌, Bool, true, ◌&&◌, List, [], ◌∷◌, ◌++◌, leb, ltb}
use Rattle.std.specs.Prelude.{if◌then◌else◌}
use Rattle.convergents.specs.Pairs.{Pair}
use Rattle.breaths.specs.Ratios.{fraction_of}
use Rattle.breaths.specs.Sums.{most_breaths}
use Rattle.breaths.specs.declared.ratio.Ratio.{Ratio}
use Rattle.breaths.specs.declared.ratio.Ratio.TheVariants.{Void, Word}
use Rattle.text.specs.Numbers.{tab, line_feed, decimal}
use Rattle.text.specs.Columns.{columns}
use Rattle.text.specs.declared.line.Name.{Name}
use Rattle.text.specs.declared.line.Name.TheVariants.{Number, All}

-- What a line begins with: a breath's number, or `all`. (The bytes of `all`.)
unfoldable pub name_text : Name → List ℕ
name_text (Number n) = decimal n
name_text All = 97 ∷ 108 ∷ 108 ∷ []

-- A line: its name, and the columns of its ratio, tab-parted and ended by a line feed.
unfoldable pub line_of : Name → Ratio → List ℕ
line_of name r = name_text name ++ tab ++ columns r ++ line_feed

-- The lines of some ratios, numbered from a number on.
unfoldable pub numbered : (number : ℕ) → List Ratio → List ℕ
numbered number [] = []
numbered number (r ∷ rs) = line_of (Number number) r ++ numbered (suc number) rs

-- `refused`, the stop's number and the line. (The bytes of `refused` and of a tab.)
unfoldable pub refused_line : (stop line : ℕ) → List ℕ
refused_line stop line = (114 ∷ 101 ∷ 102 ∷ 117 ∷ 115 ∷ 101 ∷ 100 ∷ 9 ∷ []) ++ decimal stop ++ tab ++ decimal line ++ line_feed

-- The longest line of a listing: 5 digits, 8 digits, two numbers of 5 digits with a slash, 100.0, three tabs and the line feed.
abbrev pub longest_line : ℕ
longest_line = 33

-- ---- which lines are stored

-- Breaths are numbered from 1 on.
unfoldable pub is_name : Name → Bool
is_name (Number n) = leb 1 n && leb n most_breaths
is_name All = true

-- A ratio that a line can show: void, or a word with sign 0 (bit 31, the highest) from 0 to 1.
unfoldable pub is_printable : Ratio → Bool
is_printable Void = true
is_printable (Word w) =
    let x : Pair = fraction_of w in
    ltb w (2 ^ 31) && (leb 1 x.denominator && leb x.numerator x.denominator)

-- What is stored of a line where there is so much room: the line, where a listing can have it and the longest has room; else nothing.
unfoldable pub line_in : (room : ℕ) → Name → Ratio → List ℕ
line_in room name r = if leb longest_line room && (is_name name && is_printable r) then line_of name r else []
