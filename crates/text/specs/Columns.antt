-- The columns of a printed line: word, fraction, percentage.
use Rattle.std.specs.Prelude.{ℕ, ◌+◌, ◌*◌, ◌/◌, ◌%◌, List, ◌++◌, ltb, eqb}
use Rattle.std.specs.Prelude.{if◌then◌else◌}
use Rattle.convergents.specs.Pairs.{Pair, apart}
use Rattle.text.specs.Numbers.{tab, slash, point, hyphen, decimal, hexadecimal}
use Rattle.breaths.specs.Ratios.{word_of, fraction_of}
use Rattle.breaths.specs.declared.ratio.Ratio.{Ratio}
use Rattle.breaths.specs.declared.ratio.Ratio.TheVariants.{Void, Word}

-- How far a whole number t is from 1000 n/d, times d.
abbrev pub distance : (n d t : ℕ) → ℕ
distance n d t = apart (1000 * n) (t * d)

-- The nearest whole number to 1000 n/d, and at a tie the even one. (1000 n/d is its whole part, `below`, or lies between that and `above`.)
unfoldable pub thousandths : (n d : ℕ) → ℕ
thousandths n d =
    let below : ℕ = 1000 * n / d in
    let above : ℕ = below + 1 in
    if ltb (distance n d below) (distance n d above) then below else
    if ltb (distance n d above) (distance n d below) then above else
    if eqb (below % 2) 0 then below else above

-- Thousandths as a percentage with one digit after the point.
unfoldable pub percentage : ℕ → List ℕ
percentage t = decimal (t / 10) ++ point ++ decimal (t % 10)

-- n/d
unfoldable pub fraction_text : Pair → List ℕ
fraction_text x = decimal x.numerator ++ slash ++ decimal x.denominator

-- What stands behind the word: its fraction, and the percentage of that fraction; a void one has two hyphens. Tab-parted.
unfoldable pub fraction_and_percentage : Ratio → List ℕ
fraction_and_percentage Void = hyphen ++ tab ++ hyphen
fraction_and_percentage (Word w) =
    let x : Pair = fraction_of w in
    fraction_text x ++ tab ++ percentage (thousandths x.numerator x.denominator)

-- The word as 8 lowercase hexadecimal digits, and what stands behind it.
unfoldable pub columns : Ratio → List ℕ
columns r = hexadecimal 8 (word_of r) ++ tab ++ fraction_and_percentage r
