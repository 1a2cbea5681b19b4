-- The text of an inspected word.
use Rattle.std.specs.Prelude.{ℕ, Ok, Err, List, ◌++◌}
use Rattle.convergents.specs.Pairs.{pair}
use Rattle.slash.specs.Answers.{Outcome}
use Rattle.slash.specs.Numbers.{parts_of}
use Rattle.slash.specs.Reading.{read_word}
use Rattle.slash.specs.declared.format.Format.{Format}
use Rattle.slash.specs.declared.number.Number.{Number}
use Rattle.slash.specs.declared.number.Parts.{Parts}
use Rattle.euclid.specs.Quotients.{value_quotients}
use Rattle.text.specs.Numbers.{tab, line_feed, hexadecimal}
use Rattle.text.specs.Columns.{fraction_text}
use Rattle.text.specs.Lines.{refused_line}
use Rattle.inspect.specs.Columns.{digit_count, sign_text, mark_text, size_text, quotients_text}

-- The columns of a word that says x: the word, its sign, its fraction, its mark, its size, its partial quotients. Tab-parted.
unfoldable pub columns : Format → (word : ℕ) → Number → List ℕ
columns f w x =
    let p : Parts = parts_of x.value in
    hexadecimal (digit_count f) w
    ++ (tab ++ sign_text p.negative)
    ++ (tab ++ fraction_text (pair p.numerator p.denominator))
    ++ (tab ++ mark_text x.approximate)
    ++ (tab ++ size_text p.numerator p.denominator)
    ++ (tab ++ quotients_text (value_quotients x.value))

-- The line of what reading a word comes to: of a stop its number and the line.
unfoldable pub read_text : Format → (line word : ℕ) → Outcome Number → List ℕ
read_text f line w (Err s) = refused_line s.number line
read_text f line w (Ok x) = columns f w x ++ line_feed

-- What is printed of a word, at a line.
unfoldable pub inspected_text : Format → (line word : ℕ) → List ℕ
inspected_text f line w = read_text f line w (read_word f w)
