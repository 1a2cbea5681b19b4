-- The shape of a line, its line feed not counted: whole number or `all`; eight lowercase hexadecimal digits; two hyphens, or a fraction and a
-- one-place decimal; tab-parted.
use Rattle.std.specs.Prelude.{ℕ, Bool, ◌&&◌, ◌||◌, List, [], ◌∷◌, length, Option, Some, None}
use Rattle.std.specs.Prelude.{if◌then◌else◌}
use Rattle.text.specs.Numbers.{hyphen}
use Rattle.text.specs.Scan.{same, parted}
use Rattle.text.specs.Lines.{name_text}
use Rattle.text.specs.declared.line.Name.TheVariants.{All}
use Rattle.shapes.specs.Fields.{is_whole, in_two, is_fraction, is_decimal}
use Rattle.shapes.specs.Words.{is_word, word_in}
use Rattle.shapes.specs.declared.shape.Said.{Said}

-- What a line may begin with.
unfoldable pub is_named : List ℕ → Bool
is_named xs = is_whole xs || same xs (name_text All)

-- What may stand behind the word.
unfoldable pub are_columns : List ℕ → List ℕ → Bool
are_columns x y = (same x hyphen && same y hyphen) || (is_fraction x && is_decimal y)

-- What a line of these fields says: how many bytes its name has, and its word; nothing where it isn't so shaped.
unfoldable pub shape_of_fields : List (List ℕ) → Option Said
shape_of_fields [] = None
shape_of_fields (a ∷ []) = None
shape_of_fields (a ∷ b ∷ rest) =
    if is_named a && (is_word b && in_two are_columns rest) then Some (record { name = length a; word = word_in b }) else None

unfoldable pub shape_of : List ℕ → Option Said
shape_of line = shape_of_fields (parted 9 line)
