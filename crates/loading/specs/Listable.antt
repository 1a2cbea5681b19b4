-- Which words a listing has.
use Rattle.std.specs.Prelude.{◌≡◌, ℕ, Bool, true, ◌&&◌, ◌||◌, List, [], ◌∷◌, ◌==◌}
use Rattle.slash.specs.Reading.{number_of}
use Rattle.slash.specs.Writing.{word_for}
use Rattle.breaths.specs.Ratios.{ratio_format}
use Rattle.breaths.specs.declared.ratio.Ratio.TheVariants.{Word}
use Rattle.text.specs.Lines.{is_printable}

-- A word is canonical if what it says is written as that word. (Proved, of words from 0 to 1: just where slash Canonical says so, `listable_says` and
-- `says_listable`.)
unfoldable pub is_canonical : ℕ → Bool
is_canonical w = word_for ratio_format (number_of ratio_format w).approximate (number_of ratio_format w).value == w

-- Void, or canonical with sign 0 and from 0 to 1, of either mark.
unfoldable pub listable : ℕ → Bool
listable w = w == 0 || (is_printable (Word w) && is_canonical w)

abbrev pub AllListable : List ℕ → Type 0
AllListable [] = Unit {0}
AllListable (w ∷ ws) = (listable w ≡ true) × AllListable ws
