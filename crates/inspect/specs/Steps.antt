-- For the code and the proofs alone: the columns as the functions store them.
use Rattle.std.specs.Prelude.{◌≡◌, ℕ, Ok, Err, ◌+◌, ◌≤◌, Bool, List, [], ◌++◌, length}
use Rattle.convergents.specs.Pairs.{pair}
use Rattle.slash.specs.Answers.{Outcome}
use Rattle.slash.specs.declared.number.Parts.{Parts}
use Rattle.text.specs.Numbers.{tab, hexadecimal}
use Rattle.text.specs.Columns.{fraction_text}
use Rattle.inspect.specs.Columns.{sign_text, mark_text, quotients_text}

-- Behind the text that waits to be written there is room for t.
pub record Room (waiting t : List ℕ) : Type 0 where
  pub room : length waiting + length t ≤ 16384

-- t was added to it.
pub record Added (waiting t after : List ℕ) : Type 0 where
  pub bytes : after ≡ waiting ++ t

-- A column behind another.
unfoldable pub column : List ℕ → List ℕ
column t = tab ++ t

-- What a word stores: its digits, its sign, its fraction, its mark.
unfoldable pub stored_columns : (count word : ℕ) → Parts → (approximate : Bool) → List ℕ
stored_columns count w p a =
    hexadecimal count w ++ column (sign_text p.negative) ++ column (fraction_text (pair p.numerator p.denominator)) ++ column (mark_text a)

-- The column of a word's quotients; nothing on a stop.
unfoldable pub quotients_column : Outcome (List ℕ) → List ℕ
quotients_column (Err s) = []
quotients_column (Ok new) = column (quotients_text new)
