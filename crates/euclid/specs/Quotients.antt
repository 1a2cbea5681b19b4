-- The partial quotients of a word's finite absolute value: their count alone, and they themselves in a lent list.
use Rattle.std.specs.Prelude.{ℕ, List, [], ◌++◌, leb, length, drop}
use Rattle.std.specs.Prelude.{if◌then◌else◌, Ok, Err}
use Rattle.convergents.specs.Convergents.{quotients}
use Rattle.slash.specs.Answers.{Outcome, stop, done, ◌then◌}
use Rattle.slash.specs.Reading.{read_word}
use Rattle.slash.specs.declared.format.Format.{Format}
use Rattle.slash.specs.declared.number.Value.{Value}
use Rattle.slash.specs.declared.number.Value.TheVariants.{Fraction, Zero, Infinity, NotANumber}

-- The quotients that rounding's convergents have, first one first (at most 2k of them: `quotients_at_most`); zero, 0/1, has the one quotient 0;
-- none for infinity or not-a-number.
unfoldable pub value_quotients : Value → List ℕ
value_quotients (Fraction p) = quotients p.numerator p.denominator
value_quotients (Zero s) = quotients 0 1
value_quotients (Infinity s) = []
value_quotients NotANumber = []

-- The quotients of a word, with stops 1, 4 and 5 as reading has them.
unfoldable pub word_quotients : Format → ℕ → Outcome (List ℕ)
word_quotients f w = read_word f w then λ x. done (value_quotients x.value)

-- The count alone, with no list lent.
unfoldable pub count_alone : Format → ℕ → Outcome ℕ
count_alone f w = word_quotients f w then λ new. done (length new)

-- Quotients and a lent list: their count, or stop 7 where the list is shorter.
unfoldable pub count_in : List ℕ → List ℕ → Outcome ℕ
count_in list new = if leb (length new) (length list) then done (length new) else stop 7 0

-- What stands in the list then: the quotients, and its rest as it was; on a stop all as it was. (The list lent has 32-bit numbers.)
unfoldable pub stored_in : List ℕ → List ℕ → List ℕ
stored_in list new = if leb (length new) (length list) then new ++ drop (length new) list else list

-- Of a word and a lent list: the count, and the list.
unfoldable pub quotient_count : Format → ℕ → List ℕ → Outcome ℕ
quotient_count f w list = word_quotients f w then count_in list

unfoldable pub quotients_after : Outcome (List ℕ) → List ℕ → List ℕ
quotients_after (Err s) list = list
quotients_after (Ok new) list = stored_in list new
