-- A word's value as numbers in a row, which a caller in C reads and writes as a struct: sign, class, numerator, denominator, mark.
use Rattle.std.specs.Prelude.{ℕ, Bool, ◌||◌, List, [], ◌∷◌, eqb, ltb, get_or}
use Rattle.std.specs.Prelude.{if◌then◌else◌}
use Rattle.slash.specs.Answers.{Outcome, stop, done, ◌then◌, WhenDone}
use Rattle.slash.specs.Best.{BestForValue}
use Rattle.slash.specs.Bits.{bit_of}
use Rattle.slash.specs.Formats.{when_known}
use Rattle.slash.specs.Numbers.{parts_of}
use Rattle.slash.specs.Reading.{read_word}
use Rattle.slash.specs.Writing.{write_number}
use Rattle.slash.specs.declared.format.Format.{Format}
use Rattle.slash.specs.declared.number.Number.{Number}
use Rattle.slash.specs.declared.number.Value.{Value}
use Rattle.slash.specs.declared.number.Value.TheVariants.{Fraction, Zero, Infinity, NotANumber}

-- ---- what is read

-- The four classes.
unfoldable pub class_of : Value → ℕ
class_of (Fraction p) = 1
class_of (Zero s) = 2
class_of (Infinity s) = 3
class_of NotANumber = 4

-- A value with its mark as five numbers. The parts are a fraction's own; zero is 0/1, infinity 1/0, not-a-number 0/0.
unfoldable pub numbers_of : Number → List ℕ
numbers_of x =
    bit_of (parts_of x.value).negative ∷ class_of x.value ∷ (parts_of x.value).numerator ∷ (parts_of x.value).denominator
    ∷ bit_of x.approximate ∷ []

-- What a word says, so. Stops 1, 4, 5, as reading has them.
unfoldable pub read_numbers : Format → ℕ → Outcome (List ℕ)
read_numbers f w = read_word f w then λ x. done (numbers_of x)

-- ---- what is written

-- The value of a sign, a class and parts; only a fraction's parts are looked at. Stop 2: a class that is none of the four.
unfoldable pub value_from : (negative : Bool) (class n d : ℕ) → Outcome Value
value_from negative class n d =
    if eqb class 1 then done (Fraction (record { negative = negative; numerator = n; denominator = d })) else
    if eqb class 2 then done (Zero negative) else
    if eqb class 3 then done (Infinity negative) else
    if eqb class 4 then done NotANumber else
    stop 2 0

-- The value with its mark of five numbers. Stop 2 for a sign or a mark that is neither 0 nor 1, too.
unfoldable pub number_from : (sign class n d mark : ℕ) → Outcome Number
number_from sign class n d mark =
    if ltb 1 sign || ltb 1 mark then stop 2 0
    else (value_from (eqb sign 1) class n d then λ v. done (record { value = v; approximate = eqb mark 1 }))

-- The same of the five in a row.
unfoldable pub number_at : List ℕ → Outcome Number
number_at l = number_from (get_or l 0 0) (get_or l 1 0) (get_or l 2 0) (get_or l 3 0) (get_or l 4 0)

-- The canonical word of a number that numbers tell. Stops 1, 2, then 6 as writing has it.
unfoldable pub write_told : Format → Outcome Number → Outcome ℕ
write_told f told = when_known f (told then λ x. write_number f x)

-- Demand 3 of it.
unfoldable pub BestForTold : Format → Outcome Number → ℕ → Type 0
BestForTold f told w = WhenDone told (λ x. BestForValue f x.value w)
