-- Comparison: below, equal, above, or unordered with not-a-number.
use Rattle.std.specs.Prelude.{ℕ, ◌*◌, Bool, not, ◌&&◌, ◌||◌, ltb, eqb}
use Rattle.std.specs.Prelude.{if◌then◌else◌}
use Rattle.slash.specs.Answers.{Outcome, done, ◌then◌}
use Rattle.slash.specs.Reading.{read_word}
use Rattle.slash.specs.Numbers.{is_nan}
use Rattle.slash.specs.declared.format.Format.{Format}
use Rattle.slash.specs.declared.number.Value.{Value}
use Rattle.arithmetic.specs.Operands.{operand_of, differ}
use Rattle.arithmetic.specs.declared.comparison.Order.{Order}
use Rattle.arithmetic.specs.declared.comparison.Order.TheVariants.{Below, Equal, Above, Unordered}
use Rattle.arithmetic.specs.declared.operand.Operand.{Operand}
use Rattle.arithmetic.specs.declared.operand.Operand.TheVariants.{Finite, Infinite}

-- The number of each order: 0 below, 1 equal, 2 above, 3 unordered.
unfoldable pub order_number : Order → ℕ
order_number Below = 0
order_number Equal = 1
order_number Above = 2
order_number Unordered = 3

-- The outcome that an answer stands for: a stop, or the order's number.
abbrev pub comparison_outcome : Outcome Order → Outcome ℕ
comparison_outcome r = r then λ o. done (order_number o)

-- How two whole numbers stand.
unfoldable pub order_of : ℕ → ℕ → Order
order_of m n = if ltb m n then Below else if eqb m n then Equal else Above

-- How two sizes with signs stand: +0 = -0, and otherwise what is negative lies below what isn't.
unfoldable pub signed_order : (s t : Bool) → ℕ → ℕ → Order
signed_order s t m n =
    if eqb m 0 && eqb n 0 then Equal else
    if s then (if t then order_of n m else Below) else
    if t then Above else
    order_of m n

-- Where an infinity of this sign lies.
unfoldable pub outside : Bool → Order
outside s = if s then Below else Above

-- a/b against c/d: ad against cb. Infinities equal themselves and lie outside all finite values.
unfoldable pub compare_of : Operand → Operand → Order
compare_of (Finite p) (Finite q) =
    signed_order p.negative q.negative (p.numerator * q.denominator) (q.numerator * p.denominator)
compare_of (Finite p) (Infinite t) = outside (not t)
compare_of (Infinite s) (Finite q) = outside s
compare_of (Infinite s) (Infinite t) = if differ s t then outside s else Equal

unfoldable pub compare_values : Value → Value → Order
compare_values v w = if is_nan v || is_nan w then Unordered else compare_of (operand_of v) (operand_of w)

-- Stops 1, 4 and 5 as reading has them, the left word's before the right's.
unfoldable pub compare_words : Format → (left right : ℕ) → Outcome ℕ
compare_words f left right =
    read_word f left then λ x.
    read_word f right then λ y.
    done (order_number (compare_values x.value y.value))
