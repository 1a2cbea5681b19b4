-- A binary32 number by its 32 bits: the sign is bit 31, the exponent stands at bits 30 to 23, and 23 binary digits below it. (That the numbers,
-- their order and their ratio are IEEE 754's is proved: `value_is`, `order_is`, `timings_are`, `ratio_is`, `content_exact`.)
use Rattle.std.specs.Prelude.{ℕ, ◌+◌, ◌-◌, ◌*◌, ◌/◌, ◌%◌, ◌^◌, Bool, ◌&&◌, leb, ltb}
use Rattle.convergents.specs.Pairs.{Pair, pair}

-- Of a number without the sign, and of normal size: the number is its significand times 2^(its exponent - 127 - 23). The significand is a
-- leading 1, which no bit has, and the 23 digits.
unfoldable pub significand : ℕ → ℕ
significand bits = 2 ^ 23 + bits % 2 ^ 23

unfoldable pub exponent : ℕ → ℕ
exponent bits = bits / 2 ^ 23

-- The bits of 2^-10, of 1 and of 2^10: the digits below the leading 1 are all 0.
abbrev pub least : ℕ
least = 117 * 2 ^ 23

abbrev pub one : ℕ
one = 127 * 2 ^ 23

abbrev pub beyond : ℕ
beyond = 137 * 2 ^ 23

-- Numbers of kind 1 run from 2^-10 to below 2^10. Numbers without the sign are in the order of their bits; the bits of whatever has the sign,
-- and of an infinity or a NaN, are larger than all of theirs.
unfoldable pub is_timing : ℕ → Bool
is_timing x = leb least x && ltb x beyond

-- Two such numbers, the first no larger than the second.
unfoldable pub are_timings : (first second : ℕ) → Bool
are_timings first second = is_timing first && (is_timing second && leb first second)

-- The ratio of kind 2 runs from 2^-10 to 1.
unfoldable pub is_ratio : ℕ → Bool
is_ratio x = leb least x && leb x one

-- The exact ratio of two such numbers, the first no larger than the second: N is the first's significand, D the second's, times 2 to the power
-- by which its exponent is the larger.
unfoldable pub float_ratio : (first second : ℕ) → Pair
float_ratio first second = pair (significand first) (significand second * 2 ^ (exponent second - exponent first))
