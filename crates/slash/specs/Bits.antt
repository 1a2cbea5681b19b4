-- The bits of a number.
use Rattle.std.specs.Prelude.{ℕ, zero, suc, ◌+◌, ◌*◌, ◌/◌, ◌%◌, ◌^◌, Bool, true, false, leb, eqb}
use Rattle.std.specs.Prelude.{if◌then◌else◌}

-- The least whole number from L on whose power of two is at least m, after at most `steps` steps.
unfoldable pub least_from : (steps : ℕ) → ℕ → ℕ → ℕ
least_from zero L m = L
least_from (suc steps) L m = elim (leb m (2 ^ L)) [ true ↦ L | false ↦ least_from steps (suc L) m ]

-- The least whole number L with 2^L ≥ m. (2^m is, so m steps are enough.)
unfoldable pub least_power : ℕ → ℕ
least_power m = least_from m 0 m

-- How many bits n takes: the least whole number b with 2^b > n; but 0 counts one bit.
unfoldable pub bit_count : ℕ → ℕ
bit_count n = if eqb n 0 then 1 else least_power (n + 1)

-- `count` bits of w, from bit `from` on; bit 0 is the lowest.
unfoldable pub bits : (from count w : ℕ) → ℕ
bits from count w = w / 2 ^ from % 2 ^ count

-- Whether a bit of w is set.
unfoldable pub bit : (from w : ℕ) → Bool
bit from w = eqb (bits from 1 w) 1

-- 1 for a sign or a mark that is set.
unfoldable pub bit_of : Bool → ℕ
bit_of true = 1
bit_of false = 0

-- A word from its fields, the highest first: the sign s, then x in i bits, y in j bits, z in k bits.
unfoldable pub word_of_fields : (s x i y j z k : ℕ) → ℕ
word_of_fields s x i y j z k = ((s * 2 ^ i + x) * 2 ^ j + y) * 2 ^ k + z
