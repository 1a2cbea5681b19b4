-- Negate and absolute value, which touch only the sign of a word.
use Rattle.std.specs.Prelude.{ℕ, ◌+◌, ◌-◌, ◌*◌, ◌%◌, ◌^◌, Bool, not, ◌&&◌, eqb}
use Rattle.slash.specs.Bits.{bit, bit_of}
use Rattle.slash.specs.Formats.{width_of}
use Rattle.slash.specs.declared.format.Format.{Format}

-- The sign s is the highest bit of a word.
unfoldable pub sign_bit : Format → ℕ
sign_bit f = width_of f - 1

-- A word with its highest bit set or not, and every other bit as it was.
unfoldable pub with_highest : (highest : ℕ) → Bool → ℕ → ℕ
with_highest highest s w = bit_of s * 2 ^ highest + w % 2 ^ highest

-- Code 1 turns the sign; code 2 takes it off.
unfoldable pub new_sign : (code : ℕ) → Bool → Bool
new_sign code s = eqb code 1 && not s

unfoldable pub sign_touched : Format → (code w : ℕ) → ℕ
sign_touched f code w = with_highest (sign_bit f) (new_sign code (bit (sign_bit f) w)) w
