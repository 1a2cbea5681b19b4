-- Twisted storage: 004's rearranged floating word, whose numerator stands at the right.
use Rattle.std.specs.Prelude.{ℕ, zero, suc, ◌+◌, ◌-◌, ◌*◌, ◌/◌, ◌%◌, ◌^◌, leb}
use Rattle.std.specs.Prelude.{if◌then◌else◌}
use Rattle.slash.specs.Answers.{Outcome, stop, done, ◌then◌}
use Rattle.slash.specs.Bits.{bits}
use Rattle.slash.specs.Formats.{is_fixed, check_format}
use Rattle.slash.specs.Reading.{slash_position, check_word}
use Rattle.slash.specs.declared.format.Format.{Format}

-- ---- the field, for e ≤ k - 2

-- The lowest `count` bits of d, the lowest leftmost.
unfoldable pub turned : (count d : ℕ) → ℕ
turned zero d = 0
turned (suc count) d = d % 2 * 2 ^ count + turned count (d / 2)

-- The leftmost e bits of the field hold the denominator without its leading bit, lowest bit leftmost, and the rest holds the numerator. (In
-- the plain field f the numerator is f divided by 2^e, and f mod 2^e is the denominator without its leading bit.)
unfoldable pub twisted_field : (k e f : ℕ) → ℕ
twisted_field k e f = turned e (f % 2 ^ e) * 2 ^ (k - 1 - e) + f / 2 ^ e

-- The way back, from a twisted field t.
unfoldable pub untwisted_field : (k e t : ℕ) → ℕ
untwisted_field k e t = t % 2 ^ (k - 1 - e) * 2 ^ e + turned e (t / 2 ^ (k - 1 - e))

-- ---- the word

-- s, a and e, the bits above the field, stay.
unfoldable pub with_field : (k w f : ℕ) → ℕ
with_field k w f = w / 2 ^ (k - 1) * 2 ^ (k - 1) + f

-- A word with the field that one of the two ways makes of its field for e ≤ k - 2. Infinity and not-a-number stay unaltered.
unfoldable pub rearranged : (way : ℕ → ℕ → ℕ → ℕ) → (k w : ℕ) → ℕ
rearranged way k w =
    if leb (slash_position k w) (k - 2) then with_field k w (way k (slash_position k w) (bits 0 (k - 1) w)) else
    w

-- ---- the checks, and both ways

-- A fixed format stops with 1, as an unknown one does.
unfoldable pub check_floating : Format → Outcome (Unit {0})
check_floating f = if is_fixed f then stop 1 0 else check_format f

-- Then the word is checked; slash positions stay, so that a twisted word is checked as a plain one is.
unfoldable pub rearrange : (way : ℕ → ℕ → ℕ → ℕ) → Format → ℕ → Outcome ℕ
rearrange way f w =
    check_floating f then λ _.
    check_word f w then λ _.
    done (rearranged way f.k w)

unfoldable pub twist_word : Format → ℕ → Outcome ℕ
twist_word f w = rearrange twisted_field f w

unfoldable pub untwist_word : Format → ℕ → Outcome ℕ
untwist_word f w = rearrange untwisted_field f w
