-- For the code and the proofs alone: the way that the code goes, its test of a vector's words, and terms of the laws.
use Rattle.std.specs.Prelude.{ℕ, zero, suc, ◌+◌, ◌-◌, ◌*◌, ◌/◌, ◌%◌, ◌^◌, ◌≤◌, ◌<◌, false, List, ◌≡◌, eqb, length, get_or}
use Rattle.std.specs.Prelude.{if◌then◌else◌}
use Rattle.slash.specs.Formats.{slash_bits}
use Rattle.slash.specs.Reading.{slash_undefined}
use Rattle.slash.specs.declared.number.Value.{Value}
use Rattle.slash.specs.declared.number.Value.TheVariants.{Fraction, Zero, Infinity, NotANumber}
use Rattle.twisting.specs.Twisting.{turned, twisted_field, untwisted_field}
use Rattle.twisting.specs.declared.layout.Way.{Way}

-- ---- the way

unfoldable pub way_of : Way → ℕ → ℕ → ℕ → ℕ
way_of Way.Twist = twisted_field
way_of Way.Untwist = untwisted_field

-- Where a field is taken apart: at the slash position p, but at 0 where that is the last.
unfoldable pub parting_at : (last p : ℕ) → ℕ
parting_at last p = if eqb p last then 0 else p

-- ---- a vector's words

-- A word with no bit above its width and a defined slash position.
pub record Good (k w : ℕ) : Type 0 where
  pub in_width : w / 2 ^ (k - 1) ≤ 4 * (2 ^ slash_bits k - 1) + 3
  pub is_defined : slash_undefined k w ≡ false

-- Each word of a list.
abbrev pub AllGood : ℕ → List ℕ → Type 0
AllGood k words = (i : ℕ) → i < length words → Good k (get_or words i 0)

-- The slash position behind that of a word, 0 behind the last, raised by what k lies below 2^L; `above` is the word without its field.
unfoldable pub raised_next : (k above : ℕ) → ℕ
raised_next k above = (above % 2 ^ slash_bits k + 1) % 2 ^ slash_bits k + (2 ^ slash_bits k - k)

-- Of the first i words neither what stands above the field nor the raised next position is larger than what was joined of them.
abbrev pub Joined : (k : ℕ) → List ℕ → (above next i : ℕ) → Type 0
Joined k words above next i = (i ≤ length words) × ((j : ℕ) → j < i → (get_or words j 0 / 2 ^ (k - 1) ≤ above) × (raised_next k (get_or words j 0 / 2 ^ (k - 1)) ≤ next))

-- ---- the laws

-- The two runs, of n bits, of each of `pairs` pairs change places.
unfoldable pub swapped : (n pairs x : ℕ) → ℕ
swapped n zero x = 0
swapped n (suc pairs) x = swapped n pairs (x / 2 ^ (n + n)) * 2 ^ (n + n) + (x % 2 ^ n * 2 ^ n + x / 2 ^ n % 2 ^ n)

-- Each of `count` runs of n bits turned where it is.
unfoldable pub runs_turned : (n count x : ℕ) → ℕ
runs_turned n zero x = 0
runs_turned n (suc count) x = runs_turned n count (x / 2 ^ n) * 2 ^ n + turned n x

-- Infinity, or not-a-number.
unfoldable pub Special : Value → Type 0
Special (Fraction p) = ⊥
Special (Zero s) = ⊥
Special (Infinity s) = Unit {0}
Special NotANumber = Unit {0}
