-- Formats: which there are, how wide their words are, and which pairs they hold.
use Rattle.std.specs.Prelude.{ℕ, ◌+◌, ◌-◌, ◌*◌, ◌^◌, Bool, ◌&&◌, ◌||◌, leb, eqb}
use Rattle.std.specs.Prelude.{if◌then◌else◌}
use Rattle.slash.specs.Answers.{Outcome, stop, done, ◌then◌}
use Rattle.slash.specs.Bits.{least_power, bit_count}
use Rattle.slash.specs.declared.format.Format.{Format}

-- ---- which there are

-- Kind 1 is fixed; kind 2 is floating.
abbrev pub is_fixed : Format → Bool
is_fixed f = eqb f.kind 1

abbrev pub is_floating : Format → Bool
is_floating f = eqb f.kind 2

-- k runs from 2 to 31 in fixed formats, and from 2 to 32 in floating ones.
unfoldable pub k_fits : Format → Bool
k_fits f = leb 2 f.k && leb f.k (if is_fixed f then 31 else 32)

-- 01's known formats.
unfoldable pub known : Format → Bool
known f = (is_fixed f || is_floating f) && k_fits f

-- ---- stop 1

-- The check of a format: stop 1 for an unknown kind or k.
unfoldable pub check_format : Format → Outcome (Unit {0})
check_format f = if known f then done tt else stop 1 0

-- It comes before anything else.
abbrev pub when_known : {A : Type 0} → Format → Outcome A → Outcome A
when_known f next = check_format f then λ _. next

-- What is answered of a known format.
unfoldable pub of_known : {A : Type 0} → Format → A → Outcome A
of_known f x = when_known f (done x)

abbrev pub format_of : (kind k : ℕ) → Format
format_of kind k = record { kind = kind; k = k }

-- Making a format: stop 1, or the format.
unfoldable pub make_format : ℕ → ℕ → Outcome Format
make_format kind k = of_known (format_of kind k) (format_of kind k)

-- ---- widths, and what is held

-- L: the least whole number with 2^L ≥ k.
unfoldable pub slash_bits : ℕ → ℕ
slash_bits k = least_power k

-- A fixed word has 2k + 2 bits, a floating one k + L + 1.
unfoldable pub width_of : Format → ℕ
width_of f = if is_fixed f then 2 * f.k + 2 else f.k + slash_bits f.k + 1

-- 01's *holds*: a format holds the pair r/s, s at least 1, if, fixed, both are at most 2^k - 1, or, floating, their bit counts sum to at most k.
-- (It also holds 1/0: `held`.)
unfoldable pub holds : Format → ℕ → ℕ → Bool
holds f r s =
    if is_fixed f then leb r (2 ^ f.k - 1) && leb s (2 ^ f.k - 1)
    else leb (bit_count r + bit_count s) f.k

-- The largest part of a held pair: its numerator (1/0 aside) and its denominator have one largest value.
unfoldable pub largest_part : Format → ℕ
largest_part f = if is_fixed f then 2 ^ f.k - 1 else 2 ^ (f.k - 1) - 1
