-- Writing a number: the canonical word.
use Rattle.std.specs.Prelude.{ℕ, ◌+◌, ◌-◌, ◌*◌, ◌^◌, Bool, false, ◌||◌, eqb}
use Rattle.std.specs.Prelude.{if◌then◌else◌}
use Rattle.convergents.specs.Pairs.{Pair, pair}
use Rattle.slash.specs.Answers.{Outcome, stop, done}
use Rattle.slash.specs.Bits.{bit_count, bit_of, word_of_fields}
use Rattle.slash.specs.Formats.{is_fixed, when_known, slash_bits}
use Rattle.slash.specs.Rounding.{rounded}
use Rattle.slash.specs.declared.format.Format.{Format}
use Rattle.slash.specs.declared.number.Number.{Number}
use Rattle.slash.specs.declared.rounding.Rounded.{Rounded}
use Rattle.slash.specs.declared.number.Value.{Value}
use Rattle.slash.specs.declared.number.Value.TheVariants.{Fraction, Zero, Infinity, NotANumber}

-- ---- fixed and floating

-- Fixed: sign, numerator, mark, denominator.
unfoldable pub fixed_word : (k s n a d : ℕ) → ℕ
fixed_word k s n a d = word_of_fields s n k a 1 d k

-- Floating: sign, mark, slash position, field.
unfoldable pub floating_word : (k s a e f : ℕ) → ℕ
floating_word k s a e f = word_of_fields s a 1 e (slash_bits k) f (k - 1)

-- The floating word of n/d: the slash stands before all bits of d but its leading one, which no bit of the word has. Of 1/0: e = 2^L - 1 and f = 0.
unfoldable pub floating_pair : (k s a n d : ℕ) → ℕ
floating_pair k s a n d =
    let e : ℕ = bit_count d - 1 in
    if eqb d 0 then floating_word k s a (2 ^ slash_bits k - 1) 0
    else floating_word k s a e (n * 2 ^ e + (d - 2 ^ e))

unfoldable pub floating_nan : ℕ → ℕ
floating_nan k = floating_word k 0 0 (2 ^ slash_bits k - 1) 1

-- ---- of either kind

-- The canonical word of a pair in lowest terms that the format holds: zero is 0/1, infinity 1/0.
unfoldable pub pair_word : Format → (sign mark : Bool) → Pair → ℕ
pair_word f s a x =
    if is_fixed f then fixed_word f.k (bit_of s) x.numerator (bit_of a) x.denominator
    else floating_pair f.k (bit_of s) (bit_of a) x.numerator x.denominator

-- Not-a-number is one word: fixed 0; floating e = 2^L - 1, f = 1, s = a = 0.
unfoldable pub nan_word : Format → ℕ
nan_word f = if is_fixed f then 0 else floating_nan f.k

-- The canonical word of a value and a mark: a fraction N/D is rounded into the format, its sign kept, also where it is rounded to 0/1 or 1/0,
-- and is marked if it was or rounding marks it; not-a-number has no mark.
unfoldable pub word_for : Format → Bool → Value → ℕ
word_for f a (Fraction p) =
    let x : Rounded = rounded f p.numerator p.denominator in
    pair_word f p.negative (a || x.approximate) (pair x.numerator x.denominator)
word_for f a (Zero s) = pair_word f s a (pair 0 1)
word_for f a (Infinity s) = pair_word f s a (pair 1 0)
word_for f a NotANumber = nan_word f

-- ---- the stops, and writing

-- A fraction with denominator 0.
unfoldable pub is_over_zero : Value → Bool
is_over_zero (Fraction p) = eqb p.denominator 0
is_over_zero (Zero s) = false
is_over_zero (Infinity s) = false
is_over_zero NotANumber = false

-- Stop 1, then 6 as rounding has it.
unfoldable pub write_number : Format → Number → Outcome ℕ
write_number f x =
    when_known f (
    if is_over_zero x.value then stop 6 0 else
    done (word_for f x.approximate x.value))

-- N/D as a number to be written: not negative, exact.
abbrev pub exact_ratio : (N D : ℕ) → Number
exact_ratio N D = record { value = Fraction (record { negative = false; numerator = N; denominator = D }); approximate = false }
