-- Reading a word: the layouts of 01, and the checks that come first. A word is a number of 64 bits; bit 0 is lowest. The free bits of a zero, an
-- infinity or a not-a-number, 01's *messages*, are in no value: they are ignored, and never written.
use Rattle.std.specs.Prelude.{ℕ, ◌+◌, ◌-◌, ◌*◌, ◌^◌, ◌/◌, ◌%◌, Bool, ◌&&◌, false, not, leb, eqb}
use Rattle.std.specs.Prelude.{if◌then◌else◌}
use Rattle.slash.specs.Answers.{Outcome, stop, done, ◌then◌}
use Rattle.slash.specs.Formats.{is_fixed, k_fits, when_known, slash_bits, width_of}
use Rattle.slash.specs.Bits.{bits, bit}
use Rattle.slash.specs.declared.format.Format.{Format}
use Rattle.slash.specs.declared.number.Number.{Number}
use Rattle.slash.specs.declared.reading.GoodWord.{GoodWord}
use Rattle.slash.specs.declared.number.Value.{Value}
use Rattle.slash.specs.declared.number.Value.TheVariants.{Fraction, Zero, Infinity, NotANumber}
use Rattle.slash.specs.declared.fields.FixedFields.{FixedFields}
use Rattle.slash.specs.declared.fields.FloatingFields.{FloatingFields}
use Rattle.slash.specs.declared.fields.Fields.{Fields}
use Rattle.slash.specs.declared.fields.Fields.TheVariants.{Fixed, Floating}

-- ---- fixed

-- Fixed. Both parts not 0: a fraction. Numerator 0 and denominator odd: zero. Denominator 0 and numerator odd: infinity. Otherwise
-- not-a-number.
unfoldable pub fixed_value : Bool → ℕ → ℕ → Value
fixed_value s n d =
    if eqb n 0 then (if eqb (d % 2) 1 then Zero s else NotANumber) else
    if eqb d 0 then (if eqb (n % 2) 1 then Infinity s else NotANumber) else
    Fraction (record { negative = s; numerator = n; denominator = d })

-- Sign s at bit 2k+1; numerator at bits 2k to k+1; mark at bit k; denominator at bits k-1 to 0.
abbrev pub fixed_fields : ℕ → ℕ → FixedFields
fixed_fields k w =
    record { negative = bit (2 * k + 1) w; numerator = bits (k + 1) k w; approximate = bit k w; denominator = bits 0 k w }

unfoldable pub fixed_number : ℕ → ℕ → Number
fixed_number k w =
    let x : FixedFields = fixed_fields k w in
    record { value = fixed_value x.negative x.numerator x.denominator; approximate = x.approximate }

-- ---- floating

-- Floating. The slash position e: L bits from bit k-1 on. An e between k-1 and 2^L - 2 is undefined.
unfoldable pub slash_position : ℕ → ℕ → ℕ
slash_position k w = bits (k - 1) (slash_bits k) w

unfoldable pub slash_undefined : ℕ → ℕ → Bool
slash_undefined k w = leb (k - 1) (slash_position k w) && leb (slash_position k w) (2 ^ slash_bits k - 2)

-- For e ≤ k-2 the numerator is f divided by 2^e, fraction dropped, and the denominator is (f mod 2^e) + 2^e; numerator 0 is zero.
unfoldable pub floating_fraction : Bool → ℕ → ℕ → Value
floating_fraction s e f =
    if eqb (f / 2 ^ e) 0 then Zero s else
    Fraction (record { negative = s; numerator = f / 2 ^ e; denominator = f % 2 ^ e + 2 ^ e })

-- For e = 2^L - 1, f even is infinity and f odd is not-a-number.
unfoldable pub floating_special : Bool → ℕ → Value
floating_special s f = if eqb (f % 2) 0 then Infinity s else NotANumber

-- Sign s at bit k+L; mark at bit k+L-1; slash position e in the next L bits; field f in bits k-2 to 0.
abbrev pub floating_fields : ℕ → ℕ → FloatingFields
floating_fields k w =
    record {
      negative = bit (k + slash_bits k) w;
      approximate = bit (k + slash_bits k - 1) w;
      position = slash_position k w;
      field = bits 0 (k - 1) w;
    }

unfoldable pub floating_number : ℕ → ℕ → Number
floating_number k w =
    let x : FloatingFields = floating_fields k w in
    record {
      value = if leb x.position (k - 2) then floating_fraction x.negative x.position x.field else floating_special x.negative x.field;
      approximate = x.approximate;
    }

-- ---- of either kind

-- What a word says, where no check stops it.
unfoldable pub number_of : Format → ℕ → Number
number_of f w = if is_fixed f then fixed_number f.k w else floating_number f.k w

-- Its fields.
unfoldable pub fields_of : Format → ℕ → Fields
fields_of f w = if is_fixed f then Fixed (fixed_fields f.k w) else Floating (floating_fields f.k w)

-- ---- the checks, and reading

-- A word with bits above its width.
unfoldable pub is_above : (width w : ℕ) → Bool
is_above width w = leb (2 ^ width) w

-- The checks of a word: stop 1 for the format, then 4 for bits above the width, then 5 for an undefined slash position.
unfoldable pub check_word : Format → ℕ → Outcome (Unit {0})
check_word f w =
    when_known f (
    if is_above (width_of f) w then stop 4 0 else
    if not (is_fixed f) && slash_undefined f.k w then stop 5 0 else
    done tt)

-- The answer for a good word: the word with its format.
abbrev pub good_word : Format → ℕ → GoodWord
good_word f w = record { format = f; word = w }

abbrev pub checked_word : Format → ℕ → Outcome GoodWord
checked_word f w = check_word f w then λ _. done (good_word f w)

unfoldable pub read_word : Format → ℕ → Outcome Number
read_word f w = check_word f w then λ _. done (number_of f w)

-- What a `GoodWord` says, and its fields: what the word of this format does. For a k out of bounds, which the check lets through never, the
-- answers are not-a-number and fields of 0.
unfoldable pub number_in : Format → ℕ → Number
number_in f w = if k_fits f then number_of f w else record { value = NotANumber; approximate = false }

unfoldable pub fields_in : Format → ℕ → Fields
fields_in f w = if k_fits f then fields_of f w else Fixed (record { negative = false; numerator = 0; approximate = false; denominator = 0 })
