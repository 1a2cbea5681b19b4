-- For the code and the proofs alone: what private functions come to and may take for granted, and the terms of the laws of reading and
-- writing.
use Rattle.std.specs.Prelude.{ℕ, Ok, Err, ◌*◌, ◌^◌, ◌≤◌, ◌<◌, Bool, true, false, ◌≡◌, ◌⊎◌, eqb}
use Rattle.std.specs.Prelude.{if◌then◌else◌}
use Rattle.convergents.specs.Pairs.{Pair, pair, Lowest}
use Rattle.slash.specs.Answers.{Outcome, done}
use Rattle.slash.specs.Formats.{holds}
use Rattle.slash.specs.Reading.{read_word}
use Rattle.slash.specs.Writing.{pair_word, nan_word, write_number, word_for}
use Rattle.slash.specs.declared.format.Format.{Format}
use Rattle.slash.specs.declared.number.Number.{Number}
use Rattle.slash.specs.declared.number.Parts.{Parts}
use Rattle.slash.specs.declared.number.Value.{Value}
use Rattle.slash.specs.declared.number.Value.TheVariants.{Fraction, Zero, Infinity, NotANumber}

-- ---- the code

-- The word that a call makes; 0 where it stops. (For steps of the code alone: no public call answers so.)
unfoldable pub or_zero : Outcome ℕ → ℕ
or_zero (Err s) = 0
or_zero (Ok w) = w

-- The word of a value by its parts.
unfoldable pub parts_word : Format → (sign mark : Bool) → (n d : ℕ) → ℕ
parts_word f s a n d =
    if eqb d 0 then (if eqb n 0 then nan_word f else pair_word f s a (pair 1 0)) else
    word_for f a (Fraction (record { negative = s; numerator = n; denominator = d }))

-- Parts as words have them: the denominator isn't 0, and neither takes more than 31 bits, so that no product of two leaves 64.
pub record SmallParts (p : Parts) : Type 0 where
  pub some_denominator : 1 ≤ p.denominator
  pub small_numerator : p.numerator < 2 ^ 31
  pub small_denominator : p.denominator < 2 ^ 31

-- ---- the laws of reading and writing

-- The value of a pair in lowest terms: 0/1 is zero, 1/0 infinity.
unfoldable pub value_of : Bool → Pair → Value
value_of s x =
    if eqb x.denominator 0 then Infinity s else
    if eqb x.numerator 0 then Zero s else
    Fraction (record { negative = s; numerator = x.numerator; denominator = x.denominator })

-- The parts of a fraction that the format holds: neither is 0.
pub record HeldParts (f : Format) (p : Parts) : Type 0 where
  pub some_numerator : 1 ≤ p.numerator
  pub some_denominator : 1 ≤ p.denominator
  pub holds_it : holds f p.numerator p.denominator ≡ true

-- A value that the format holds.
unfoldable pub HeldValue : Format → Value → Type 0
HeldValue f (Fraction p) = HeldParts f p
HeldValue f (Zero s) = Unit {0}
HeldValue f (Infinity s) = Unit {0}
HeldValue f NotANumber = Unit {0}

-- A number as results have it: a fraction is in lowest terms, and not-a-number has no mark.
unfoldable pub Reduced : Bool → Value → Type 0
Reduced a (Fraction p) = Lowest p.numerator p.denominator
Reduced a (Zero s) = Unit {0}
Reduced a (Infinity s) = Unit {0}
Reduced a NotANumber = a ≡ false

pub record Canonical (f : Format) (x : Number) : Type 0 where
  pub is_held : HeldValue f x.value
  pub reduced : Reduced x.approximate x.value

-- Two values are the same: of one kind and one sign, and fractions multiply across to the same.
unfoldable pub SameValue : Value → Value → Type 0
SameValue (Fraction p) (Fraction q) = (p.negative ≡ q.negative) × (p.numerator * q.denominator ≡ q.numerator * p.denominator)
SameValue (Zero s) (Zero t) = s ≡ t
SameValue (Infinity s) (Infinity t) = s ≡ t
SameValue NotANumber NotANumber = Unit {0}
SameValue (Fraction p) (Zero t) = ⊥
SameValue (Fraction p) (Infinity t) = ⊥
SameValue (Fraction p) NotANumber = ⊥
SameValue (Zero s) (Fraction q) = ⊥
SameValue (Zero s) (Infinity t) = ⊥
SameValue (Zero s) NotANumber = ⊥
SameValue (Infinity s) (Fraction q) = ⊥
SameValue (Infinity s) (Zero t) = ⊥
SameValue (Infinity s) NotANumber = ⊥
SameValue NotANumber (Fraction q) = ⊥
SameValue NotANumber (Zero t) = ⊥
SameValue NotANumber (Infinity t) = ⊥

-- Two numbers are the same: their values are, and their marks; but not-a-number's mark is no part of it.
unfoldable pub SameNumber : Number → Number → Type 0
SameNumber x y = SameValue x.value y.value × ((x.value ≡ NotANumber) ⊎ (x.approximate ≡ y.approximate))

-- What was read as x is written as a canonical word that is read as the same number.
pub record WrittenBack (f : Format) (x : Number) : Type 0 where
  pub word : ℕ
  pub written : write_number f x ≡ done word
  pub number : Number
  pub read : read_word f word ≡ done number
  pub canonical : Canonical f number
  pub same : SameNumber x number
