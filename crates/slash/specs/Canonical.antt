-- Canonical words, as results are: lowest terms, zero 0/1, infinity 1/0, not-a-number one word.
use Rattle.std.specs.Prelude.{ℕ, Bool, ◌≡◌}
use Rattle.convergents.specs.Pairs.{pair, Lowest}
use Rattle.slash.specs.Answers.{done}
use Rattle.slash.specs.Reading.{read_word}
use Rattle.slash.specs.Writing.{pair_word, nan_word}
use Rattle.slash.specs.declared.format.Format.{Format}
use Rattle.slash.specs.declared.number.Number.{Number}
use Rattle.slash.specs.declared.number.Value.{Value}
use Rattle.slash.specs.declared.number.Value.TheVariants.{Fraction, Zero, Infinity, NotANumber}

-- The word w is the canonical one of its value and mark: a fraction in lowest terms, zero as 0/1, infinity as 1/0, not-a-number as its one
-- word.
unfoldable pub CanonicalFor : Format → ℕ → Bool → Value → Type 0
CanonicalFor f w a (Fraction p) = Lowest p.numerator p.denominator
CanonicalFor f w a (Zero s) = w ≡ pair_word f s a (pair 0 1)
CanonicalFor f w a (Infinity s) = w ≡ pair_word f s a (pair 1 0)
CanonicalFor f w a NotANumber = w ≡ nan_word f

-- A word is canonical if it is read without a stop, and is the canonical one of what it says.
pub record CanonicalWord (f : Format) (w : ℕ) : Type 0 where
  pub number : Number
  pub read : read_word f w ≡ done number
  pub canonical : CanonicalFor f w number.approximate number.value
