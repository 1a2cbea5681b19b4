-- What a value is written as, read back, for every format and every value that isn't over 0. Assumes nothing.
-- `word_value`: a fraction is rounded, its sign kept; zero, infinity and not-a-number are kept as such. `word_rounded`: demand 2, the word's pair
-- is the value's last convergent that the format holds. `word_mark`: the mark is 1 if it was or rounding changed the value, and 0 on
-- not-a-number. `word_exact`: so it stays as it was where rounding doesn't mark. `word_sign`: the sign is kept through underflow and overflow.
use mathlib.Core.Path.{◌≡◌, refl, sym, ap, ◌∙◌}
use mathlib.Core.Bool.{Bool, true, false, ◌||◌, or-false}
use Prim.Native.Nat.{ℕ}
use native.Mathlib.Omega.{arith}
use lib.Dec.{eqb}
use Rattle.std.specs.Prelude.{if◌then◌else◌}
use Rattle.convergents.specs.Pairs.{Pair, differs}
use Rattle.convergents.specs.Rounding.{round}
use Rattle.convergents.proofs.Optimal.{one_held, zero_held}
use Rattle.convergents.proofs.BestLaws.{round_best, round_lowest, best_is_round}
use Rattle.slash.specs.Formats.{known, holds}
use Rattle.slash.specs.Rounding.{rounded}
use Rattle.slash.specs.Reading.{number_of}
use Rattle.slash.specs.Writing.{word_for, is_over_zero}
use Rattle.slash.specs.Numbers.{is_nan, parts_of, pair_of}
use Rattle.slash.specs.Steps.{value_of}
use Rattle.slash.specs.Best.{ExactSize, ◌over◌, none, size_of, BestForRatio, BestForValue}
use Rattle.slash.specs.declared.format.Format.{Format}
use Rattle.slash.specs.declared.number.Value.{Value}
use Rattle.slash.specs.declared.number.Value.TheVariants.{Fraction, Zero, Infinity, NotANumber}
use Rattle.slash.specs.declared.number.Number.{Number}
use Rattle.slash.proofs.AnswerLaws.{if_case}
use Rattle.slash.proofs.FormatLaws.{format_limit}
use Rattle.slash.proofs.RoundTrip.{zero_proper, infinity_proper, Says, pair_says, nan_says}
use Rattle.slash.proofs.WritingLaws.{lowest_proper, over_some, word_best}

-- Finite values are rounded, the sign is kept; zero, infinity and not-a-number are kept as such.
abbrev pub written_value : Format → Value → Value
written_value f (Fraction p) = value_of p.negative (round (holds f) p.numerator p.denominator)
written_value f (Zero s) = Zero s
written_value f (Infinity s) = Infinity s
written_value f NotANumber = NotANumber

-- The pair of the word w is N/D cut to its last convergent that the format holds; of a result that isn't finite it says nothing.
abbrev pub RoundedTo : Format → ExactSize → ℕ → Type 0
RoundedTo f (N over D) w = pair_of (number_of f w).value ≡ round (holds f) N D
RoundedTo f none w = Unit {0}

-- Rounding changed the value: the pair of the word w isn't N/D. What isn't finite isn't rounded.
abbrev pub changed : Format → ExactSize → ℕ → Bool
changed f (N over D) w = differs N D (pair_of (number_of f w).value)
changed f none w = false

-- Whether rounding marks a value that is written.
abbrev pub marks : Format → Value → Bool
marks f (Fraction p) = (rounded f p.numerator p.denominator).approximate
marks f (Zero s) = false
marks f (Infinity s) = false
marks f NotANumber = false

value_sign : (s : Bool) (x : Pair) → (parts_of (value_of s x)).negative ≡ s
unfolding value_of
value_sign s x =
    if_case (λ v. (parts_of v).negative ≡ s) (eqb x.denominator 0) _ _ (λ e. refl)
    (λ e. if_case (λ v. (parts_of v).negative ≡ s) (eqb x.numerator 0) _ _ (λ g. refl) (λ g. refl))

module _ (f : Format) (h : known f ≡ true) where
  -- the mark of what is written, and the whole number with it
  abbrev mark_in : Bool → Value → Bool
  mark_in a v = if is_nan v then false else a || marks f v

  word_says_lem : (a : Bool) (v : Value) → is_over_zero v ≡ false → Says f (word_for f a v) (record { value = written_value f v; approximate = mark_in a v })
  unfolding word_for is_over_zero is_nan value_of
  word_says_lem a (Fraction p) z =
      let N : ℕ = p.numerator in
      let D : ℕ = p.denominator in
      let b = round_best (holds f) (format_limit f h) N D (over_some (Fraction p) p refl z) in
      pair_says f p.negative _ _ _ h b.is_held (lowest_proper _ _ (round_lowest (holds f) (format_limit f h) N D))
  word_says_lem a (Zero s) z = rw (or-false a) (pair_says f s a 0 1 h (zero_held (holds f) (format_limit f h)) zero_proper)
  word_says_lem a (Infinity s) z = rw (or-false a) (pair_says f s a 1 0 h (one_held (holds f)) infinity_proper)
  word_says_lem a NotANumber z = nan_says f h

  module _ (a : Bool) (v : Value) (z : is_over_zero v ≡ false) where
    -- Finite values are rounded, the sign is kept; zero, infinity and not-a-number are kept as such.
    pub word_value : (number_of f (word_for f a v)).value ≡ written_value f v
    word_value = ap (λ (x : Number). x.value) (word_says_lem a v z).number

    -- Where rounding doesn't mark, the mark is as it was, and 0 on not-a-number.
    pub word_exact : marks f v ≡ false → (number_of f (word_for f a v)).approximate ≡ (if is_nan v then false else a)
    word_exact e = ap (λ (x : Number). x.approximate) (word_says_lem a v z).number ∙ rw (e, or-false a) refl

  -- The sign is kept through underflow and overflow. (Not-a-number's is 0.)
  pub word_sign : (a : Bool) (v : Value) → is_over_zero v ≡ false → (parts_of (number_of f (word_for f a v)).value).negative ≡ (parts_of v).negative
  word_sign a v z = ap (λ (u : Value). (parts_of u).negative) (word_value a v z) ∙ kept v
    where
      kept : (u : Value) → (parts_of (written_value f u)).negative ≡ (parts_of u).negative
      kept (Fraction p) = value_sign p.negative _
      kept (Zero s) = refl
      kept (Infinity s) = refl
      kept NotANumber = refl

  -- The exact result cut to its last continued-fraction convergent that the format holds.
  pub word_rounded : (a : Bool) (v : Value) → is_over_zero v ≡ false → RoundedTo f (size_of v) (word_for f a v)
  unfolding BestForRatio BestForValue
  word_rounded a (Fraction p) z =
      best_is_round (holds f) (format_limit f h) p.numerator p.denominator (over_some (Fraction p) p refl z) _ (word_best f h a (Fraction p) z)
  word_rounded a (Zero s) z = best_is_round (holds f) (format_limit f h) 0 1 (omega arith) _ (word_best f h a (Zero s) z)
  word_rounded a (Infinity s) z = tt
  word_rounded a NotANumber z = tt

  -- The mark is 1 if it was or rounding changed the value, and 0 on not-a-number.
  pub word_mark : (a : Bool) (v : Value) → is_over_zero v ≡ false
      → (number_of f (word_for f a v)).approximate ≡ (if is_nan v then false else a || changed f (size_of v) (word_for f a v))
  unfolding is_nan pair_of differs
  word_mark a (Fraction p) z =
      ap (λ (x : Number). x.approximate) (word_says_lem a (Fraction p) z).number
      ∙ ap (λ (x : Pair). a || differs p.numerator p.denominator x) (sym (word_rounded a (Fraction p) z))
  word_mark a (Zero s) z =
      ap (λ (x : Number). x.approximate) (word_says_lem a (Zero s) z).number
      ∙ ap (λ (v : Value). a || differs 0 1 (pair_of v)) (sym (word_value a (Zero s) z))
  word_mark a (Infinity s) z = ap (λ (x : Number). x.approximate) (word_says_lem a (Infinity s) z).number
  word_mark a NotANumber z = ap (λ (x : Number). x.approximate) (word_says_lem a NotANumber z).number
