-- Writing a number, one law for each way through the code. Assumes nothing.
-- `word_best`: demand 3, of every word that a value is written as. `write_refused`, `write_over_zero`, `write_done`: the answers of `write`.
-- `ratio_word_lem`: the answer of `round_word`.
use mathlib.Core.Path.{◌≡◌, refl, sym, ap, ◌∙◌, subst}
use mathlib.Core.Bool.{Bool, true, false, ◌||◌, or-false}
use Prim.Native.Nat.{ℕ, ◌≤◌, ◌∣◌}
use native.Mathlib.Omega.{arith}
use native.Mathlib.Nat.{dvd_refl, dvd-zero, eq-one_of_dvd-one}
use lib.Dec.{eqb}
use borrow.Author.Tests.{eqb-false, eq-eqb, ne_eqb}
use Rattle.convergents.specs.Pairs.{Pair, pair, Lowest, differs}
use Rattle.convergents.specs.Rounding.{round, held}
use Rattle.convergents.specs.Best.{Best}
use Rattle.convergents.proofs.Optimal.{zero_held}
use Rattle.convergents.proofs.BestLaws.{round_best, round_lowest, round_held}
use Rattle.std.specs.Prelude.{Err}
use Rattle.slash.specs.declared.answer.Stop.{Stop}
use Rattle.slash.specs.Answers.{stop, done}
use Rattle.slash.specs.Formats.{known, check_format, holds}
use Rattle.slash.specs.Rounding.{rounded}
use Rattle.slash.specs.Steps.{parts_word}
use Rattle.slash.specs.Reading.{number_of}
use Rattle.slash.specs.Writing.{pair_word, nan_word, word_for, is_over_zero, write_number, exact_ratio}
use Rattle.slash.specs.Numbers.{parts_of, pair_of}
use Rattle.slash.specs.Best.{BestForRatio, BestForValue}
use Rattle.slash.specs.declared.format.Format.{Format}
use Rattle.slash.specs.declared.number.Parts.{Parts}
use Rattle.slash.specs.declared.number.Value.{Value}
use Rattle.slash.specs.declared.number.Value.TheVariants.{Fraction, Zero, Infinity, NotANumber}
use Rattle.slash.specs.declared.number.Number.{Number}
use Rattle.slash.specs.declared.rounding.Rounded.{Rounded}
use Rattle.slash.proofs.AnswerLaws.{then_stop}
use Rattle.slash.proofs.FormatLaws.{format_good, format_limit}
use Rattle.slash.proofs.RoundTrip.{Proper, zero_proper, pair_value, pair_says}

-- what is in lowest terms stands for a value
pub lowest_proper : (n d : ℕ) → Lowest n d → Proper n d
lowest_proper n d low =
    record {
      zero_is = λ e. low d (subst (λ (m : ℕ). d ∣ m) (sym e) (dvd-zero d)) (dvd_refl d);
      infinity_is = λ e. low n (dvd_refl n) (subst (λ (m : ℕ). n ∣ m) (sym e) (dvd-zero n));
    }

module _ (f : Format) (h : known f ≡ true) where
  zero_rounded : round (holds f) 0 1 ≡ pair 0 1
  zero_rounded = round_held (holds f) (format_limit f h) 0 1 (omega arith) (zero_held (holds f) (format_limit f h)) (λ g i j. eq-one_of_dvd-one j)

  zero_best : Best (holds f) 0 1 (pair 0 1)
  zero_best = subst (λ (x : Pair). Best (holds f) 0 1 x) zero_rounded (round_best (holds f) (format_limit f h) 0 1 (omega arith))

  -- the pair of the word of a pair
  module _ (s a : Bool) (n d w : ℕ) (l : held (holds f) (pair n d) ≡ true) (p : Proper n d) (e : w ≡ pair_word f s a (pair n d)) where
    pair_back : pair_of (number_of f w).value ≡ pair n d
    pair_back =
        ap (λ (v : ℕ). pair_of (number_of f v).value) e
        ∙ ap (λ (x : Number). pair_of x.value) (pair_says f s a n d h l p).number
        ∙ pair_value s n d p

    best_back : (N D : ℕ) → Best (holds f) N D (pair n d) → BestForRatio f N D w
    unfolding BestForRatio
    best_back N D b = subst (λ (x : Pair). Best (holds f) N D x) (sym pair_back) b

  -- Demand 3, of every word that a value is written as.
  pub word_best : (a : Bool) (v : Value) → is_over_zero v ≡ false → BestForValue f v (word_for f a v)
  unfolding BestForValue word_for is_over_zero
  word_best a (Fraction p) z =
      let N : ℕ = p.numerator in
      let D : ℕ = p.denominator in
      let n : D ≡ 0 → ⊥ = eqb-false _ _ z in
      let b = round_best (holds f) (format_limit f h) N D (omega arith) in
      best_back p.negative _ _ _ _ b.is_held (lowest_proper _ _ (round_lowest (holds f) (format_limit f h) N D)) refl N D b
  word_best a (Zero s) z =
      best_back s a 0 1 _ (zero_held (holds f) (format_limit f h)) zero_proper refl 0 1 zero_best
  word_best a (Infinity s) z = tt
  word_best a NotANumber z = tt

-- ---- the word of some parts

module _ (f : Format) (s a : Bool) (n d w : ℕ) where
  pub parts_nan : d ≡ 0 → n ≡ 0 → w ≡ nan_word f → w ≡ parts_word f s a n d
  unfolding parts_word
  parts_nan z y e = rw (eq-eqb _ _ z, eq-eqb _ _ y) e

  pub parts_infinity : d ≡ 0 → (n ≡ 0 → ⊥) → w ≡ pair_word f s a (pair 1 0) → w ≡ parts_word f s a n d
  unfolding parts_word
  parts_infinity z y e = rw (eq-eqb _ _ z, ne_eqb _ _ y) e

  pub parts_some : (d ≡ 0 → ⊥) → parts_word f s a n d ≡ word_for f a (Fraction (record { negative = s; numerator = n; denominator = d }))
  unfolding parts_word
  parts_some z = rw (ne_eqb _ _ z) refl

  pub parts_rounded : (d ≡ 0 → ⊥) → (r : Rounded) → r ≡ rounded f n d → (m : Bool) → m ≡ (a || r.approximate)
      → w ≡ pair_word f s m (pair r.numerator r.denominator) → w ≡ parts_word f s a n d
  unfolding word_for
  parts_rounded z r re m me we = rw (we, me, re) (sym (parts_some z))

-- every value is written by its parts
pub parts_value : (f : Format) (a : Bool) (v : Value) → known f ≡ true → is_over_zero v ≡ false
    → parts_word f (parts_of v).negative a (parts_of v).numerator (parts_of v).denominator ≡ word_for f a v
unfolding parts_word is_over_zero word_for differs
parts_value f a (Fraction p) h z = parts_some f p.negative a p.numerator p.denominator 0 (eqb-false _ _ z)
parts_value f a (Zero s) h z = rw (zero_rounded f h) (ap (λ (m : Bool). pair_word f s m (pair 0 1)) (or-false a))
parts_value f a (Infinity s) h z = refl
parts_value f a NotANumber h z = refl

-- ---- fractions over 0

pub over_fraction : (v : Value) (p : Parts) → v ≡ Fraction p → eqb p.denominator 0 ≡ is_over_zero v
unfolding is_over_zero
over_fraction v p e = rw e refl

pub over_other : (v : Value) → ((p : Parts) → v ≡ Fraction p → ⊥) → false ≡ is_over_zero v
unfolding is_over_zero
over_other (Fraction p) n = absurd (n p refl)
over_other (Zero s) n = refl
over_other (Infinity s) n = refl
over_other NotANumber n = refl

pub over_some : (v : Value) (p : Parts) → v ≡ Fraction p → is_over_zero v ≡ false → 1 ≤ p.denominator
over_some v p e h =
    let n : p.denominator ≡ 0 → ⊥ = eqb-false _ _ (over_fraction v p e ∙ h) in
    omega arith

-- ---- the answers of `write`

module _ (f : Format) (x : Number) where
  pub write_refused : {s : Stop} → Err s ≡ check_format f → Err s ≡ write_number f x
  unfolding write_number
  write_refused e = then_stop _ e

  pub write_over_zero : known f ≡ true → is_over_zero x.value ≡ true → stop 6 0 ≡ write_number f x
  unfolding write_number
  write_over_zero h z = rw (format_good f h, z) refl

  pub write_done : known f ≡ true → is_over_zero x.value ≡ false → done (word_for f x.approximate x.value) ≡ write_number f x
  unfolding write_number
  write_done h z = rw (format_good f h, z) refl

  -- and its word, demand 3 with it
  pub write_word : known f ≡ true → is_over_zero x.value ≡ false → (w : ℕ) → w ≡ word_for f x.approximate x.value
      → (done w ≡ write_number f x) × BestForValue f x.value w
  write_word h z w e = (
    ap done e ∙ write_done h z,
    subst (λ (v : ℕ). BestForValue f x.value v) (sym e) (word_best f h x.approximate x.value z),
  )

-- the answers of `round_word`
module _ (f : Format) (N D : ℕ) where
  pub ratio_over_zero : known f ≡ true → D ≡ 0 → stop 6 0 ≡ write_number f (exact_ratio N D)
  unfolding is_over_zero
  ratio_over_zero h e = write_over_zero f (exact_ratio N D) h (eq-eqb _ _ e)

  pub ratio_word_lem : known f ≡ true → (D ≡ 0 → ⊥) → (w : ℕ) → w ≡ parts_word f false false N D
      → (done w ≡ write_number f (exact_ratio N D)) × BestForRatio f N D w
  unfolding is_over_zero BestForValue
  ratio_word_lem h n w e = write_word f (exact_ratio N D) h (ne_eqb _ _ n) w (e ∙ parts_some f false false N D 0 n)
