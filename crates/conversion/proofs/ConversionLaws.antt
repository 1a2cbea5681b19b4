-- Conversion. Assumes nothing.
-- `convert_best`: demand 3, of every word and every two formats. `convert_canonical`: every result is a canonical word. `convert_rounded`: demand
-- 2, of every finite value. `convert_value`: what the new word says, of every value. `convert_mark`, `convert_sign`, `convert_nan`: its mark, its
-- sign, and what not-a-number gives. `stop_source`, `stop_target`, `stop_word`: the stops, in their order.
use mathlib.Core.Path.{◌≡◌, refl, sym, ap, ◌∙◌, subst, subst⁻¹}
use mathlib.Core.Bool.{Bool, true, false, ◌||◌}
use Prim.Native.Nat.{ℕ}
use Rattle.std.specs.Prelude.{if◌then◌else◌}
use Rattle.convergents.specs.Rounding.{round}
use Rattle.std.specs.Prelude.{Ok, Err}
use Rattle.slash.specs.Answers.{Outcome, done, ◌then◌, WhenDone}
use Rattle.slash.specs.declared.answer.Stop.{Stop}
use Rattle.slash.specs.Formats.{known, check_format, holds}
use Rattle.slash.specs.Numbers.{is_nan, parts_of, pair_of}
use Rattle.slash.specs.Reading.{number_of, number_in, check_word}
use Rattle.slash.specs.Writing.{nan_word, word_for, is_over_zero, write_number}
use Rattle.slash.specs.Best.{ExactSize, ◌over◌, size_of, BestForValue}
use Rattle.slash.proofs.AnswerLaws.{passed_on, no_stop, then_stop, then_done, checked_stop, checked_made, when_checked}
use Rattle.slash.proofs.FormatLaws.{format_good, good_known, check_known}
use Rattle.slash.proofs.ReadingLaws.{check_stop, check_good, check_value, check_mark, checked_known, checked_number, checked_read}
use Rattle.slash.proofs.WritingLaws.{write_done, word_best}
use Rattle.slash.specs.Canonical.{CanonicalWord}
use Rattle.slash.proofs.CanonicalLaws.{held_over, read_held, written_canonical}
use Rattle.slash.proofs.WordLaws.{written_value, RoundedTo, changed, word_value, word_rounded, word_mark, word_sign}
use Rattle.slash.specs.declared.format.Format.{Format}
use Rattle.slash.specs.declared.number.Value.{Value}
use Rattle.slash.specs.declared.number.Value.TheVariants.{NotANumber}
use Rattle.slash.specs.declared.number.Number.{Number}
use Rattle.vectors.specs.Each.{stop_only}
use Rattle.vectors.proofs.EachLaws.{stop_checked}
use Rattle.conversion.specs.Conversion.{converted, check_convert, convert_word}

-- a call's stops first, and then its word
module _ (f g : Format) (w : ℕ) where
  abbrev X : Number
  X = number_of f w

  pub convert_checked : (check_convert f g w then λ _. done (converted f g w)) ≡ convert_word f g w
  unfolding convert_word
  convert_checked = refl

  convert_good : done tt ≡ check_convert f g w → (check_word f w ≡ done tt) × (known g ≡ true)
  unfolding check_convert
  convert_good e = go (check_format f) (check_format g) refl e
    where
      go : (k l : Outcome (Unit {0})) → check_format g ≡ l → done tt ≡ (k then λ _. l then λ _. check_word f w) → (check_word f w ≡ done tt) × (known g ≡ true)
      go (Err s) l i h = absurd (no_stop (sym h))
      go (Ok u) (Err s) i h = absurd (no_stop (sym h))
      go (Ok u) (Ok v) i h = (sym h, good_known g (sym i))

  check_operand : known f ≡ true → known g ≡ true → check_word f w ≡ check_convert f g w
  unfolding check_convert
  check_operand h i = rw (format_good f h, format_good g i) refl

  abbrev pub BestHere : ℕ → Type 0
  BestHere v = BestForValue g X.value v

  -- ---- the stops of `convert`

  pub stop_source : {s : Stop} → Err s ≡ check_format f → Err s ≡ convert_word f g w
  unfolding check_convert
  stop_source e = checked_stop _ _ convert_checked (then_stop _ e)

  module _ (h : known f ≡ true) where
    pub stop_target : {s : Stop} → Err s ≡ check_format g → Err s ≡ convert_word f g w
    unfolding check_convert
    stop_target e = checked_stop _ _ convert_checked (then_done _ (sym (format_good f h)) (then_stop _ e))

    module _ (i : known g ≡ true) where
      pub stop_word : {s : Stop} → Err s ≡ check_word f w → Err s ≡ convert_word f g w
      stop_word e = checked_stop _ _ convert_checked (e ∙ check_operand h i)

      -- a vector form stops as the check of its words does
      pub convert_stop_only : stop_only (convert_word f g w) ≡ check_word f w
      convert_stop_only = stop_checked _ _ _ convert_checked ∙ sym (check_operand h i)

  -- ---- its word

  module _ (good : (check_word f w ≡ done tt) × (known g ≡ true)) where
    some_denominator : is_over_zero X.value ≡ false
    some_denominator = let h = checked_known f w good.0 in held_over f h X.value (read_held f h w X (checked_read f w good.0))

    made_best : BestHere (converted f g w)
    unfolding converted
    made_best = word_best g good.1 X.approximate X.value some_denominator

    made_written : done (converted f g w) ≡ write_number g X
    unfolding converted
    made_written = write_done g X good.1 some_denominator

    -- what is written of a good word, whose value is v and whose mark is a, is what `convert` makes
    pub convert_written : (v : Value) (a : Bool) → v ≡ (number_in f w).value → a ≡ (number_in f w).approximate
        → (o : Outcome ℕ) → o ≡ write_number g (record { value = v; approximate = a }) → o ≡ convert_word f g w
    convert_written v a ve ae o oe =
        let n : number_in f w ≡ X = checked_number f w good.0 in
        let same : write_number g (record { value = v; approximate = a }) ≡ write_number g X = rw (ve, ae, n) refl in
        let c : done tt ≡ check_convert f g w = sym good.0 ∙ check_operand (checked_known f w good.0) good.1 in
        oe ∙ same ∙ sym made_written ∙ checked_made _ _ convert_checked c refl

  -- what holds of the word that a good word is converted to holds of what `convert` makes
  when_converted : (P : ℕ → Type 0) → ((check_word f w ≡ done tt) × (known g ≡ true) → P (converted f g w)) → WhenDone (convert_word f g w) P
  when_converted P good = when_checked (check_convert f g w) (converted f g w) convert_checked P (λ e. good (convert_good e))

  -- Demand 3, of every word that a conversion makes.
  pub convert_best : WhenDone (convert_word f g w) BestHere
  convert_best = when_converted BestHere made_best

  -- an answer that is so has both
  pub convert_made : (o : Outcome ℕ) → o ≡ convert_word f g w → (o ≡ convert_word f g w) × WhenDone o BestHere
  convert_made o e = (e, subst⁻¹ (λ (p : Outcome ℕ). WhenDone p BestHere) e convert_best)

  -- Every word that it makes is canonical.
  pub convert_canonical : (v : ℕ) → convert_word f g w ≡ done v → CanonicalWord g v
  convert_canonical v e =
      subst (λ (o : Outcome ℕ). WhenDone o (λ u. CanonicalWord g u)) e
      (when_converted (λ u. CanonicalWord g u) (λ c. written_canonical g X _ (sym (made_written c))))

  -- what holds of that word holds of the word v that `convert` makes
  of_converted : (P : ℕ → Type 0) → ((check_word f w ≡ done tt) × (known g ≡ true) → P (converted f g w)) → (v : ℕ) → convert_word f g w ≡ done v → P v
  of_converted P good v e = subst (λ (o : Outcome ℕ). WhenDone o P) e (when_converted P good)

  -- Every conversion is the exact result, N over D, cut to its last continued-fraction convergent that the format holds.
  pub convert_rounded : (v N D : ℕ) → convert_word f g w ≡ done v → size_of X.value ≡ (N over D) → pair_of (number_of g v).value ≡ round (holds g) N D
  unfolding converted
  convert_rounded v N D e s =
      subst (λ (z : ExactSize). RoundedTo g z v) s
      (of_converted (RoundedTo g (size_of X.value)) (λ c. word_rounded g c.1 X.approximate X.value (some_denominator c)) v e)

  -- Finite values are rounded, the sign is kept; zero, infinity and not-a-number are kept as such.
  pub convert_value : (v : ℕ) → convert_word f g w ≡ done v → (number_of g v).value ≡ written_value g X.value
  unfolding converted
  convert_value =
      of_converted (λ v. (number_of g v).value ≡ written_value g X.value) (λ c. word_value g c.1 X.approximate X.value (some_denominator c))

  -- The sign is kept.
  pub convert_sign : (v : ℕ) → convert_word f g w ≡ done v → (parts_of (number_of g v).value).negative ≡ (parts_of X.value).negative
  unfolding converted
  convert_sign =
      of_converted (λ v. (parts_of (number_of g v).value).negative ≡ (parts_of X.value).negative)
      (λ c. word_sign g c.1 X.approximate X.value (some_denominator c))

  -- The mark by the binary rule: 1 if the word's was or rounding changed the value, and 0 on not-a-number.
  pub convert_mark : (v : ℕ) → convert_word f g w ≡ done v
      → (number_of g v).approximate ≡ (if is_nan X.value then false else X.approximate || changed g (size_of X.value) v)
  unfolding converted
  convert_mark =
      of_converted (λ v. (number_of g v).approximate ≡ (if is_nan X.value then false else X.approximate || changed g (size_of X.value) v))
      (λ c. word_mark g c.1 X.approximate X.value (some_denominator c))

  -- Not-a-number is kept as such, in its one word.
  pub convert_nan : known g ≡ true → check_word f w ≡ done tt → X.value ≡ NotANumber → convert_word f g w ≡ done (nan_word g)
  unfolding converted word_for
  convert_nan i c n =
      sym (checked_made _ _ convert_checked (sym c ∙ check_operand (checked_known f w c) i) (sym (ap (word_for g X.approximate) n)))

-- what `converted` and `convert` are proved by
pub ruleset steps = (passed_on, check_known, check_stop, check_good, check_value, check_mark, stop_source, stop_target, stop_word, convert_written, convert_made)
