-- A word's value as numbers in a row. Assumes nothing.
-- `number_again`: the numbers of a value with its mark tell just that. `normalised_again`: so, what is read of a word is written as the word
-- normalised. `write_told_lem`: a value that is told, written. `good_status`, `refused_status`: what a call returns of a word that is checked.
use mathlib.Core.Path.{◌≡◌, refl, sym, ap, ◌∙◌}
use mathlib.Core.Bool.{Bool, true, false}
use Prim.Native.Nat.{ℕ, ◌+◌, ◌*◌, ◌%◌, ◌^◌}
use Rattle.std.specs.Prelude.{Ok, Err}
use Rattle.slash.specs.Answers.{Outcome, done, ◌then◌, WhenDone}
use Rattle.slash.specs.Best.{BestForValue}
use Rattle.slash.specs.Bits.{bit_of}
use Rattle.slash.specs.Formats.{known, check_format}
use Rattle.slash.specs.Reading.{checked_word, check_word, number_of, read_word}
use Rattle.slash.specs.Writing.{word_for, write_number}
use Rattle.slash.proofs.AnswerLaws.{done_inj}
use Rattle.slash.proofs.CanonicalLaws.{read_known, held_over, read_held}
use Rattle.slash.proofs.FormatLaws.{format_good}
use Rattle.slash.proofs.ReadingLaws.{check_good, check_stop, checked_read, read_checked}
use Rattle.slash.proofs.WritingLaws.{write_done}
use Rattle.unary.specs.Operations.{exact_parts, exact_zero, exact_infinity, exact_unary, is_unary, unary_result, check_unary, unary_word}
use Rattle.slash.specs.declared.format.Format.{Format}
use Rattle.slash.specs.declared.number.Number.{Number}
use Rattle.slash.specs.declared.number.Value.{Value}
use Rattle.slash.specs.declared.number.Value.TheVariants.{Fraction, Zero, Infinity, NotANumber}
use Rattle.slash.specs.declared.answer.Stop.{Stop}
use Rattle.slash.specs.declared.reading.GoodWord.{GoodWord}
use Rattle.lekhnaom.specs.Status.{status}
use Rattle.lekhnaom.specs.Values.{class_of, numbers_of, value_from, number_from, number_at, write_told, BestForTold}

-- ---- a value that is written

module _ (f : Format) (told : Outcome Number) where
  pub write_told_lem : done tt ≡ check_format f → (x : Number) → done x ≡ told → (o : Outcome ℕ) → (o ≡ write_number f x) × WhenDone o (BestForValue f x.value)
      → (o ≡ write_told f told) × WhenDone o (BestForTold f told)
  unfolding write_told BestForTold
  write_told_lem k x e o m = (rw (← k, ← e) m.0, rw (← e) m.1)

-- ---- a word that is checked

module _ (f : Format) (w : ℕ) (r : Outcome GoodWord) (e : r ≡ checked_word f w) where
  pub good_status : (g : GoodWord) → r ≡ Ok g → 0 ≡ status (check_word f w)
  unfolding status
  good_status g d = rw (check_good f w e d) refl

  pub refused_status : (s : Stop) → r ≡ Err s → (n : ℕ) → n ≡ s.place % 2 ^ 56 * 256 + s.number % 256 → n ≡ status (check_word f w)
  unfolding status
  refused_status s d n g = rw (← check_stop f w e d) g

-- ---- there and back

fraction_again : (s : Bool) (n d : ℕ) (a : Bool) → number_from (bit_of s) 1 n d (bit_of a) ≡ done (record { value = Fraction (record { negative = s; numerator = n; denominator = d }); approximate = a })
unfolding number_from value_from bit_of
fraction_again true n d true = refl
fraction_again true n d false = refl
fraction_again false n d true = refl
fraction_again false n d false = refl

zero_again : (s a : Bool) → number_from (bit_of s) 2 0 1 (bit_of a) ≡ done (record { value = Zero s; approximate = a })
unfolding number_from value_from bit_of
zero_again true true = refl
zero_again true false = refl
zero_again false true = refl
zero_again false false = refl

infinity_again : (s a : Bool) → number_from (bit_of s) 3 1 0 (bit_of a) ≡ done (record { value = Infinity s; approximate = a })
unfolding number_from value_from bit_of
infinity_again true true = refl
infinity_again true false = refl
infinity_again false true = refl
infinity_again false false = refl

nan_again : (a : Bool) → number_from (bit_of false) 4 0 0 (bit_of a) ≡ done (record { value = NotANumber; approximate = a })
unfolding number_from value_from bit_of
nan_again true = refl
nan_again false = refl

value_again : (v : Value) (a : Bool) → number_at (numbers_of (record { value = v; approximate = a })) ≡ done (record { value = v; approximate = a })
unfolding number_at numbers_of class_of
value_again (Fraction p) a = fraction_again p.negative p.numerator p.denominator a
value_again (Zero s) a = zero_again s a
value_again (Infinity s) a = infinity_again s a
value_again NotANumber a = nan_again a

-- The numbers of a value with its mark tell just that.
pub number_again : (x : Number) → number_at (numbers_of x) ≡ done x
number_again x = value_again x.value x.approximate

-- a number that is told is written
told_written : (f : Format) (x : Number) → write_told f (done x) ≡ write_number f x
unfolding write_told write_number
told_written f x = twice _ (check_format f)
  where
    twice : (o : Outcome ℕ) (c : Outcome (Unit {0})) → (c then λ _. (c then λ _. o)) ≡ (c then λ _. o)
    twice o (Err s) = refl
    twice o (Ok u) = refl

normal_value : (v : Value) → exact_unary 7 v ≡ v
unfolding exact_unary exact_parts exact_zero exact_infinity
normal_value (Fraction p) = refl
normal_value (Zero s) = refl
normal_value (Infinity s) = refl
normal_value NotANumber = refl

-- What is read of a word is written as the word normalised.
module _ (f : Format) (w : ℕ) (x : Number) (r : read_word f w ≡ done x) where
  normal_word : unary_word f 7 w ≡ done (word_for f x.approximate x.value)
  unfolding unary_word check_unary is_unary unary_result
  normal_word =
      let h : known f ≡ true = read_known f w x r in
      let c : check_word f w ≡ done tt = read_checked f w r in
      let n : number_of f w ≡ x = done_inj (sym (checked_read f w c) ∙ r) in
      rw (format_good f h, c, n, normal_value x.value) refl

  pub normalised_again : write_told f (number_at (numbers_of x)) ≡ unary_word f 7 w
  normalised_again =
      let h : known f ≡ true = read_known f w x r in
      ap (write_told f) (number_again x) ∙ told_written f x ∙ sym (write_done f x h (held_over f h x.value (read_held f h w x r))) ∙ sym normal_word
