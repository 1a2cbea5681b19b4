-- The vector form: its stops in their order, and that conversion stops as its words' check does. Assumes nothing.
use mathlib.Core.Path.{◌≡◌, refl, sym, ap, ◌∙◌}
use mathlib.Core.Bool.{true}
use mathlib.Core.List.{List, map}
use Prim.Native.Nat.{ℕ}
use lib.ListN.{length}
use borrow.Author.Tests.{eq-eqb, ne_eqb}
use Rattle.std.specs.Prelude.{Ok, Err}
use Rattle.std.specs.Result.{result_unwrap_or}
use Rattle.slash.specs.Answers.{Outcome, stop, done}
use Rattle.slash.specs.Steps.{or_zero}
use Rattle.slash.specs.declared.answer.Stop.{Stop}
use Rattle.slash.specs.Formats.{known, check_format}
use Rattle.slash.specs.Reading.{check_word}
use Rattle.slash.specs.declared.format.Format.{Format}
use Rattle.vectors.specs.Each.{each, vector_after, stop_only, EachPlace}
use Rattle.vectors.specs.Places.{same_length}
use Rattle.vectors.specs.Checks.{checked_words}
use Rattle.slash.proofs.AnswerLaws.{no_stop, passed_on, plain_stop, then_stop, then_done}
use Rattle.slash.proofs.FormatLaws.{format_good, check_known}
use Rattle.vectors.proofs.EachLaws.{stop_back, done_back, each_stopped, each_done}
use Rattle.vectors.proofs.CheckLaws.{words_all}
use Rattle.conversion.specs.Conversion.{convert_word}
use Rattle.conversion.specs.Each.{convert_each, BestConverted}
use Rattle.conversion.proofs.ConversionLaws.{convert_stop_only, convert_best}

module _ (f g : Format) (operand out : List ℕ) where
  pub convert_each_source : {s : Stop} → Err s ≡ check_format f → Err s ≡ convert_each f g operand out
  unfolding convert_each
  convert_each_source e = then_stop _ e

  module _ (h : known f ≡ true) where
    pub convert_each_target : {s : Stop} → Err s ≡ check_format g → Err s ≡ convert_each f g operand out
    unfolding convert_each
    convert_each_target e = then_done _ (sym (format_good f h)) (then_stop _ e)

    module _ (i : known g ≡ true) where
      pub convert_each_length : (length operand ≡ length out → ⊥) → stop 3 0 ≡ convert_each f g operand out
      unfolding convert_each same_length
      convert_each_length n = rw (format_good f h, format_good g i, ne_eqb _ _ n) refl

      pub convert_each_all : length operand ≡ length out → each (convert_word f g) 0 operand ≡ convert_each f g operand out
      unfolding convert_each same_length
      convert_each_all e = rw (format_good f h, format_good g i, eq-eqb _ _ e) refl

module _ (f g : Format) (operand out : List ℕ) where
  module _ (h : known f ≡ true) (i : known g ≡ true) (e : length operand ≡ length out) (res : Outcome (Unit {0})) (re : res ≡ checked_words f operand) where
    pub convert_each_stopped : (s : Stop) → res ≡ Err s → Err s ≡ convert_each f g operand out
    unfolding BestConverted
    convert_each_stopped s se =
        stop_back _ (each_stopped (convert_word f g) (check_word f) (λ w. convert_stop_only f g w h i) (BestConverted f g) (convert_best f g) operand out (convert_each f g operand out) (convert_each_all f g operand out h i e) res (re ∙ sym (words_all f operand h)) s se).0

    module _ (ok : res ≡ Ok tt) (new : List ℕ) (ne : new ≡ map (λ x. or_zero (convert_word f g x)) operand) where
      made : (done tt ≡ stop_only (convert_each f g operand out)) × ((new ≡ vector_after (convert_each f g operand out) out) × EachPlace (BestConverted f g) operand new)
      unfolding BestConverted
      made = each_done (convert_word f g) (check_word f) (λ w. convert_stop_only f g w h i) (BestConverted f g) (convert_best f g) operand out (convert_each f g operand out) (convert_each_all f g operand out h i e) res (re ∙ sym (words_all f operand h)) ok new ne

      pub convert_each_done : done new ≡ convert_each f g operand out
      convert_each_done = done_back _ out new made.0 made.1.0

      pub convert_each_best : EachPlace (BestConverted f g) operand new
      convert_each_best = made.1.1

-- what `convert_each` is proved by
pub ruleset steps = (passed_on, plain_stop, check_known, convert_each_source, convert_each_target, convert_each_length, convert_each_stopped, convert_each_done, convert_each_best)
