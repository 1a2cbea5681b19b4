-- The vector form: its stops in their order, and that the operation stops as its words' check does. Assumes nothing.
use mathlib.Core.Path.{◌≡◌, refl, sym, ◌∙◌, subst⁻¹}
use mathlib.Core.Bool.{true, false}
use mathlib.Core.List.{List, map}
use Prim.Native.Nat.{ℕ}
use lib.ListN.{length}
use borrow.Author.Tests.{eq-eqb, ne_eqb}
use Rattle.std.specs.Prelude.{Ok, Err}
use Rattle.slash.specs.Answers.{Outcome, stop, done, WhenDone}
use Rattle.slash.specs.Steps.{or_zero}
use Rattle.slash.specs.declared.answer.Stop.{Stop}
use Rattle.slash.specs.Formats.{known, check_format}
use Rattle.slash.specs.Reading.{check_word}
use Rattle.slash.specs.declared.format.Format.{Format}
use Rattle.vectors.specs.Each.{each, vector_after, stop_only, EachPlace}
use Rattle.vectors.specs.Places.{same_length}
use Rattle.vectors.specs.Checks.{checked_words}
use Rattle.slash.proofs.AnswerLaws.{then_stop}
use Rattle.slash.proofs.FormatLaws.{format_good}
use Rattle.vectors.proofs.EachLaws.{each_stopped, each_done}
use Rattle.vectors.proofs.CheckLaws.{words_all}
use Rattle.unary.specs.Operations.{is_unary, unary_word}
use Rattle.unary.specs.Each.{unary_each, BestUnary}
use Rattle.unary.proofs.OperationLaws.{unary_stop_only, unary_best}

-- what is said of a vector form's answer that hands a stop on
pub handed_on : (o : Outcome (List ℕ)) (P : Unit {0} → Type 0) {r : Outcome (Unit {0})} {s : Stop} {old : List ℕ} → r ≡ Err s
    → (Err s ≡ stop_only o) × ((old ≡ vector_after o old) × Unit {0}) → (r ≡ stop_only o) × ((old ≡ vector_after o old) × WhenDone r P)
handed_on o P e t = (e ∙ t.0, (t.1.0, subst⁻¹ (λ (q : Outcome (Unit {0})). WhenDone q P) e tt))

-- ---- unary operations

module _ (f : Format) (code : ℕ) (operand out : List ℕ) where
  pub unary_each_format : {s : Stop} → Err s ≡ check_format f → Err s ≡ unary_each f code operand out
  unfolding unary_each
  unary_each_format e = then_stop _ e

  module _ (h : known f ≡ true) where
    pub unary_each_code : is_unary code ≡ false → stop 2 0 ≡ unary_each f code operand out
    unfolding unary_each
    unary_each_code i = rw (format_good f h, i) refl

    module _ (i : is_unary code ≡ true) where
      pub unary_each_length : (length operand ≡ length out → ⊥) → stop 3 0 ≡ unary_each f code operand out
      unfolding unary_each same_length
      unary_each_length n = rw (format_good f h, i, ne_eqb _ _ n) refl

      pub unary_each_all : length operand ≡ length out → each (unary_word f code) 0 operand ≡ unary_each f code operand out
      unfolding unary_each same_length
      unary_each_all e = rw (format_good f h, i, eq-eqb _ _ e) refl

module _ (f : Format) (code : ℕ) (operand out : List ℕ) where
  module _ (h : known f ≡ true) (i : is_unary code ≡ true) (e : length operand ≡ length out) (res : Outcome (Unit {0})) (re : res ≡ checked_words f operand) where
    pub unary_each_stopped : (s : Stop) → res ≡ Err s
        → (Err s ≡ stop_only (unary_each f code operand out)) × ((out ≡ vector_after (unary_each f code operand out) out) × Unit {0})
    unfolding BestUnary
    unary_each_stopped = each_stopped (unary_word f code) (check_word f) (λ w. unary_stop_only f code w h i) (BestUnary f code) (unary_best f code) operand out (unary_each f code operand out) (unary_each_all f code operand out h i e) res (re ∙ sym (words_all f operand h))

    pub unary_each_done : res ≡ Ok tt → (new : List ℕ) → new ≡ map (λ x. or_zero (unary_word f code x)) operand
        → (done tt ≡ stop_only (unary_each f code operand out)) × ((new ≡ vector_after (unary_each f code operand out) out) × EachPlace (BestUnary f code) operand new)
    unfolding BestUnary
    unary_each_done = each_done (unary_word f code) (check_word f) (λ w. unary_stop_only f code w h i) (BestUnary f code) (unary_best f code) operand out (unary_each f code operand out) (unary_each_all f code operand out h i e) res (re ∙ sym (words_all f operand h))
