-- The vector form: its stops in their order, and that the operation stops as its words' check does (`binary_agrees`). Assumes nothing.
use mathlib.Core.Path.{◌≡◌, refl, sym, ap, ◌∙◌}
use mathlib.Core.Logic.{◌⊎◌, inl, inr}
use mathlib.Core.Bool.{true, false, and-false}
use mathlib.Core.List.{List, map}
use Prim.Native.Nat.{ℕ}
use lib.ListN.{length}
use borrow.Author.Tests.{eq-eqb, ne_eqb}
use Rattle.std.specs.Prelude.{Ok, Err}
use Rattle.std.specs.Result.{result_unwrap_or}
use Rattle.slash.specs.Steps.{or_zero}
use Rattle.slash.specs.Answers.{Outcome, stop, done}
use Rattle.slash.specs.declared.answer.Stop.{Stop}
use Rattle.slash.specs.Formats.{known, check_format}
use Rattle.slash.specs.declared.format.Format.{Format}
use Rattle.vectors.specs.Each.{each, vector_after, stop_only, EachPlace}
use Rattle.vectors.specs.Places.{Operands, places, same_length}
use Rattle.vectors.specs.Checks.{check_operands, checked_pairs}
use Rattle.slash.proofs.AnswerLaws.{no_stop, passed_on, plain_stop, then_stop}
use Rattle.slash.proofs.FormatLaws.{format_good, check_known}
use Rattle.vectors.proofs.EachLaws.{stop_back, done_back, unwrapped, each_stopped, each_done}
use Rattle.vectors.proofs.CheckLaws.{pairs_all}
use Rattle.arithmetic.specs.Operations.{is_binary, binary_word}
use Rattle.arithmetic.specs.Each.{binary_each, BestBinary}
use Rattle.arithmetic.specs.Steps.{binary_in}
use Rattle.arithmetic.proofs.OperationLaws.{no_operation, code_known, code_is, binary_stop_only, binary_best}

module _ (f : Format) (code : ℕ) (left right out : List ℕ) where
  pub binary_each_format : {s : Stop} → Err s ≡ check_format f → Err s ≡ binary_each f code left right out
  unfolding binary_each
  binary_each_format e = then_stop _ e

  module _ (h : known f ≡ true) where
    pub binary_each_code : is_binary code ≡ false → stop 2 0 ≡ binary_each f code left right out
    unfolding binary_each
    binary_each_code i = rw (format_good f h, i) refl

    module _ (i : is_binary code ≡ true) where
      pub binary_each_length : (length left ≡ length right → ⊥) ⊎ (length left ≡ length out → ⊥) → stop 3 0 ≡ binary_each f code left right out
      unfolding binary_each same_length
      binary_each_length (inl n) = rw (format_good f h, i, ne_eqb _ _ n) refl
      binary_each_length (inr n) = rw (format_good f h, i, ne_eqb _ _ n, and-false) refl

      pub binary_each_all : length left ≡ length right → length left ≡ length out
          → each (λ x. binary_word f code x.left x.right) 0 (places left right) ≡ binary_each f code left right out
      unfolding binary_each same_length
      binary_each_all e g = rw (format_good f h, i, eq-eqb _ _ e, eq-eqb _ _ g) refl

pub binary_agrees : (f : Format) (code : ℕ) → known f ≡ true → is_binary code ≡ true → (x : Operands) → stop_only (binary_word f code x.left x.right) ≡ check_operands f x
unfolding check_operands
binary_agrees f code h i x = binary_stop_only f code x.left x.right h i

module _ (f : Format) (code : ℕ) (left right out : List ℕ) where
  module _ (h : known f ≡ true) (i : is_binary code ≡ true) (e : length left ≡ length right) (g : length left ≡ length out) (res : Outcome (Unit {0})) (re : res ≡ checked_pairs f left right) where
    pub binary_each_stopped : (s : Stop) → res ≡ Err s → Err s ≡ binary_each f code left right out
    unfolding BestBinary
    binary_each_stopped s se =
        stop_back _ (each_stopped (λ x. binary_word f code x.left x.right) (check_operands f) (binary_agrees f code h i) (BestBinary f code) (λ x. binary_best f code x.left x.right) (places left right) out (binary_each f code left right out) (binary_each_all f code left right out h i e g) res (re ∙ sym (pairs_all f left right h e)) s se).0

    module _ (ok : res ≡ Ok tt) (new : List ℕ) (ne : new ≡ map (binary_in f code) (places left right)) where
      made : (done tt ≡ stop_only (binary_each f code left right out)) × ((new ≡ vector_after (binary_each f code left right out) out) × EachPlace (BestBinary f code) (places left right) new)
      unfolding BestBinary binary_in
      made = each_done (λ x. binary_word f code x.left x.right) (check_operands f) (binary_agrees f code h i) (BestBinary f code) (λ x. binary_best f code x.left x.right) (places left right) out (binary_each f code left right out) (binary_each_all f code left right out h i e g) res (re ∙ sym (pairs_all f left right h e)) ok new ne

      pub binary_each_done : done new ≡ binary_each f code left right out
      binary_each_done = done_back _ out new made.0 made.1.0

      pub binary_each_best : EachPlace (BestBinary f code) (places left right) new
      binary_each_best = made.1.1

-- what is stored at a place
pub stored_at : (f : Format) (code : ℕ) (x : Operands) (o : Outcome ℕ) → o ≡ binary_word f code x.left x.right → (w : ℕ) → w ≡ result_unwrap_or o 0 → w ≡ binary_in f code x
unfolding binary_in
stored_at f code x o e w h = unwrapped o e h

-- what `binary_each` is proved by
pub ruleset steps = (passed_on, plain_stop, check_known, no_operation, code_known, code_is, binary_each_format, binary_each_code, binary_each_length, binary_each_stopped, binary_each_done, binary_each_best)
