-- The check of vectors' words, one law for each way through the code: stop 1, stop 3, then the words'. Assumes nothing.
use mathlib.Core.Path.{◌≡◌, refl}
use mathlib.Core.Bool.{true}
use mathlib.Core.List.{List}
use Prim.Native.Nat.{ℕ}
use lib.ListN.{length}
use borrow.Author.Tests.{eq-eqb, ne_eqb}
use Rattle.std.specs.Prelude.{Err}
use Rattle.slash.specs.declared.answer.Stop.{Stop}
use Rattle.slash.specs.Answers.{stop}
use Rattle.slash.specs.Formats.{known, check_format}
use Rattle.slash.specs.Reading.{check_word}
use Rattle.slash.specs.declared.format.Format.{Format}
use Rattle.slash.proofs.AnswerLaws.{then_stop}
use Rattle.slash.proofs.FormatLaws.{format_good}
use Rattle.vectors.specs.Places.{places, same_length}
use Rattle.vectors.specs.Checks.{checks, check_operands, checked_words, checked_pairs}

module _ (f : Format) (operand : List ℕ) where
  pub words_format : {s : Stop} → Err s ≡ check_format f → Err s ≡ checked_words f operand
  unfolding checked_words
  words_format e = then_stop _ e

  pub words_all : known f ≡ true → checks (check_word f) 0 operand ≡ checked_words f operand
  unfolding checked_words
  words_all h = rw (format_good f h) refl

module _ (f : Format) (left right : List ℕ) where
  pub pairs_format : {s : Stop} → Err s ≡ check_format f → Err s ≡ checked_pairs f left right
  unfolding checked_pairs
  pairs_format e = then_stop _ e

  pub pairs_length : known f ≡ true → (length left ≡ length right → ⊥) → stop 3 0 ≡ checked_pairs f left right
  unfolding checked_pairs same_length
  pairs_length h n = rw (format_good f h, ne_eqb _ _ n) refl

  pub pairs_all : known f ≡ true → length left ≡ length right → checks (check_operands f) 0 (places left right) ≡ checked_pairs f left right
  unfolding checked_pairs same_length
  pairs_all h e = rw (format_good f h, eq-eqb _ _ e) refl
