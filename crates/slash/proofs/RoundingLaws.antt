-- Rounding into a format. Assumes nothing.
-- `rounds_is`: what the loop comes to is the rounding, and the best pair. `held_exact`: what is held is rounded to its own value, without a mark.
-- `ratio_refused`, `ratio_zero`, `ratio_done`: the answers of `round`.
use mathlib.Core.Path.{◌≡◌, refl, sym, ap, ◌∙◌}
use mathlib.Core.Bool.{Bool, true, false}
use Prim.Native.Nat.{ℕ, ◌≤◌}
use native.Mathlib.Omega.{arith}
use borrow.Author.Tests.{eq-eqb, ne_eqb}
use Rattle.convergents.specs.Pairs.{Pair, pair, miss, differs}
use Rattle.convergents.specs.Rounding.{round}
use Rattle.convergents.specs.Best.{Best}
use Rattle.convergents.proofs.Optimal.{held_is}
use Rattle.convergents.proofs.BestLaws.{round_exact}
use Rattle.convergents.proofs.RoundingLaws.{Rounds, differs_not}
use Rattle.std.specs.Prelude.{Err}
use Rattle.slash.specs.declared.answer.Stop.{Stop}
use Rattle.slash.specs.Answers.{stop, done}
use Rattle.slash.specs.Formats.{known, check_format, holds}
use Rattle.slash.specs.Rounding.{rounded, round_ratio}
use Rattle.slash.specs.declared.format.Format.{Format}
use Rattle.slash.specs.declared.rounding.Rounded.{Rounded}
use Rattle.slash.proofs.AnswerLaws.{then_stop}
use Rattle.slash.proofs.FormatLaws.{format_good, format_limit}

module _ (f : Format) (N D p q : ℕ) (a : Bool) (w : Rounds (holds f) N D (pair p q) a) where
  parts : (x : Pair) → pair p q ≡ x → a ≡ differs N D x
      → ◌≡◌ {A = Rounded} (record { numerator = p; denominator = q; approximate = a })
      (record { numerator = x.numerator; denominator = x.denominator; approximate = differs N D x })
  parts x e m i = record { numerator = (e i).numerator; denominator = (e i).denominator; approximate = m i }

  -- what the loop comes to
  pub rounds_is : (record { numerator = p; denominator = q; approximate = a } ≡ rounded f N D) × Best (holds f) N D (pair p q)
  rounds_is = (parts (round (holds f) N D) w.is (w.mark ∙ ap (differs N D) w.is), w.best)

-- a held pair is rounded to its own value, so that rounding doesn't mark it
module _ (f : Format) (h : known f ≡ true) (n d : ℕ) (l : 1 ≤ d) (e : holds f n d ≡ true) where
  pub held_miss : miss n d (round (holds f) n d) ≡ 0
  held_miss = round_exact (holds f) (format_limit f h) n d l (pair n d) (held_is (holds f) n d l ∙ e) (omega arith)

  pub held_exact : (rounded f n d).approximate ≡ false
  held_exact = sym (differs_not n d (round (holds f) n d) held_miss)

-- the answers of `round`
module _ (f : Format) (N D : ℕ) where
  pub ratio_refused : {s : Stop} → Err s ≡ check_format f → Err s ≡ round_ratio f N D
  unfolding round_ratio
  ratio_refused e = then_stop _ e

  pub ratio_zero : known f ≡ true → D ≡ 0 → stop 6 0 ≡ round_ratio f N D
  unfolding round_ratio
  ratio_zero h e = rw (format_good f h, eq-eqb _ _ e) refl

  pub ratio_done : known f ≡ true → (D ≡ 0 → ⊥) → (x : Rounded) → x ≡ rounded f N D → done x ≡ round_ratio f N D
  unfolding round_ratio
  ratio_done h n x e = rw (format_good f h, ne_eqb _ _ n, e) refl
