-- For the code and the proofs alone: what holds of the ratios of breaths and nights.
use Rattle.std.specs.Prelude.{ℕ, ◌^◌, ◌<◌, ◌≤◌}
use Rattle.breaths.specs.Ratios.{fraction_of}
use Rattle.breaths.specs.declared.sums.Sums.{Sums}
use Rattle.breaths.specs.declared.ratio.Ratio.{Ratio}
use Rattle.breaths.specs.declared.ratio.Ratio.TheVariants.{Void, Word}

-- A word of a ratio from 0 to 1, as every ratio of a breath or of a night is: its sign (bit 31) is 0, and nothing stands above it.
pub record Proportion (w : ℕ) : Type 0 where
  pub unsigned : w < 2 ^ 31
  pub some : 1 ≤ (fraction_of w).denominator
  pub proper : (fraction_of w).numerator ≤ (fraction_of w).denominator

abbrev pub PrintableRatio : Ratio → Type 0
PrintableRatio Void = Unit {0}
PrintableRatio (Word w) = Proportion w

-- Sums of breaths that aren't void: in doesn't exceed whole.
abbrev pub Proper : Sums → Type 0
Proper s = s.inspiration ≤ s.whole
