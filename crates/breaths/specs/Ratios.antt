-- A ratio as a slash word, of a breath or of a night.
use Rattle.std.specs.Prelude.{ℕ, false, ◌==◌}
use Rattle.std.specs.Prelude.{if◌then◌else◌}
use Rattle.convergents.specs.Pairs.{Pair}
use Rattle.slash.specs.Reading.{number_of}
use Rattle.slash.specs.Writing.{word_for, exact_ratio}
use Rattle.slash.specs.Numbers.{pair_of}
use Rattle.slash.specs.Best.{BestForRatio}
use Rattle.slash.specs.declared.format.Format.{Format}
use Rattle.breaths.specs.declared.ratio.Ratio.{Ratio}
use Rattle.breaths.specs.declared.ratio.Ratio.TheVariants.{Void, Word}

-- Ratios are rounded to fixed k = 15.
abbrev pub ratio_format : Format
ratio_format = record { kind = 1; k = 15 }

-- The word of N/D rounded.
unfoldable pub ratio_word : (N D : ℕ) → ℕ
ratio_word N D = word_for ratio_format false (exact_ratio N D).value

-- The ratio N/D: its word, and none where D is 0.
unfoldable pub parts_ratio : (N D : ℕ) → Ratio
parts_ratio N D = if D == 0 then Void else Word (ratio_word N D)

-- The word that a ratio is stored as: a void one has word 0.
unfoldable pub word_of : Ratio → ℕ
word_of Void = 0
word_of (Word w) = w

-- The ratio that a stored word stands for: 0 is void.
unfoldable pub ratio_of : ℕ → Ratio
ratio_of w = if w == 0 then Void else Word w

-- A word's fraction: the pair that it is read as.
unfoldable pub fraction_of : ℕ → Pair
fraction_of w = pair_of (number_of ratio_format w).value

-- Demand 3, of a ratio N/D that isn't void: no pair that the format holds does better than the word's.
unfoldable pub BestRatio : (N D : ℕ) → Ratio → Type 0
BestRatio N D Void = Unit {0}
BestRatio N D (Word w) = BestForRatio ratio_format N D w
