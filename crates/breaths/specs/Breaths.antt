-- A breath: durations, what is void at a rate, its ratio.
use Rattle.std.specs.Prelude.{ℕ, ◌+◌, ◌-◌, ◌*◌, ◌%◌, ◌^◌, Bool, ◌||◌, List, [], ◌∷◌, ◌==◌, nat_lt}
use Rattle.std.specs.Prelude.{if◌then◌else◌}
use Rattle.slash.specs.Answers.{Outcome, done, ◌then◌}
use Rattle.breaths.specs.Rates.{make_rate}
use Rattle.breaths.specs.Ratios.{ratio_word, BestRatio}
use Rattle.breaths.specs.declared.breath.Breath.{Breath}
use Rattle.breaths.specs.declared.ratio.Ratio.{Ratio}
use Rattle.breaths.specs.declared.ratio.Ratio.TheVariants.{Void, Word}

-- Tick marks run from 0 to this one.
abbrev pub most_ticks : ℕ
most_ticks = 4294967295

-- The clock is 32 bits wide, so a duration is a difference modulo 2^32.
unfoldable pub span : (from to : ℕ) → ℕ
span from to = (to + (2 ^ 32 - from)) % 2 ^ 32

-- in = peak - onset, whole = next - onset.
unfoldable pub breath_of : (onset peak next : ℕ) → Breath
breath_of onset peak next = record { inspiration = span onset peak; whole = span onset next }

-- *Void*, as 01 and CR 7 say it: a breath is void if whole is 0, or in exceeds whole, or whole is greater than 120 times the rate.
unfoldable pub is_void : (rate : ℕ) → Breath → Bool
is_void rate b = (b.whole == 0 || nat_lt b.whole b.inspiration) || nat_lt (120 * rate) b.whole

-- A breath's ratio: in over whole, rounded; a void breath has none.
unfoldable pub breath_ratio : (rate : ℕ) → Breath → Ratio
breath_ratio rate b = if is_void rate b then Void else Word (ratio_word b.inspiration b.whole)

-- A breath's word, said without its ratio: that of in over whole; a void breath has word 0. (`Breath::ratio` has both, clauses `defined` and
-- `word`.)
unfoldable pub breath_word : (rate : ℕ) → Breath → ℕ
breath_word rate b = if is_void rate b then 0 else ratio_word b.inspiration b.whole

-- The word that a recorder stores for the breath between two onsets. Stop 19: its caller's rate is out of 1 to 4096.
unfoldable pub breath_stored : (rate onset peak next : ℕ) → Outcome ℕ
breath_stored rate onset peak next = make_rate rate then λ known. done (breath_word known.ticks (breath_of onset peak next))

-- Demand 3, of each of some breaths: void, or its word is best for its in and its whole.
unfoldable pub BestBreaths : (rate : ℕ) → List Breath → Type 0
BestBreaths rate [] = Unit {0}
BestBreaths rate (b ∷ bs) = BestRatio b.inspiration b.whole (breath_ratio rate b) × BestBreaths rate bs
