-- A night: the sums of its breaths, void ones left out, and its ratio.
use Rattle.std.specs.Prelude.{ℕ, Option, Some, None, ◌+◌, ◌^◌, Bool, true, false, ◌&&◌, List, [], ◌∷◌, ◌==◌, nat_lt}
use Rattle.std.specs.Prelude.{if◌then◌else◌}
use Rattle.slash.specs.Answers.{Outcome, done, unnumbered}
use Rattle.breaths.specs.Ratios.{ratio_word}
use Rattle.breaths.specs.Breaths.{is_void}
use Rattle.breaths.specs.declared.breath.Breath.{Breath}
use Rattle.breaths.specs.declared.sums.Sums.{Sums}
use Rattle.breaths.specs.declared.ratio.Ratio.{Ratio}
use Rattle.breaths.specs.declared.ratio.Ratio.TheVariants.{Void, Word}

-- A night has at most so many breaths: the next one stops its recording.
abbrev pub most_breaths : ℕ
most_breaths = 65536

-- The breaths that aren't void at a rate.
unfoldable pub not_void : (rate : ℕ) → List Breath → List Breath
not_void rate [] = []
not_void rate (b ∷ bs) = elim (is_void rate b) [ true ↦ not_void rate bs | false ↦ b ∷ not_void rate bs ]

-- A sum over some breaths.
unfoldable pub total : (Breath → ℕ) → List Breath → ℕ
total f [] = 0
total f (b ∷ bs) = f b + total f bs

-- The sums of a night's breaths: of in, and of whole, void breaths left out.
unfoldable pub sums_of : (rate : ℕ) → List Breath → Sums
sums_of rate bs = record { inspiration = total (λ b. b.inspiration) (not_void rate bs); whole = total (λ b. b.whole) (not_void rate bs) }

-- ---- breath by breath

-- The same breath by breath: the sums of none, and those with one breath more (proved to be the same: `add_breath`).
abbrev pub no_sums : Sums
no_sums = record { inspiration = 0; whole = 0 }

unfoldable pub with_breath : (rate : ℕ) → Sums → Breath → Sums
with_breath rate s b =
    if is_void rate b then s
    else record { inspiration = s.inspiration + b.inspiration; whole = s.whole + b.whole }

-- Two sums in one.
unfoldable pub add_sums : Sums → Sums → Sums
add_sums s t = record { inspiration = s.inspiration + t.inspiration; whole = s.whole + t.whole }

-- Sums that 64 bits have room for.
unfoldable pub fits : Sums → Bool
fits s = nat_lt s.inspiration (2 ^ 64) && nat_lt s.whole (2 ^ 64)

-- The outcome that each answer of adding a breath stands for.
abbrev pub added_outcome : Option Sums → Outcome Sums
added_outcome (Some s) = done s
added_outcome None = unnumbered

-- What adding a breath comes to: the sums with it, where 64 bits have room for them. (Those of every night have: `night_fits`.)
unfoldable pub one_more : (rate : ℕ) → Sums → Breath → Outcome Sums
one_more rate s b = if fits (with_breath rate s b) then done (with_breath rate s b) else unnumbered

-- ---- the ratio

-- No breath is left: each that is has a whole of at least 1.
unfoldable pub none_left : Sums → Bool
none_left s = s.whole == 0

-- The night's ratio: the sum of in over the sum of whole; it is void if none is left.
unfoldable pub night_ratio : Sums → Ratio
night_ratio s = if none_left s then Void else Word (ratio_word s.inspiration s.whole)

-- The night's word, said without its ratio: that of the sum of in over the sum of whole; a void night has word 0.
unfoldable pub night_word : Sums → ℕ
night_word s = if none_left s then 0 else ratio_word s.inspiration s.whole
