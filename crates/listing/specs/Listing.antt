-- A night's listing, from the bytes of its recording.
use Rattle.std.specs.Prelude.{ℕ, zero, suc, Some, None, Ok, Err, List, [], ◌∷◌, ◌++◌, ◌≡◌, drop}
use Rattle.slash.specs.Answers.{Outcome, done, ◌then◌}
use Rattle.breaths.specs.Breaths.{breath_ratio, BestBreaths}
use Rattle.breaths.specs.Sums.{no_sums, night_ratio, sums_of}
use Rattle.breaths.specs.Ratios.{BestRatio}
use Rattle.breaths.specs.declared.breath.Breath.{Breath}
use Rattle.breaths.specs.declared.sums.Sums.{Sums}
use Rattle.breaths.specs.declared.ratio.Ratio.{Ratio}
use Rattle.text.specs.Lines.{line_of, numbered, refused_line}
use Rattle.text.specs.declared.line.Name.TheVariants.{Number, All}
use Rattle.recording.specs.Openings.{Start, first_of}
use Rattle.recording.specs.Reading.{next_of, lines_from, rate_in, breaths_in, recording_check}
use Rattle.listing.specs.Nights.{rated, with_line}
use Rattle.listing.specs.declared.night.Night.{Night}
use Rattle.listing.specs.declared.night.Night.TheVariants.{Begun, Rated}
use Rattle.listing.specs.declared.night.RatedNight.{RatedNight}

-- ---- the lines

-- A breath's line at a rate: its number, and its ratio.
unfoldable pub breath_line : (rate : ℕ) → ℕ → Breath → List ℕ
breath_line rate n b = line_of (Number n) (breath_ratio rate b)

-- The last line: `all`, and the night's ratio.
unfoldable pub all_line : Sums → List ℕ
all_line s = line_of All (night_ratio s)

-- ---- the listing, line by line

-- The listing from a night on whose rate is read, of the bytes not yet read, in so many steps: a step is a line. Where a line stops it, it ends with
-- `refused`, and no `all` line.
unfoldable pub listing_from : (steps : ℕ) → RatedNight → List ℕ → List ℕ
listing_from zero night bs = []
listing_from (suc steps) night bs =
    elim (next_of night.breath bs) [
      | Ok (Some entry) ↦ breath_line night.rate.ticks night.breath entry.breath ++ listing_from steps (with_line night entry.breath) (drop entry.used bs)
      | Ok None ↦ all_line night.sums
      | Err s ↦ refused_line s.number s.place
    ]

-- As many steps as there can be lines are enough (proved: `listing_steps`).
unfoldable pub rated_listing : RatedNight → List ℕ → List ℕ
rated_listing night bs = listing_from (lines_from night.breath) night bs

-- The listing by what a recording opens with: its rate line has no line in it.
unfoldable pub opened_listing : Outcome Start → List ℕ → List ℕ
opened_listing (Ok (Some opening)) bs = rated_listing (rated opening.rate) (drop opening.used bs)
opened_listing (Ok None) bs = all_line no_sums
opened_listing (Err s) bs = refused_line s.number s.place

-- The listing from a night on.
unfoldable pub listing_on : Night → List ℕ → List ℕ
listing_on Begun bs = opened_listing (first_of bs) bs
listing_on (Rated night) bs = rated_listing night bs

-- The listing of a recording.
unfoldable pub listing_of : List ℕ → List ℕ
listing_of bs = listing_on Begun bs

-- ---- the same by its breaths

-- The ratios of some breaths at a rate.
unfoldable pub ratios_of : (rate : ℕ) → List Breath → List Ratio
ratios_of rate [] = []
ratios_of rate (b ∷ bs) = breath_ratio rate b ∷ ratios_of rate bs

-- What a listing ends with: `all`; or `refused`, the stop's number and the line.
unfoldable pub last_line : Sums → Outcome (Unit {0}) → List ℕ
last_line sums (Err s) = refused_line s.number s.place
last_line sums (Ok x) = all_line sums

-- ---- what listing a whole recording comes to

-- The stops of the recording, or its listing.
unfoldable pub night_outcome : List ℕ → Outcome (List ℕ)
night_outcome bs = recording_check bs then λ _. done (listing_of bs)

-- ---- demand 3

-- The sums of a recording's breaths at its rate.
unfoldable pub sums_in : List ℕ → Sums
sums_in bs = sums_of (rate_in bs) (breaths_in bs)

-- Demand 3, of a night: its listing is the numbered lines of its breaths' ratios at its rate, and then `all` of their sums, or `refused`; and the word of each
-- breath that isn't void, and of all of them, is best for its N and D.
pub record BestNight (bs : List ℕ) : Type 0 where
  pub lines : listing_of bs ≡ numbered 1 (ratios_of (rate_in bs) (breaths_in bs)) ++ last_line (sums_in bs) (recording_check bs)
  pub each : BestBreaths (rate_in bs) (breaths_in bs)
  pub all : BestRatio (sums_in bs).inspiration (sums_in bs).whole (night_ratio (sums_in bs))
