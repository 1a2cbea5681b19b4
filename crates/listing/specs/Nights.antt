-- A night under way: nothing of it is read; or its rate is, and the number of the next breath and the sums of the breaths before it are known.
use Rattle.std.specs.Prelude.{ℕ, suc, ◌-◌, ◌*◌, Bool, true, ◌&&◌, leb}
use Rattle.breaths.specs.Sums.{most_breaths, no_sums, with_breath}
use Rattle.breaths.specs.declared.breath.Breath.{Breath}
use Rattle.breaths.specs.declared.rate.Rate.{Rate}
use Rattle.breaths.specs.declared.sums.Sums.{Sums}
use Rattle.listing.specs.declared.night.Night.{Night}
use Rattle.listing.specs.declared.night.Night.TheVariants.{Begun, Rated}
use Rattle.listing.specs.declared.night.RatedNight.{RatedNight}

-- A night of which the rate line is read and nothing else: breath 1 is the next, and there are no sums.
unfoldable pub rated : Rate → RatedNight
rated rate = record { rate = rate; breath = 1; sums = no_sums }

-- The night behind one breath more.
unfoldable pub with_line : RatedNight → Breath → RatedNight
with_line night b = record { rate = night.rate; breath = suc night.breath; sums = with_breath night.rate.ticks night.sums b }

-- A night of a recording whose rate line is read: from breath 1 to breath 65,537; each breath before it that is summed has a whole of at most 120
-- times the rate, and an in that doesn't exceed it. (That the rate is from 1 to 4096 isn't asked: only `Rate::make` makes one.)
unfoldable pub is_rated : RatedNight → Bool
is_rated night =
    (leb 1 night.breath && leb night.breath (suc most_breaths))
    && (leb night.sums.whole ((night.breath - 1) * (120 * night.rate.ticks)) && leb night.sums.inspiration night.sums.whole)

-- A night of a recording.
unfoldable pub is_night : Night → Bool
is_night Begun = true
is_night (Rated night) = is_rated night

-- ---- what is known of a night

-- The number of its next breath.
abbrev pub next_breath : Night → ℕ
next_breath Begun = 1
next_breath (Rated night) = night.breath

-- The sums so far.
abbrev pub sums_so_far : Night → Sums
sums_so_far Begun = no_sums
sums_so_far (Rated night) = night.sums
