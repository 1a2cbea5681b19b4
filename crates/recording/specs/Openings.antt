-- The first line of a recording: `rate`, a tab, and the rate.
use Rattle.std.specs.Prelude.{ℕ, Option, Some, None, List, [], ◌∷◌}
use Rattle.std.specs.Prelude.{if◌then◌else◌}
use Rattle.slash.specs.Answers.{Outcome, stop, done}
use Rattle.breaths.specs.Rates.{is_rate}
use Rattle.text.specs.Scan.{same}
use Rattle.recording.specs.Lines.{read_tick, from_start}
use Rattle.recording.specs.declared.opening.Opening.{Opening}

-- What a recording opens with where nothing stops: its rate, with how many bytes the line uses; or its end.
abbrev pub Start : Type 0
Start = Option Opening

abbrev pub a_rate : Opening → Start
a_rate opening = Some opening

abbrev pub no_line : Start
no_line = None

-- Stop 19: the first line is no rate line.
abbrev pub no_rate_line : Outcome Start
no_rate_line = stop 19 1

-- A whole number from 1 to 4096, no leading zeros. (The reader of tick marks tells that it is a whole number, and refuses those above 4294967295.)
unfoldable pub from_rate : (used : ℕ) → Option ℕ → Outcome Start
from_rate used (Some ticks) = if is_rate ticks then done (a_rate (record { rate = record { ticks = ticks }; used = used })) else no_rate_line
from_rate used None = no_rate_line

-- The first field of a rate line.
abbrev pub rate_name : List ℕ
rate_name = 114 ∷ 97 ∷ 116 ∷ 101 ∷ []

-- Two fields, the first of them `rate`.
unfoldable pub from_rate_fields : (used : ℕ) → List (List ℕ) → Outcome Start
from_rate_fields used [] = no_rate_line
from_rate_fields used (x ∷ []) = no_rate_line
from_rate_fields used (x ∷ y ∷ []) = if same x rate_name then from_rate used (read_tick y) else no_rate_line
from_rate_fields used (x ∷ y ∷ z ∷ more) = no_rate_line

-- The rate line at the start of some bytes. Stop 9: over 32 bytes before the line feed, or no line feed.
unfoldable pub read_rate : List ℕ → Outcome Start
read_rate bs = from_start (stop 9 1) from_rate_fields bs

-- What a recording opens with, from all of its bytes. Where there are none, it ends: a night with nothing in it.
unfoldable pub first_of : List ℕ → Outcome Start
first_of [] = done no_line
first_of (b ∷ bs) = read_rate (b ∷ bs)
