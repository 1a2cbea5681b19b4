-- A recording line by line: what comes next, its rate and its breaths, and whether a line stops it.
use Rattle.std.specs.Prelude.{ℕ, zero, suc, ◌-◌, ◌≤◌, ◌≡◌, ◌⊎◌, Option, Some, None, Result, Ok, Err, List, [], ◌∷◌, ltb, drop}
use Rattle.std.specs.Prelude.{if◌then◌else◌}
use Rattle.slash.specs.Answers.{Outcome, stop, done, ◌then◌}
use Rattle.breaths.specs.Sums.{most_breaths}
use Rattle.breaths.specs.declared.breath.Breath.{Breath}
use Rattle.recording.specs.Lines.{read_line}
use Rattle.recording.specs.Openings.{first_of}
use Rattle.recording.specs.declared.line.Entry.{Entry}

-- ---- what comes next

-- What comes where nothing stops: a breath, with how many bytes its line uses; or the end.
abbrev pub Coming : Type 0
Coming = Option Entry

abbrev pub a_breath : Entry → Coming
a_breath entry = Some entry

abbrev pub the_end : Coming
the_end = None

-- What a line comes to: a breath, or a stop at that line.
unfoldable pub from_line : (line : ℕ) → Result Entry ℕ → Outcome Coming
from_line line (Ok entry) = done (a_breath entry)
from_line line (Err number) = stop number line

-- What comes next, where the next breath has this number, from the bytes not yet read. Its line is one further: the rate line comes first. Where
-- there are no bytes, the recording ends. Stop 8: breath 65,537 begins.
unfoldable pub next_of : (breath : ℕ) → List ℕ → Outcome Coming
next_of breath [] = done the_end
next_of breath (b ∷ bs) = if ltb most_breaths breath then stop 8 (suc breath) else from_line (suc breath) (read_line (b ∷ bs))

-- ---- all that comes behind the rate line

-- The breaths from a breath's number on, up to the end or the first bad line, in so many steps: a step is a line.
unfoldable pub breaths_from : (steps breath : ℕ) → List ℕ → List Breath
breaths_from zero breath bs = []
breaths_from (suc steps) breath bs =
    elim (next_of breath bs) [
      | Ok (Some entry) ↦ entry.breath ∷ breaths_from steps (suc breath) (drop entry.used bs)
      | Ok None ↦ []
      | Err s ↦ []
    ]

-- The first bad line stops, with its number and line and nothing more.
unfoldable pub check_from : (steps breath : ℕ) → List ℕ → Outcome (Unit {0})
check_from zero breath bs = done tt
check_from (suc steps) breath bs =
    next_of breath bs then λ x.
    elim x [ Some entry ↦ check_from steps (suc breath) (drop entry.used bs) | None ↦ done tt ]

-- How many lines there can be from a breath's number on: breath 65,537 ends every recording. So many steps are enough (proved: `breaths_steps`,
-- `check_steps`).
abbrev pub lines_from : ℕ → ℕ
lines_from breath = suc (suc most_breaths) - breath

unfoldable pub breaths_on : (breath : ℕ) → List ℕ → List Breath
breaths_on breath bs = breaths_from (lines_from breath) breath bs

unfoldable pub check_on : (breath : ℕ) → List ℕ → Outcome (Unit {0})
check_on breath bs = check_from (lines_from breath) breath bs

-- ---- the whole recording

-- The rate of a recording; 0 where it has none, and so no breaths.
unfoldable pub rate_in : List ℕ → ℕ
rate_in bs = elim (first_of bs) [ Ok (Some opening) ↦ opening.rate.ticks | Ok None ↦ 0 | Err s ↦ 0 ]

-- The breaths of a recording.
unfoldable pub breaths_in : List ℕ → List Breath
breaths_in bs = elim (first_of bs) [ Ok (Some opening) ↦ breaths_on 1 (drop opening.used bs) | Ok None ↦ [] | Err s ↦ [] ]

-- What reading a recording through comes to.
unfoldable pub recording_check : List ℕ → Outcome (Unit {0})
recording_check bs =
    first_of bs then λ x.
    elim x [ Some opening ↦ check_on 1 (drop opening.used bs) | None ↦ done tt ]

-- ---- which stops there are

-- The stops that a recording can cause, each at its lines (proved: `check_stops`): 9 and 19 at line 1, 9 to 11 at the line of a breath, 8 at that of
-- breath 65,537. (12, that there is no line, is reserved and never occurs: proved, `never_12`.)
abbrev pub RecordingStop : (number place : ℕ) → Type 0
RecordingStop number place =
    (((number ≡ 9) ⊎ (number ≡ 19)) × (place ≡ 1))
    ⊎ ((((9 ≤ number) × (number ≤ 11)) × ((2 ≤ place) × (place ≤ suc most_breaths)))
    ⊎ ((number ≡ 8) × (place ≡ suc (suc most_breaths))))
