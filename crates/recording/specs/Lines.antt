-- A line of a recording: its fields; a breath's: onset, peak, next onset.
use Rattle.std.specs.Prelude.{ℕ, suc, ◌+◌, ◌-◌, ◌*◌, true, false, ◌&&◌, Option, Some, None, Result, Ok, Err, List, [], ◌∷◌, eqb, leb, ltb, length, take}
use Rattle.std.specs.Prelude.{if◌then◌else◌}
use Rattle.breaths.specs.Breaths.{most_ticks, breath_of}
use Rattle.text.specs.Scan.{length_before, is_digit, parted}
use Rattle.recording.specs.declared.line.Entry.{Entry}

-- ---- a tick mark

-- The number that goes on from `value` with some digits; one above the largest tick mark is wrong, and so is any other byte.
unfoldable pub digits_from : (value : ℕ) → List ℕ → Option ℕ
digits_from value [] = Some value
digits_from value (x ∷ xs) =
    elim (is_digit x && leb (value * 10 + (x - 48)) most_ticks) [ true ↦ digits_from (value * 10 + (x - 48)) xs | false ↦ None ]

-- A decimal tick mark from 0 to 4294967295, no leading zeros: no 0 (byte 48) in front of another digit.
unfoldable pub read_tick : List ℕ → Option ℕ
read_tick [] = None
read_tick (x ∷ xs) = if eqb x 48 && ltb 0 (length xs) then None else digits_from 0 (x ∷ xs)

-- ---- a line

-- A line has at most so many bytes before its line feed.
abbrev pub most_bytes : ℕ
most_bytes = 32

-- The line at the start of some bytes: what its fields come to, with how many bytes it uses, its line feed (byte 10) included; or what it comes to
-- where over 32 bytes stand before the line feed, or there is none.
unfoldable pub from_start : {A : Type 0} → (endless : A) → (from_fields : (used : ℕ) → List (List ℕ) → A) → List ℕ → A
from_start endless from_fields bs =
    let before : ℕ = length_before 10 (take (suc most_bytes) bs) in
    if leb (length (take (suc most_bytes) bs)) before then endless else from_fields (suc before) (parted 9 (take before bs))

-- ---- a breath's line

-- Stop 11: a field is not such a number.
unfoldable pub from_ticks : (used : ℕ) → (onset peak next : Option ℕ) → Result Entry ℕ
from_ticks used (Some onset) (Some peak) (Some next) = Ok (record { breath = breath_of onset peak next; used = used })
from_ticks used None peak next = Err 11
from_ticks used (Some onset) None next = Err 11
from_ticks used (Some onset) (Some peak) None = Err 11

-- Stop 10: not three fields.
unfoldable pub from_fields : (used : ℕ) → List (List ℕ) → Result Entry ℕ
from_fields used [] = Err 10
from_fields used (x ∷ []) = Err 10
from_fields used (x ∷ y ∷ []) = Err 10
from_fields used (x ∷ y ∷ z ∷ []) = from_ticks used (read_tick x) (read_tick y) (read_tick z)
from_fields used (x ∷ y ∷ z ∷ v ∷ more) = Err 10

-- The breath's line at the start of some bytes: its breath, and how many bytes it uses. Stop 9: over 32 bytes before the line feed, or no
-- line feed.
unfoldable pub read_line : List ℕ → Result Entry ℕ
read_line bs = from_start (Err 9) from_fields bs
