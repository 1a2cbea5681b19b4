-- How a run ends that reads a recording and writes its listing, and what it has written then.
use Rattle.std.specs.Prelude.{ℕ, List, ◌++◌, ◌≡◌, Bool, true, false, Option, Result, Ok, Err, ⊤}
use Rattle.std.specs.Io.KnownBytes.{Appends}
use Rattle.slash.specs.Answers.{Outcome, done}
use Rattle.recording.specs.Reading.{RecordingStop}
use Rattle.stream.specs.declared.run.Cut.{Cut}
use Rattle.stream.specs.declared.run.Cut.TheVariants.{Refused, Unread, Unwritten}

-- The outcome that each end stands for: a stop; or whether the listing is whole. (What can't be read or written cuts it; the papers number
-- neither.)
abbrev pub run_outcome : Result (Unit {0}) Cut → Outcome Bool
run_outcome (Ok u) = done true
run_outcome (Err (Refused s)) = Err s
run_outcome (Err Unread) = done false
run_outcome (Err Unwritten) = done false

-- What a run tells: a stop is one that a recording can cause.
abbrev pub Tells : Outcome Bool → Type 0
Tells (Err s) = RecordingStop s.number s.place
Tells (Ok whole) = Unit {0}

-- What a run adds to the bytes that a writer is known to hold: listed, or refused, the whole of the listing; unread, a front part of it. (What a
-- writer holds that failed is open.)
abbrev pub Adds : Result (Unit {0}) Cut → (listing : List ℕ) → (old new : Option (List ℕ)) → Type 0
Adds (Ok u) listing old new = Appends old new listing
Adds (Err (Refused s)) listing old new = Appends old new listing
Adds (Err Unread) listing old new = (part : List ℕ) × (rest : List ℕ) × Appends old new part × (listing ≡ part ++ rest)
Adds (Err Unwritten) listing old new = ⊤
