-- A night listed in pieces for a caller in C: its state, and what a piece came to, as numbers in a row.
use Rattle.std.specs.Prelude.{ℕ, Bool, ◌&&◌, not, List, [], ◌∷◌, eqb, ltb, get_or, length, Ok, Err}
use Rattle.std.specs.Prelude.{if◌then◌else◌}
use Rattle.slash.specs.Answers.{Outcome, stop, done, ◌then◌, WhenDone}
use Rattle.breaths.specs.Rates.{make_rate}
use Rattle.breaths.specs.declared.rate.Rate.{Rate}
use Rattle.breaths.specs.declared.sums.Sums.{Sums}
use Rattle.listing.specs.Pieces.{ListedPiece, piece_of, MakesListing, BestPiece}
use Rattle.listing.specs.declared.night.Night.{Night}
use Rattle.listing.specs.declared.night.Night.TheVariants.{Begun, Rated}
use Rattle.listing.specs.declared.piece.End.{End}
use Rattle.listing.specs.declared.piece.End.TheVariants.{Open, Closed, Refused, NoNight}

-- ---- a night's state

-- A state that no recording has. The papers number no such stop, and theirs count up from 1: this is the last number that 8 bits tell.
abbrev pub no_night : {A : Type 0} → Outcome A
no_night = stop 255 0

-- Four numbers: the rate, the number of the next breath, the sums of in and of whole so far. All are 0 where nothing is read.
unfoldable pub state_of : Night → List ℕ
state_of Begun = 0 ∷ 0 ∷ 0 ∷ 0 ∷ []
state_of (Rated night) = night.rate.ticks ∷ night.breath ∷ night.sums.inspiration ∷ night.sums.whole ∷ []

-- The night of a rate, if it is one, and what is read behind its line.
unfoldable pub rated_from : Outcome Rate → (breath : ℕ) → Sums → Outcome Night
rated_from (Err s) breath sums = no_night
rated_from (Ok rate) breath sums = done (Rated (record { rate = rate; breath = breath; sums = sums }))

-- The night of four numbers. (A breath's number has 32 bits; whether a recording has a night of this breath and these sums, the listing of a
-- piece tells.)
unfoldable pub night_from : (rate breath inspiration whole : ℕ) → Outcome Night
night_from rate breath inspiration whole =
    if eqb rate 0 && (eqb breath 0 && (eqb inspiration 0 && eqb whole 0)) then done Begun else
    if ltb 4294967295 breath then no_night else
    rated_from (make_rate rate) breath (record { inspiration = inspiration; whole = whole })

-- The same of the four in a row.
unfoldable pub night_at : List ℕ → Outcome Night
night_at l = night_from (get_or l 0 0) (get_or l 1 0) (get_or l 2 0) (get_or l 3 0)

-- ---- a piece

-- A piece as C is told of it, by its end: the recording's stop, or 255.
unfoldable pub told_by : End → ListedPiece → Outcome ListedPiece
told_by Open l = done l
told_by Closed l = done l
told_by (Refused s) l = Err s
told_by NoNight l = no_night

-- What is listed of some bytes from a state on. `last` is 0 where bytes may follow.
unfoldable pub piece_from : Outcome Night → (bytes : List ℕ) (last : Bool) (room : ℕ) → Outcome ListedPiece
piece_from told bytes last room = told then λ night. told_by (piece_of night bytes last room).end (piece_of night bytes last room)

abbrev pub is_last : ℕ → Bool
is_last last = not (eqb last 0)

-- 1 where the listing is whole.
unfoldable pub ended_of : End → ℕ
ended_of Open = 0
ended_of Closed = 1
ended_of (Refused s) = 0
ended_of NoNight = 0

-- Three numbers: how many bytes it used, how long its text is, whether it is the end.
unfoldable pub piece_numbers : ListedPiece → List ℕ
piece_numbers l = l.used ∷ length l.text ∷ ended_of l.end ∷ []

-- ---- what a call leaves

-- The state behind a piece, its text, and what it came to.
unfoldable pub state_behind : Outcome ListedPiece → Outcome (List ℕ)
state_behind o = o then λ l. done (state_of l.night)

unfoldable pub text_of : Outcome ListedPiece → Outcome (List ℕ)
text_of o = o then λ l. done l.text

unfoldable pub numbers_behind : Outcome ListedPiece → Outcome (List ℕ)
numbers_behind o = o then λ l. done (piece_numbers l)

-- Pieces make the listing, and demand 3 holds of each, from the night that a state tells.
unfoldable pub PiecesMakeListing : Outcome Night → (bytes : List ℕ) (last : Bool) (room : ℕ) → Type 0
PiecesMakeListing told bytes last room = WhenDone told (λ night. MakesListing night bytes last room)

unfoldable pub BestFrom : Outcome Night → (bytes : List ℕ) (last : Bool) (room : ℕ) → Type 0
BestFrom told bytes last room = WhenDone told (λ night. BestPiece night bytes (piece_of night bytes last room))
