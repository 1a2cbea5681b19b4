-- A listing made in pieces: what is listed of some bytes where others may follow them.
use Rattle.std.specs.Prelude.{ℕ, zero, suc, ◌-◌, ◌+◌, Some, None, Ok, Err, List, [], ◌++◌, ◌≡◌, Bool, true, false, ◌&&◌, ◌||◌, drop, length, take, leb, ltb}
use Rattle.std.specs.Prelude.{if◌then◌else◌}
use Rattle.slash.specs.Answers.{Outcome, done, unnumbered}
use Rattle.breaths.specs.Sums.{no_sums, night_ratio, sums_of, add_sums}
use Rattle.breaths.specs.Ratios.{BestRatio}
use Rattle.breaths.specs.Breaths.{BestBreaths}
use Rattle.breaths.specs.declared.breath.Breath.{Breath}
use Rattle.breaths.specs.declared.sums.Sums.{Sums}
use Rattle.text.specs.Lines.{numbered, refused_line, longest_line}
use Rattle.text.specs.Scan.{length_before}
use Rattle.recording.specs.Lines.{most_bytes}
use Rattle.recording.specs.Openings.{Start, first_of}
use Rattle.recording.specs.Reading.{next_of, lines_from, breaths_on, rate_in, breaths_in}
use Rattle.listing.specs.Nights.{rated, with_line, is_rated, is_night, next_breath, sums_so_far}
use Rattle.listing.specs.Listing.{breath_line, all_line, listing_on, ratios_of}
use Rattle.listing.specs.declared.night.Night.{Night}
use Rattle.listing.specs.declared.night.Night.TheVariants.{Begun, Rated}
use Rattle.listing.specs.declared.night.RatedNight.{RatedNight}
use Rattle.listing.specs.declared.piece.End.{End}
use Rattle.listing.specs.declared.piece.End.TheVariants.{Open, Closed, Refused, NoNight}
use Rattle.listing.specs.declared.piece.Piece.{Piece}

-- The outcome that each end stands for: a stop; or whether the listing is whole. A night that comes of no recording is refused.
abbrev pub end_outcome : End → Outcome Bool
end_outcome Open = done false
end_outcome Closed = done true
end_outcome (Refused s) = Err s
end_outcome NoNight = unnumbered

-- The text that is listed, how many bytes it uses, the night behind it, and whether it is the end.
pub record ListedPiece : Type 0 where
  pub text : List ℕ
  pub used : ℕ
  pub night : Night
  pub end : End

-- A stop behind bytes that a piece used is left to the next piece, and this one is open: a piece that is refused uses and lists
-- nothing.
unfoldable pub left_to_next : (used : ℕ) → End → End
left_to_next zero end = end
left_to_next (suc used) end = elim (end_outcome end) [ Err s ↦ Open | Ok whole ↦ end ]

-- Nothing more is used; what is listed may be the last line.
unfoldable pub ends_here : Night → List ℕ → End → ListedPiece
ends_here night text end = record { text = text; used = 0; night = night; end = end }

-- A line that used so many bytes, and what is listed behind it.
unfoldable pub line_then : (line : List ℕ) (used : ℕ) → ListedPiece → ListedPiece
line_then line used l = record { text = line ++ l.text; used = used + l.used; night = l.night; end = left_to_next used l.end }

-- The next line is listed where the longest has room and it is sure: what stands behind a line feed (byte 10), or behind more bytes than a
-- line has before its line feed, doesn't change it. `last` says that nothing follows the bytes.
unfoldable pub is_sure : List ℕ → (last : Bool) (room : ℕ) → Bool
is_sure bs last room = leb longest_line room && (last || (leb (suc most_bytes) (length bs) || ltb (length_before 10 bs) (length bs)))

-- What is listed of some bytes from a night on whose rate is read, in so many steps.
unfoldable pub piece_from : (steps : ℕ) → RatedNight → List ℕ → (last : Bool) (room : ℕ) → ListedPiece
piece_from zero night bs last room = ends_here (Rated night) [] Open
piece_from (suc steps) night bs last room =
    elim (is_sure bs last room) [
      | false ↦ ends_here (Rated night) [] Open
      | true ↦ elim (next_of night.breath bs) [
        | Ok (Some entry) ↦ line_then (breath_line night.rate.ticks night.breath entry.breath) entry.used
            (piece_from steps (with_line night entry.breath) (drop entry.used bs) last (room - length (breath_line night.rate.ticks night.breath entry.breath)))
        | Ok None ↦ ends_here (Rated night) (all_line night.sums) Closed
        | Err s ↦ ends_here (Rated night) [] (Refused s)
      ]
    ]

unfoldable pub rated_piece : RatedNight → List ℕ → (last : Bool) (room : ℕ) → ListedPiece
rated_piece night bs last room = piece_from (lines_from night.breath) night bs last room

-- The same by what a recording opens with: its rate line uses bytes, and lists nothing.
unfoldable pub opened_piece : Outcome Start → List ℕ → (last : Bool) (room : ℕ) → ListedPiece
opened_piece (Ok (Some opening)) bs last room = line_then [] opening.used (rated_piece (rated opening.rate) (drop opening.used bs) last room)
opened_piece (Ok None) bs last room = ends_here Begun (all_line no_sums) Closed
opened_piece (Err s) bs last room = ends_here Begun [] (Refused s)

-- What is listed of some bytes from a night on. Where the night is none of a recording, nothing is.
unfoldable pub piece_of : Night → List ℕ → (last : Bool) (room : ℕ) → ListedPiece
piece_of Begun bs last room = if is_sure bs last room then opened_piece (first_of bs) bs last room else ends_here Begun [] Open
piece_of (Rated night) bs last room = if is_rated night then rated_piece night bs last room else ends_here (Rated night) [] NoNight

-- How a piece is answered: the text stands in the lent list, and its length is told.
unfoldable pub answer_of : ListedPiece → Piece
answer_of l = record { used = l.used; length = length l.text; night = l.night; end = l.end }

-- ---- what pieces make

-- What a listing goes on with behind a piece: where that is open, with the listing from its night of the bytes that it didn't use and
-- whatever follows them; where it is refused, with the line of the stop; where it is whole, with nothing. (A night that comes of no
-- recording is left out by `MakesListing`.)
unfoldable pub goes_on : Outcome Bool → Night → List ℕ → List ℕ
goes_on (Ok false) night bs = listing_on night bs
goes_on (Ok true) night bs = []
goes_on (Err s) night bs = refused_line s.number s.place

-- The same of a piece of some bytes, and what follows them.
unfoldable pub rest_of : ListedPiece → (bs more : List ℕ) → List ℕ
rest_of l bs more = goes_on (end_outcome l.end) l.night (drop l.used bs ++ more)

-- Pieces make the listing: from a night on, that of some bytes and whatever follows them is the piece's text, and then what it goes on with.
-- (Nothing follows the last bytes.)
unfoldable pub MakesListing : Night → List ℕ → (last : Bool) (room : ℕ) → Type 0
MakesListing night bs last room =
    (more : List ℕ) → is_night night ≡ true → (last ≡ true → more ≡ [])
    → listing_on night (bs ++ more) ≡ (piece_of night bs last room).text ++ rest_of (piece_of night bs last room) bs more

-- ---- demand 3 of a piece

-- The rate of a night, and the breaths, of the bytes that a piece used.
unfoldable pub rate_of : Night → (used : List ℕ) → ℕ
rate_of Begun used = rate_in used
rate_of (Rated night) used = night.rate.ticks

unfoldable pub breaths_of : Night → (used : List ℕ) → List Breath
breaths_of Begun used = breaths_in used
breaths_of (Rated night) used = breaths_on night.breath used

-- What stands behind their lines: `all` where the recording ends.
unfoldable pub end_text : Sums → Outcome Bool → List ℕ
end_text sums (Ok false) = []
end_text sums (Ok true) = all_line sums
end_text sums (Err s) = []

-- From a night on, at a rate, a piece's text is the numbered lines of these breaths' ratios, and `all` at the end; and the sums behind it are those before
-- it and those of the breaths.
pub record Lists (night : Night) (rate : ℕ) (breaths : List Breath) (l : ListedPiece) : Type 0 where
  pub lines : l.text ≡ numbered (next_breath night) (ratios_of rate breaths) ++ end_text (sums_so_far l.night) (end_outcome l.end)
  pub sums : sums_so_far l.night ≡ add_sums (sums_so_far night) (sums_of rate breaths)

-- A piece lists the breaths of the bytes that it used; and the word of each breath that isn't void, and of all, is best for its N and D.
pub record BestPiece (night : Night) (bs : List ℕ) (l : ListedPiece) : Type 0 where
  pub lists : Lists night (rate_of night (take l.used bs)) (breaths_of night (take l.used bs)) l
  pub each : BestBreaths (rate_of night (take l.used bs)) (breaths_of night (take l.used bs))
  pub all : BestRatio (sums_so_far l.night).inspiration (sums_so_far l.night).whole (night_ratio (sums_so_far l.night))
