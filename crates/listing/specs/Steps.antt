-- For the code and the proofs alone: the next line of a night, and a piece behind the rate line.
use Rattle.std.specs.Prelude.{ℕ, suc, ◌+◌}
use Rattle.listing.specs.Pieces.{left_to_next}
use Rattle.listing.specs.declared.night.Night.{Night}
use Rattle.listing.specs.declared.night.Night.TheVariants.{Begun, Rated}
use Rattle.listing.specs.declared.piece.Piece.{Piece}

-- The number of a night's next line: the rate line is line 1, and breath n stands at line n + 1.
abbrev pub next_line : Night → ℕ
next_line Begun = 1
next_line (Rated night) = suc night.breath

-- The answer for a piece of what stands behind a rate line that used so many bytes, as one of both.
unfoldable pub behind_rate : (used : ℕ) → Piece → Piece
behind_rate used p = record { used = used + p.used; length = p.length; night = p.night; end = left_to_next used p.end }
