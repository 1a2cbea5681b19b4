use Rattle.listing.proofs.StepLaws.{piece_none, piece_promised}
use mathlib.Core.Path.{sym, ◌∙◌}
use Rattle.listing.proofs.piece.list_piece.Goals as goal

pub returns-in_default : goal.returns-in_default
returns-in_default c =
    let both = (piece_promised _ _ c.in_default.is _ _ _ _ _ (c.put_first.ensures.answered, c.put_first.ensures.stored)) in
    record { answered = both.0; stored = both.1.0; untouched = both.1.1.0; listing = both.1.1.1.0; best = both.1.1.1.1.0; ended = both.1.1.1.1.1 }

pub returns-then-not-is_rated : goal.returns-then-not-is_rated
returns-then-not-is_rated c =
    let both = (piece_promised _ _ c.in-Rated.is _ _ _ _ _ (piece_none _ _ _ _ (sym c.is_rated.ensures ∙ c.if-not-is_rated.true))) in
    record { answered = both.0; stored = both.1.0; untouched = both.1.1.0; listing = both.1.1.1.0; best = both.1.1.1.1.0; ended = both.1.1.1.1.1 }

pub returns : goal.returns
returns c =
    let both = (piece_promised _ _ c.in-Rated.is _ _ _ _ _ (c.put_lines.ensures.answered, c.put_lines.ensures.stored)) in
    record { answered = both.0; stored = both.1.0; untouched = both.1.1.0; listing = both.1.1.1.0; best = both.1.1.1.1.0; ended = both.1.1.1.1.1 }
