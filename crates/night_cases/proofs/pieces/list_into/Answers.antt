use Rattle.listing.proofs.NightLaws.{begun_night}
use Rattle.listing.proofs.StepLaws.{piece_answer}
use Rattle.std.proofs.Common.{ℕ, ◌+◌, ◌-◌, ◌≤◌, List, length, take, drop, sym, arith, length-take, length-take-le}
use Rattle.night_cases.proofs.pieces.list_into.Goals as goal

-- what is used of the bytes from a place up to an end stands before that end
used : (bs : List ℕ) (from end u : ℕ) → from ≤ end → u ≤ length (take (end - from) (drop from bs)) → from + u ≤ end
used bs from end u e h = omega (arith, e, h, length-take (end - from) (drop from bs))

pub loop-init : goal.loop-init
loop-init g c = (omega arith, omega arith, begun_night)

pub slice_bounds-write_all-end : goal.slice_bounds-write_all-end
slice_bounds-write_all-end g c = (piece_answer _ _ _ c.loop.room _ _ c.loop.invariant.2 (c.list_piece-piece.ensures.answered, c.list_piece-piece.ensures.stored)).1

pub slice_bounds-write_all-end-in-loop : goal.slice_bounds-write_all-end-in-loop
slice_bounds-write_all-end-in-loop g c = sym (length-take-le _ _ (piece_answer _ _ _ c.loop.room _ _ c.loop.invariant.2 (c.list_piece-piece.ensures.answered, c.list_piece-piece.ensures.stored)).1)

pub overflow_add-from : goal.overflow_add-from
overflow_add-from g c = omega (arith, used c.args.bytes.now c.loop.from (c.loop.end + c.min-end.result) c.list_piece-piece.result.used (omega (arith, c.loop.invariant.0)) (piece_answer _ _ _ c.loop.room _ _ c.loop.invariant.2 (c.list_piece-piece.ensures.answered, c.list_piece-piece.ensures.stored)).0, c.loop.invariant.1, c.min-end.ensures, c.well_formed)

pub loop-preserved : goal.loop-preserved
loop-preserved g c =
    let piece = piece_answer _ _ _ c.loop.room _ _ c.loop.invariant.2 (c.list_piece-piece.ensures.answered, c.list_piece-piece.ensures.stored) in
    (used c.args.bytes.now c.loop.from (c.loop.end + c.min-end.result) c.list_piece-piece.result.used (omega (arith, c.loop.invariant.0)) piece.0, omega (arith, c.loop.invariant.1, c.min-end.ensures), piece.2)
