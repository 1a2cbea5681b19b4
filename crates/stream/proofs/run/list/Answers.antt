use Rattle.listing.proofs.NightLaws.{begun_night, night_lines}
use Rattle.listing.proofs.StepLaws.{piece_answer, piece_stops, piece_goes_on}
use Rattle.stream.proofs.InputLaws.{grown, turn_listed, turn_read, listed_on, waits_on}
use Rattle.stream.proofs.RunLaws.{refused_tells}
use native.Mathlib.Omega.{arith}
use lib.Seq.{length-take-le}
use mathlib.Core.Path.{refl, sym, ◌∙◌}
use borrow.Author.Rules.{rules}
use Rattle.stream.proofs.WrittenLaws.{begun, turn_moved, turn_waits, turn_closed, turn_refused, turn_part, adds_refused, where_known, no_byte}
use Rattle.stream.proofs.run.list.Goals as goal

pub loop-bytes-init : goal.loop-bytes-init
loop-bytes-init g c = (search rules, search rules, omega arith, begun_night, λ all e. begun all _ _ e)

pub slice_bounds-text-end : goal.slice_bounds-text-end
slice_bounds-text-end g c = (piece_answer _ _ _ c.loop-bytes.text _ _ c.loop-bytes.invariant.3 (c.list_piece-piece.ensures.answered, c.list_piece-piece.ensures.stored)).1

pub slice_bounds-write_all-end : goal.slice_bounds-write_all-end
slice_bounds-write_all-end g c = sym (length-take-le _ _ (piece_answer _ _ _ c.loop-bytes.text _ _ c.loop-bytes.invariant.3 (c.list_piece-piece.ensures.answered, c.list_piece-piece.ensures.stored)).1)

pub returns-in-Refused-clause-told : goal.returns-in-Refused-clause-told
returns-in-Refused-clause-told g c =
    refused_tells c.list_piece-piece.result.night (piece_answer _ _ _ c.loop-bytes.text _ _ c.loop-bytes.invariant.3 (c.list_piece-piece.ensures.answered, c.list_piece-piece.ensures.stored)).2
    c.list_piece-piece.result.end (piece_stops _ _ _ c.loop-bytes.text _ _ c.loop-bytes.invariant.3 (c.list_piece-piece.ensures.answered, c.list_piece-piece.ensures.stored))
    _ c.in-Refused.is c.refuse.result c.refuse.ensures.ends

pub move_to_front-filled-requires : goal.move_to_front-filled-requires
move_to_front-filled-requires g c = (omega (arith, (piece_answer _ _ _ c.loop-bytes.text _ _ c.loop-bytes.invariant.3 (c.list_piece-piece.ensures.answered, c.list_piece-piece.ensures.stored)).0, length-take-le c.loop-bytes.filled c.loop-bytes.bytes c.loop-bytes.invariant.2), c.loop-bytes.invariant.2)

pub loop-bytes-smaller-then-piece-gt0 : goal.loop-bytes-smaller-then-piece-gt0
loop-bytes-smaller-then-piece-gt0 g c =
    let answer = piece_answer _ _ _ c.loop-bytes.text _ _ c.loop-bytes.invariant.3 (c.list_piece-piece.ensures.answered, c.list_piece-piece.ensures.stored) in
    let goes = piece_goes_on _ _ _ c.loop-bytes.text _ _ c.loop-bytes.invariant.3 (c.list_piece-piece.ensures.answered, c.list_piece-piece.ensures.stored) (omega (arith, c.loop-bytes.invariant.1)) c.in-Open.is in
    turn_listed _ _ _ _ _ (listed_on _ _ _ _ _ goes (omega (arith, c.if-piece-gt0.true))) (night_lines _ answer.2).1

pub loop-bytes-preserved-then-piece-gt0 : goal.loop-bytes-preserved-then-piece-gt0
loop-bytes-preserved-then-piece-gt0 g c =
    let answer = piece_answer _ _ _ c.loop-bytes.text _ _ c.loop-bytes.invariant.3 (c.list_piece-piece.ensures.answered, c.list_piece-piece.ensures.stored) in (
      search rules,
      search rules,
      omega (arith, c.move_to_front-filled.ensures.counted, c.loop-bytes.invariant.2),
      answer.2,
      λ all e. turn_moved
          _ _ _ _ _ _ c.loop-bytes.text _ _ (c.loop-bytes.invariant.4 all e) c.loop-bytes.invariant.3 _ _
          c.list_piece-piece.ensures.answered c.list_piece-piece.ensures.stored c.list_piece-piece.ensures.listing
          _ c.write_all.result (sym c.is_err.ensures.value ∙ c.if-is_err.false) c.write_all.ensures.bytes
          c.in-Open.is (omega (arith, answer.0, length-take-le c.loop-bytes.filled c.loop-bytes.bytes c.loop-bytes.invariant.2)) c.loop-bytes.invariant.2
          _ _ c.move_to_front-filled.ensures.counted c.move_to_front-filled.ensures.moved,
    )

pub read_more-requires : goal.read_more-requires
read_more-requires g c =
    let goes = piece_goes_on _ _ _ c.loop-bytes.text _ _ c.loop-bytes.invariant.3 (c.list_piece-piece.ensures.answered, c.list_piece-piece.ensures.stored) (omega (arith, c.loop-bytes.invariant.1)) c.in-Open.is in
    let waits = waits_on _ _ _ _ _ goes (omega (arith, c.if-piece-gt0.false)) in
    let long = length-take-le c.loop-bytes.filled c.loop-bytes.bytes c.loop-bytes.invariant.2 in
    (omega (arith, waits.1, long, c.loop-bytes.invariant.0), waits.2 ∙ long)

pub loop-bytes-smaller : goal.loop-bytes-smaller
loop-bytes-smaller g c =
    let goes = piece_goes_on _ _ _ c.loop-bytes.text _ _ c.loop-bytes.invariant.3 (c.list_piece-piece.ensures.answered, c.list_piece-piece.ensures.stored) (omega (arith, c.loop-bytes.invariant.1)) c.in-Open.is in
    let waits = waits_on _ _ _ _ _ goes (omega (arith, c.if-piece-gt0.false)) in
    turn_read _ _ _ _ _ waits.0 (omega (arith, waits.1, length-take-le c.loop-bytes.filled c.loop-bytes.bytes c.loop-bytes.invariant.2)) (grown _ _)

pub loop-bytes-preserved : goal.loop-bytes-preserved
loop-bytes-preserved g c = (
  search rules,
  search rules,
  c.in-Ok.ensures.counted.0,
  c.loop-bytes.invariant.3,
  λ all e. turn_waits
      _ _ _ _ _ _ c.loop-bytes.text _ _ (c.loop-bytes.invariant.4 all e) c.loop-bytes.invariant.3 _ _
      c.list_piece-piece.ensures.answered c.list_piece-piece.ensures.stored c.list_piece-piece.ensures.listing
      _ c.write_all.result (sym c.is_err.ensures.value ∙ c.if-is_err.false) c.write_all.ensures.bytes
      c.list_piece-piece.ensures.best c.in-Open.is (omega (arith, c.if-piece-gt0.false)) c.loop-bytes.invariant.2
      _ _ _ _ c.in-Ok.ensures.consumed (no_byte _ _ refl c.in-Ok.ensures.ended)
      (omega arith) c.in-Ok.ensures.counted.0 c.in-Ok.ensures.kept,
)

pub returns-in-Closed-clause-written : goal.returns-in-Closed-clause-written
returns-in-Closed-clause-written g c = where_known _ _ (λ all e. turn_closed
    _ _ _ _ _ _ c.loop-bytes.text _ _ (c.loop-bytes.invariant.4 all e) c.loop-bytes.invariant.3 _ _
    c.list_piece-piece.ensures.answered c.list_piece-piece.ensures.stored c.list_piece-piece.ensures.listing
    _ c.write_all.result (sym c.is_err.ensures.value ∙ c.if-is_err.false) c.write_all.ensures.bytes
    c.in-Closed.is)

pub returns-in-NoNight-clause-written : goal.returns-in-NoNight-clause-written
returns-in-NoNight-clause-written g c = where_known _ _ (λ all e. turn_part
    _ _ _ _ _ _ c.loop-bytes.text _ _ (c.loop-bytes.invariant.4 all e) c.loop-bytes.invariant.3 _ _
    c.list_piece-piece.ensures.answered c.list_piece-piece.ensures.stored c.list_piece-piece.ensures.listing
    _ c.write_all.result (sym c.is_err.ensures.value ∙ c.if-is_err.false) c.write_all.ensures.bytes)

pub returns-in-Refused-clause-written : goal.returns-in-Refused-clause-written
returns-in-Refused-clause-written g c = where_known _ _ (λ all e. adds_refused _ _ _ _ _ c.refuse.ensures.ends (λ said. turn_refused
    _ _ _ _ _ _ c.loop-bytes.text _ _ (c.loop-bytes.invariant.4 all e) c.loop-bytes.invariant.3 _ _
    c.list_piece-piece.ensures.answered c.list_piece-piece.ensures.stored c.list_piece-piece.ensures.listing
    _ c.write_all.result (sym c.is_err.ensures.value ∙ c.if-is_err.false) c.write_all.ensures.bytes
    _ c.in-Refused.is _ (c.refuse.ensures.written said)))

pub returns-in_default-clause-written : goal.returns-in_default-clause-written
returns-in_default-clause-written g c = where_known _ _ (λ all e. turn_part
    _ _ _ _ _ _ c.loop-bytes.text _ _ (c.loop-bytes.invariant.4 all e) c.loop-bytes.invariant.3 _ _
    c.list_piece-piece.ensures.answered c.list_piece-piece.ensures.stored c.list_piece-piece.ensures.listing
    _ c.write_all.result (sym c.is_err.ensures.value ∙ c.if-is_err.false) c.write_all.ensures.bytes)
