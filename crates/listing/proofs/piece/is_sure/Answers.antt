use Rattle.listing.proofs.PieceLaws.{sure_no_room, sure_last, sure_long, sure_ended}
use native.Mathlib.Omega.{arith}
use Rattle.listing.proofs.piece.is_sure.Goals as goal

pub returns-then-room-lt-LONGEST_LINE : goal.returns-then-room-lt-LONGEST_LINE
returns-then-room-lt-LONGEST_LINE c = sure_no_room _ _ _ (omega (arith, c.if-room-lt-LONGEST_LINE.true))

pub returns-then-last : goal.returns-then-last
returns-then-last c = sure_last _ _ _ (omega (arith, c.if-room-lt-LONGEST_LINE.false)) c.if-last.true

pub returns-then-bytes-ge-LONGEST_LINE : goal.returns-then-bytes-ge-LONGEST_LINE
returns-then-bytes-ge-LONGEST_LINE c = sure_long _ _ _ (omega (arith, c.if-room-lt-LONGEST_LINE.false)) c.if-last.false (omega (arith, c.if-bytes-ge-LONGEST_LINE.true))

pub returns : goal.returns
returns c = sure_ended _ _ _ (omega (arith, c.if-room-lt-LONGEST_LINE.false)) c.if-last.false (omega (arith, c.if-bytes-ge-LONGEST_LINE.false)) _ c.length_before.ensures.defined
