use Rattle.inspect.proofs.StoreLaws.{added, room_first, room_rest}
use Rattle.inspect.proofs.QuotientLaws.{spacing_end, spacing_first, spacing_next, spacing_room}
use native.Mathlib.Omega.{arith}
use Rattle.inspect.proofs.quotient.put_behind_spaces.Goals as goal

pub put_text-requires : goal.put_text-requires
put_text-requires c = spacing_first c.loop-q.invariant c.loop-q-test.true c.requires

pub put_number-requires : goal.put_number-requires
put_number-requires c = room_rest (room_first _ (spacing_room c.loop-q.invariant c.loop-q-test.true c.requires)) c.put_text.ensures

pub loop-q-preserved : goal.loop-q-preserved
loop-q-preserved c = spacing_next c.loop-q.invariant c.loop-q-test.true (added c.put_text.ensures c.put_number.ensures)

pub returns : goal.returns
returns c = spacing_end c.loop-q.invariant (omega arith)
