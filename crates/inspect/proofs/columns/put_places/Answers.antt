use Rattle.inspect.proofs.StoreLaws.{added, room_as, room_first, room_rest, added_as}
use Rattle.inspect.proofs.ColumnLaws.{places_pieces}
use mathlib.Core.Path.{sym}
use native.Mathlib.Omega.{arith}
use Rattle.inspect.proofs.columns.put_places.Goals as goal

pub put_number-requires : goal.put_number-requires
put_number-requires c = room_first _ (room_first _ (room_as (sym (places_pieces _)) c.requires))

pub put_text-requires : goal.put_text-requires
put_text-requires c = room_rest (room_first _ (room_as (sym (places_pieces _)) c.requires)) c.put_number.ensures

pub put_digits-requires : goal.put_digits-requires
put_digits-requires c = (omega arith, omega arith, room_rest (room_as (sym (places_pieces _)) c.requires) (added c.put_number.ensures c.put_text.ensures))

pub returns : goal.returns
returns c = added_as (places_pieces _) (added (added c.put_number.ensures c.put_text.ensures) c.put_digits.ensures)
