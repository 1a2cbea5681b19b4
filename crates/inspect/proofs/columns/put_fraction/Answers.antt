use Rattle.inspect.proofs.StoreLaws.{added, room_as, room_first, room_rest, added_as}
use Rattle.inspect.proofs.ColumnLaws.{column_room, fraction_column}
use mathlib.Core.Path.{sym}
use Rattle.inspect.proofs.columns.put_fraction.Goals as goal

pub put_text-requires : goal.put_text-requires
put_text-requires c = column_room _ c.requires

pub put_number-requires : goal.put_number-requires
put_number-requires c = room_rest (room_first _ (room_first _ (room_as (sym (fraction_column _ _)) c.requires))) c.put_text.ensures

pub put_text-requires-2 : goal.put_text-requires-2
put_text-requires-2 c = room_rest (room_first _ (room_as (sym (fraction_column _ _)) c.requires)) (added c.put_text.ensures c.put_number.ensures)

pub put_number-requires-2 : goal.put_number-requires-2
put_number-requires-2 c = room_rest (room_as (sym (fraction_column _ _)) c.requires) (added (added c.put_text.ensures c.put_number.ensures) c.put_text-2.ensures)

pub returns : goal.returns
returns c = added_as (fraction_column _ _) (added (added (added c.put_text.ensures c.put_number.ensures) c.put_text-2.ensures) c.put_number-2.ensures)
