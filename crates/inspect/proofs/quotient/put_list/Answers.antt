use Rattle.inspect.proofs.StoreLaws.{added, added_as, room_as, room_first, room_rest}
use Rattle.inspect.proofs.ColumnLaws.{column_room}
use Rattle.inspect.proofs.QuotientLaws.{list_none, list_some}
use mathlib.Core.Path.{sym}
use Rattle.inspect.proofs.quotient.put_list.Goals as goal

pub put_text-requires : goal.put_text-requires
put_text-requires c = room_as (sym (list_none _ c.in_default.len_below)) c.requires

pub returns-in_default : goal.returns-in_default
returns-in_default c = added_as (list_none _ c.in_default.len_below) c.put_text.ensures

pub put_text-requires-2 : goal.put_text-requires-2
put_text-requires-2 c = column_room _ c.requires

pub put_number-requires : goal.put_number-requires
put_number-requires c = room_rest (room_first _ (room_as (sym (list_some _ c.in-len1-up.len_at_least)) c.requires)) c.put_text-2.ensures

pub put_behind_spaces-requires : goal.put_behind_spaces-requires
put_behind_spaces-requires c = room_rest (room_as (sym (list_some _ c.in-len1-up.len_at_least)) c.requires) (added c.put_text-2.ensures c.put_number.ensures)

pub returns : goal.returns
returns c = added_as (list_some _ c.in-len1-up.len_at_least) (added (added c.put_text-2.ensures c.put_number.ensures) c.put_behind_spaces.ensures)
