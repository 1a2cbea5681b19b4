use Rattle.inspect.proofs.StoreLaws.{added, room_as, room_rest, added_as}
use Rattle.inspect.proofs.ColumnLaws.{column_room, size_none, size_some}
use mathlib.Core.Path.{sym}
use Rattle.inspect.proofs.columns.put_size.Goals as goal

pub put_text-requires : goal.put_text-requires
put_text-requires c = room_as (sym (size_none _ _ c.if-d-eq0.true)) c.requires.2

pub put_text-requires-else-d-eq0 : goal.put_text-requires-else-d-eq0
put_text-requires-else-d-eq0 c = column_room _ c.requires.2

pub put_places-requires : goal.put_places-requires
put_places-requires c = room_rest (room_as (sym (size_some _ _ c.if-d-eq0.false _ c.in_millionths.ensures)) c.requires.2) c.put_text-else-d-eq0.ensures

pub returns-then-d-eq0 : goal.returns-then-d-eq0
returns-then-d-eq0 c = added_as (size_none _ _ c.if-d-eq0.true) c.put_text.ensures

pub returns-else-d-eq0 : goal.returns-else-d-eq0
returns-else-d-eq0 c = added_as (size_some _ _ c.if-d-eq0.false _ c.in_millionths.ensures) (added c.put_text-else-d-eq0.ensures c.put_places.ensures)
