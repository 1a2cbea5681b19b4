use Rattle.inspect.proofs.StoreLaws.{room_as, added_as}
use Rattle.inspect.proofs.ColumnLaws.{mark_approximate, mark_exact}
use mathlib.Core.Path.{sym}
use Rattle.inspect.proofs.columns.put_mark.Goals as goal

pub put_text-requires : goal.put_text-requires
put_text-requires c = room_as (sym (mark_approximate _ c.if-approximate.true)) c.requires

pub put_text-requires-else-approximate : goal.put_text-requires-else-approximate
put_text-requires-else-approximate c = room_as (sym (mark_exact _ c.if-approximate.false)) c.requires

pub returns-then-approximate : goal.returns-then-approximate
returns-then-approximate c = added_as (mark_approximate _ c.if-approximate.true) c.put_text.ensures

pub returns-else-approximate : goal.returns-else-approximate
returns-else-approximate c = added_as (mark_exact _ c.if-approximate.false) c.put_text-else-approximate.ensures
