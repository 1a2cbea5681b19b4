use Rattle.inspect.proofs.StoreLaws.{room_as, added_as}
use Rattle.inspect.proofs.ColumnLaws.{sign_minus, sign_plus}
use mathlib.Core.Path.{sym}
use Rattle.inspect.proofs.columns.put_sign.Goals as goal

pub put_text-requires : goal.put_text-requires
put_text-requires c = room_as (sym (sign_minus _ c.if-negative.true)) c.requires

pub put_text-requires-else-negative : goal.put_text-requires-else-negative
put_text-requires-else-negative c = room_as (sym (sign_plus _ c.if-negative.false)) c.requires

pub returns-then-negative : goal.returns-then-negative
returns-then-negative c = added_as (sign_minus _ c.if-negative.true) c.put_text.ensures

pub returns-else-negative : goal.returns-else-negative
returns-else-negative c = added_as (sign_plus _ c.if-negative.false) c.put_text-else-negative.ensures
