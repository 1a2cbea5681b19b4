use Rattle.inspect.proofs.StoreLaws.{added, room_as, room_first, room_rest, added_as}
use Rattle.inspect.proofs.ColumnLaws.{stored_pieces}
use mathlib.Core.Path.{sym}
use native.Mathlib.Omega.{arith}
use Rattle.inspect.proofs.columns.put_stored.Goals as goal

pub put_digits-requires : goal.put_digits-requires
put_digits-requires c = (omega arith, omega arith, room_first _ (room_first _ (room_first _ (room_as (sym (stored_pieces _ _ _ _)) c.requires))))

pub put_sign-requires : goal.put_sign-requires
put_sign-requires c = room_rest (room_first _ (room_first _ (room_as (sym (stored_pieces _ _ _ _)) c.requires))) c.put_digits.ensures

pub put_fraction-requires : goal.put_fraction-requires
put_fraction-requires c = room_rest (room_first _ (room_as (sym (stored_pieces _ _ _ _)) c.requires)) (added c.put_digits.ensures c.put_sign.ensures)

pub put_mark-requires : goal.put_mark-requires
put_mark-requires c = room_rest (room_as (sym (stored_pieces _ _ _ _)) c.requires) (added (added c.put_digits.ensures c.put_sign.ensures) c.put_fraction.ensures)

pub returns : goal.returns
returns c = added_as (stored_pieces _ _ _ _) (added (added (added c.put_digits.ensures c.put_sign.ensures) c.put_fraction.ensures) c.put_mark.ensures)
