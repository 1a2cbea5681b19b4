use Rattle.text.proofs.ColumnLaws.{percentage_digits}
use Rattle.text.proofs.NumberLaws.{stored_as, chain, room_rest, room_first, room_as}
use native.Mathlib.Omega.{arith}
use mathlib.Core.Path.{refl, sym}
use Rattle.text.proofs.columns.put_percentage.Goals as goal

pub put_decimal-point-requires : goal.put_decimal-point-requires
put_decimal-point-requires c = (omega (arith, c.requires.0), room_first _ (room_first _ (room_as (sym (percentage_digits _ _ refl)) c.requires.1)))

pub put_byte-tenths-requires : goal.put_byte-tenths-requires
put_byte-tenths-requires c = room_rest (room_first _ (room_as (sym (percentage_digits _ _ refl)) c.requires.1)) c.put_decimal-point.ensures

pub put_byte-requires : goal.put_byte-requires
put_byte-requires c = room_rest (room_as (sym (percentage_digits _ _ c.digit.ensures)) c.requires.1) (chain c.put_decimal-point.ensures c.put_byte-tenths.ensures)

pub returns : goal.returns
returns c = stored_as (percentage_digits _ _ c.digit.ensures) (chain (chain c.put_decimal-point.ensures c.put_byte-tenths.ensures) c.put_byte.ensures)
