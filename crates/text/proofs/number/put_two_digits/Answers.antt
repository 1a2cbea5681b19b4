use Rattle.text.proofs.NumberLaws.{stored_as, chain, room_rest, room_first, room_as, two_digits_lem}
use mathlib.Core.Path.{refl, sym}
use Rattle.text.proofs.number.put_two_digits.Goals as goal

pub put_byte-last-requires : goal.put_byte-last-requires
put_byte-last-requires c = room_first _ (room_as (sym (two_digits_lem _ _ _ c.digit.ensures refl)) c.requires.1)

pub put_byte-requires : goal.put_byte-requires
put_byte-requires c = room_rest (room_as (sym (two_digits_lem _ _ _ c.digit.ensures c.digit-2.ensures)) c.requires.1) c.put_byte-last.ensures

pub returns : goal.returns
returns c = stored_as (two_digits_lem _ _ _ c.digit.ensures c.digit-2.ensures) (chain c.put_byte-last.ensures c.put_byte.ensures)
