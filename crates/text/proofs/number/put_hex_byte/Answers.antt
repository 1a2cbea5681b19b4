use Rattle.text.proofs.NumberLaws.{stored_as, chain, room_rest, room_first, room_as, hex_byte}
use mathlib.Core.Path.{refl, sym}
use Rattle.text.proofs.number.put_hex_byte.Goals as goal

pub put_byte-last-requires : goal.put_byte-last-requires
put_byte-last-requires c = room_first _ (room_as (sym (hex_byte _ _ _ c.hex_digit.ensures refl)) c.requires)

pub put_byte-requires : goal.put_byte-requires
put_byte-requires c = room_rest (room_as (sym (hex_byte _ _ _ c.hex_digit.ensures c.hex_digit-2.ensures)) c.requires) c.put_byte-last.ensures

pub returns : goal.returns
returns c = stored_as (hex_byte _ _ _ c.hex_digit.ensures c.hex_digit-2.ensures) (chain c.put_byte-last.ensures c.put_byte.ensures)
