use Rattle.text.proofs.NumberLaws.{stored_as, chain, room_rest, room_first, room_as, hex_bytes}
use mathlib.Core.Path.{sym}
use Rattle.text.proofs.number.put_hexadecimal.Goals as goal

pub put_hex_byte-second-requires : goal.put_hex_byte-second-requires
put_hex_byte-second-requires c = room_first _ (room_first _ (room_first _ (room_as (sym (hex_bytes _)) c.requires)))

pub put_hex_byte-third-requires : goal.put_hex_byte-third-requires
put_hex_byte-third-requires c = room_rest (room_first _ (room_first _ (room_as (sym (hex_bytes _)) c.requires))) c.put_hex_byte-second.ensures

pub put_hex_byte-last-requires : goal.put_hex_byte-last-requires
put_hex_byte-last-requires c = room_rest (room_first _ (room_as (sym (hex_bytes _)) c.requires)) (chain c.put_hex_byte-second.ensures c.put_hex_byte-third.ensures)

pub put_hex_byte-requires : goal.put_hex_byte-requires
put_hex_byte-requires c = room_rest (room_as (sym (hex_bytes _)) c.requires) (chain (chain c.put_hex_byte-second.ensures c.put_hex_byte-third.ensures) c.put_hex_byte-last.ensures)

pub returns : goal.returns
returns c = stored_as (hex_bytes _) (chain (chain (chain c.put_hex_byte-second.ensures c.put_hex_byte-third.ensures) c.put_hex_byte-last.ensures) c.put_hex_byte.ensures)
