use Rattle.text.proofs.LineLaws.{line_parts}
use Rattle.text.proofs.NumberLaws.{chain, room_rest, room_first, room_as, stored_as}
use mathlib.Core.Path.{sym}
use Rattle.text.proofs.line.put_whole.Goals as goal

pub put_name-tab-requires : goal.put_name-tab-requires
put_name-tab-requires c = (c.requires.0, room_first _ (room_first _ (room_first _ (room_as (sym (line_parts _ _)) c.requires.2))))

pub put_byte-columns-requires : goal.put_byte-columns-requires
put_byte-columns-requires c = room_rest (room_first _ (room_first _ (room_as (sym (line_parts _ _)) c.requires.2))) c.put_name-tab.ensures

pub put_columns-end-requires : goal.put_columns-end-requires
put_columns-end-requires c = (c.requires.1, room_rest (room_first _ (room_as (sym (line_parts _ _)) c.requires.2)) (chain c.put_name-tab.ensures c.put_byte-columns.ensures))

pub put_byte-requires : goal.put_byte-requires
put_byte-requires c = room_rest (room_as (sym (line_parts _ _)) c.requires.2) (chain (chain c.put_name-tab.ensures c.put_byte-columns.ensures) c.put_columns-end.ensures)

pub returns : goal.returns
returns c = stored_as (line_parts _ _) (chain (chain (chain c.put_name-tab.ensures c.put_byte-columns.ensures) c.put_columns-end.ensures) c.put_byte.ensures)
