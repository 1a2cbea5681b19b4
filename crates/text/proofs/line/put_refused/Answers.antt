use Rattle.text.proofs.LineLaws.{refused_line_lem, refused_room}
use Rattle.text.proofs.NumberLaws.{chain, room_rest, room_first, room_as, stored_as}
use mathlib.Core.Path.{sym}
use Rattle.text.proofs.line.put_refused.Goals as goal

pub put_text-number-requires : goal.put_text-number-requires
put_text-number-requires c = refused_room _ _ c.requires

pub put_number-tab-requires : goal.put_number-tab-requires
put_number-tab-requires c = room_rest (room_first _ (room_first _ (room_first _ (room_as (sym (refused_line_lem _ _)) c.requires)))) c.put_text-number.ensures

pub put_byte-place-requires : goal.put_byte-place-requires
put_byte-place-requires c = room_rest (room_first _ (room_first _ (room_as (sym (refused_line_lem _ _)) c.requires))) (chain c.put_text-number.ensures c.put_number-tab.ensures)

pub put_number-end-requires : goal.put_number-end-requires
put_number-end-requires c = room_rest (room_first _ (room_as (sym (refused_line_lem _ _)) c.requires)) (chain (chain c.put_text-number.ensures c.put_number-tab.ensures) c.put_byte-place.ensures)

pub put_byte-requires : goal.put_byte-requires
put_byte-requires c = room_rest (room_as (sym (refused_line_lem _ _)) c.requires) (chain (chain (chain c.put_text-number.ensures c.put_number-tab.ensures) c.put_byte-place.ensures) c.put_number-end.ensures)

pub returns : goal.returns
returns c = stored_as (refused_line_lem _ _) (chain (chain (chain (chain c.put_text-number.ensures c.put_number-tab.ensures) c.put_byte-place.ensures) c.put_number-end.ensures) c.put_byte.ensures)
