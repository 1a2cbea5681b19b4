use Rattle.inspect.proofs.StoreLaws.{added, added_as, room_as, room_first, room_rest}
use Rattle.inspect.proofs.WordLaws.{columns_pieces, parts_small}
use mathlib.Core.Path.{sym}
use Rattle.slash.proofs.CanonicalLaws.{read_known}
use Rattle.inspect.proofs.word.put_columns.Goals as goal

pub digit_count-requires : goal.digit_count-requires
digit_count-requires c = read_known _ _ _ c.requires.0

pub put_stored-requires : goal.put_stored-requires
put_stored-requires c = room_first _ (room_first _ (room_first _ (room_as (sym (columns_pieces _ _ _ c.requires.0 _ c.parts_of-p.ensures _ c.digit_count.ensures)) c.requires.1)))

pub put_size-requires : goal.put_size-requires
put_size-requires c =
    let small = parts_small _ _ _ c.requires.0 _ c.parts_of-p.ensures in
    (small.0, small.1, room_rest (room_first _ (room_first _ (room_as (sym (columns_pieces _ _ _ c.requires.0 _ c.parts_of-p.ensures _ c.digit_count.ensures)) c.requires.1))) c.put_stored.ensures)

pub put_quotients-requires : goal.put_quotients-requires
put_quotients-requires c = room_rest (room_first _ (room_as (sym (columns_pieces _ _ _ c.requires.0 _ c.parts_of-p.ensures _ c.digit_count.ensures)) c.requires.1)) (added c.put_stored.ensures c.put_size.ensures)

pub put_text-requires : goal.put_text-requires
put_text-requires c = room_rest (room_as (sym (columns_pieces _ _ _ c.requires.0 _ c.parts_of-p.ensures _ c.digit_count.ensures)) c.requires.1) (added (added c.put_stored.ensures c.put_size.ensures) c.put_quotients.ensures)

pub returns : goal.returns
returns c = added_as (columns_pieces _ _ _ c.requires.0 _ c.parts_of-p.ensures _ c.digit_count.ensures) (added (added (added c.put_stored.ensures c.put_size.ensures) c.put_quotients.ensures) c.put_text.ensures)
