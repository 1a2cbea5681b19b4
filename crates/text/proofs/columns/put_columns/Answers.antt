use Rattle.text.proofs.ColumnLaws.{columns_are, shares_void, shares_word, proportion_word}
use Rattle.text.proofs.NumberLaws.{chain, room_rest, room_first, room_as, stored_as}
use mathlib.Core.Path.{sym}
use Rattle.text.proofs.columns.put_columns.Goals as goal

pub put_hexadecimal-tab-requires : goal.put_hexadecimal-tab-requires
put_hexadecimal-tab-requires c = room_first _ (room_first _ (room_as (sym (columns_are _ _ c.word.ensures)) c.requires.1))

pub put_byte-behind-requires : goal.put_byte-behind-requires
put_byte-behind-requires c = room_rest (room_first _ (room_as (sym (columns_are _ _ c.word.ensures)) c.requires.1)) c.put_hexadecimal-tab.ensures

pub put_text-requires : goal.put_text-requires
put_text-requires c = room_as (sym (shares_void _ c.in-Void.is)) (room_rest (room_as (sym (columns_are _ _ c.word.ensures)) c.requires.1) (chain c.put_hexadecimal-tab.ensures c.put_byte-behind.ensures))

pub put_shares-requires : goal.put_shares-requires
put_shares-requires c =
    (proportion_word _ _ c.in-Word.is c.requires.0, room_as (sym (shares_word _ _ c.in-Word.is)) (room_rest (room_as (sym (columns_are _ _ c.word.ensures)) c.requires.1) (chain c.put_hexadecimal-tab.ensures c.put_byte-behind.ensures)))

pub returns-in-Void : goal.returns-in-Void
returns-in-Void c =
    stored_as (columns_are _ _ c.word.ensures)
    (chain (chain c.put_hexadecimal-tab.ensures c.put_byte-behind.ensures) (stored_as (shares_void _ c.in-Void.is) c.put_text.ensures))

pub returns-in-Word : goal.returns-in-Word
returns-in-Word c =
    stored_as (columns_are _ _ c.word.ensures)
    (chain (chain c.put_hexadecimal-tab.ensures c.put_byte-behind.ensures) (stored_as (shares_word _ _ c.in-Word.is) c.put_shares.ensures))
