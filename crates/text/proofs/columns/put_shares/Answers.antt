use Rattle.text.proofs.ColumnLaws.{word_shares, proportion_parts, proportion_percentage}
use Rattle.text.proofs.NumberLaws.{chain, room_rest, room_first, room_as, stored_as}
use mathlib.Core.Path.{refl, sym}
use Rattle.text.proofs.columns.put_shares.Goals as goal

pub word_fraction-x-requires : goal.word_fraction-x-requires
word_fraction-x-requires c = c.requires.0.unsigned

pub put_fraction-tab-requires : goal.put_fraction-tab-requires
put_fraction-tab-requires c =
    let parts = proportion_parts _ _ _ c.word_fraction-x.ensures c.requires.0 in
    (parts.0, parts.1, room_first _ (room_first _ (room_as (sym (word_shares _ _ _ c.word_fraction-x.ensures _ refl)) c.requires.1)))

pub put_byte-percent-requires : goal.put_byte-percent-requires
put_byte-percent-requires c = room_rest (room_first _ (room_as (sym (word_shares _ _ _ c.word_fraction-x.ensures _ refl)) c.requires.1)) c.put_fraction-tab.ensures

pub in_thousandths-requires : goal.in_thousandths-requires
in_thousandths-requires c = proportion_parts _ _ _ c.word_fraction-x.ensures c.requires.0

pub put_percentage-requires : goal.put_percentage-requires
put_percentage-requires c =
    (proportion_percentage _ _ _ c.word_fraction-x.ensures c.requires.0 _ c.in_thousandths.ensures, room_rest (room_as (sym (word_shares _ _ _ c.word_fraction-x.ensures _ c.in_thousandths.ensures)) c.requires.1) (chain c.put_fraction-tab.ensures c.put_byte-percent.ensures))

pub returns : goal.returns
returns c =
    stored_as (word_shares _ _ _ c.word_fraction-x.ensures _ c.in_thousandths.ensures)
    (chain (chain c.put_fraction-tab.ensures c.put_byte-percent.ensures) c.put_percentage.ensures)
