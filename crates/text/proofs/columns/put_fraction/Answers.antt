use Rattle.text.proofs.NumberLaws.{chain, room_rest, room_first}
use Rattle.text.specs.Columns.{fraction_text}
use Rattle.text.proofs.columns.put_fraction.Goals as goal

pub put_decimal-slash-requires : goal.put_decimal-slash-requires
unfolding fraction_text
put_decimal-slash-requires c = (c.requires.0, room_first _ (room_first _ c.requires.2))

pub put_byte-denominator-requires : goal.put_byte-denominator-requires
unfolding fraction_text
put_byte-denominator-requires c = room_rest (room_first _ c.requires.2) c.put_decimal-slash.ensures

pub put_decimal-requires : goal.put_decimal-requires
unfolding fraction_text
put_decimal-requires c = (c.requires.1, room_rest c.requires.2 (chain c.put_decimal-slash.ensures c.put_byte-denominator.ensures))

pub returns : goal.returns
unfolding fraction_text
returns c = chain (chain c.put_decimal-slash.ensures c.put_byte-denominator.ensures) c.put_decimal.ensures
