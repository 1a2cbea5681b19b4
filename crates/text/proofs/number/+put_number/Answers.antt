-- `text::number::put_number`, which calls itself.
use Rattle.text.proofs.NumberLaws.{stored_as, chain, room_rest, room_first, room_as, decimal_small, decimal_more}
use native.Mathlib.Omega.{arith}
use mathlib.Core.Path.{sym, refl}
use Rattle.text.proofs.number.+put_number.Goals as goal

pub put_byte-requires : goal.put_byte-requires
put_byte-requires t c = room_as (sym (decimal_small _ _ c.if-n-lt10.true c.digit.ensures)) c.requires

pub put_number-last-requires : goal.put_number-last-requires
put_number-last-requires t c = (omega arith, room_first _ (room_as (sym (decimal_more _ _ c.if-n-lt10.false refl)) c.requires))

pub put_byte-requires-else-n-lt10 : goal.put_byte-requires-else-n-lt10
put_byte-requires-else-n-lt10 t c =
    room_rest (room_as (sym (decimal_more _ _ c.if-n-lt10.false c.digit-else-n-lt10.ensures)) c.requires) c.put_number-last.ensures

pub returns-then-n-lt10 : goal.returns-then-n-lt10
returns-then-n-lt10 t c = stored_as (decimal_small _ _ c.if-n-lt10.true c.digit.ensures) c.put_byte.ensures

pub returns-else-n-lt10 : goal.returns-else-n-lt10
returns-else-n-lt10 t c =
    stored_as (decimal_more _ _ c.if-n-lt10.false c.digit-else-n-lt10.ensures) (chain c.put_number-last.ensures c.put_byte-else-n-lt10.ensures)
