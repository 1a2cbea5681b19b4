use Rattle.text.proofs.NumberLaws.{stored_as, chain, room_rest, room_first, room_as, decimal_hundreds, decimal_five, five_room}
use native.Mathlib.Omega.{arith}
use native.Mathlib.Nat.{mod-lt}
use mathlib.Core.Path.{sym}
use Rattle.text.proofs.number.put_decimal.Goals as goal

pub put_short-requires : goal.put_short-requires
put_short-requires c = (c.if-n-lt100.true, c.requires.1)

pub put_short-last-requires : goal.put_short-last-requires
put_short-last-requires c = (omega (arith, c.if-n-lt10000.true), room_first _ (room_as (sym (decimal_hundreds _ c.if-n-lt100.false)) c.requires.1))

pub put_two_digits-requires : goal.put_two_digits-requires
put_two_digits-requires c = (mod-lt _ (omega arith), room_rest (room_as (sym (decimal_hundreds _ c.if-n-lt100.false)) c.requires.1) c.put_short-last.ensures)

pub digit-requires : goal.digit-requires
digit-requires c = omega (arith, c.requires.0)

pub put_byte-middle-requires : goal.put_byte-middle-requires
put_byte-middle-requires c = five_room _ _ c.if-n-lt10000.false c.requires.0 c.digit.ensures c.requires.1

pub put_two_digits-last-requires : goal.put_two_digits-last-requires
put_two_digits-last-requires c = (mod-lt _ (omega arith), room_rest (room_first _ (room_as (sym (decimal_five _ _ c.if-n-lt10000.false c.requires.0 c.digit.ensures)) c.requires.1)) c.put_byte-middle.ensures)

pub put_two_digits-requires-else-n-lt10000 : goal.put_two_digits-requires-else-n-lt10000
put_two_digits-requires-else-n-lt10000 c = (mod-lt _ (omega arith), room_rest (room_as (sym (decimal_five _ _ c.if-n-lt10000.false c.requires.0 c.digit.ensures)) c.requires.1) (chain c.put_byte-middle.ensures c.put_two_digits-last.ensures))

pub returns-then-n-lt100 : goal.returns-then-n-lt100
returns-then-n-lt100 c = c.put_short.ensures

pub returns-then-n-lt10000 : goal.returns-then-n-lt10000
returns-then-n-lt10000 c = stored_as (decimal_hundreds _ c.if-n-lt100.false) (chain c.put_short-last.ensures c.put_two_digits.ensures)

pub returns-else-n-lt10000 : goal.returns-else-n-lt10000
returns-else-n-lt10000 c = stored_as (decimal_five _ _ c.if-n-lt10000.false c.requires.0 c.digit.ensures) (chain (chain c.put_byte-middle.ensures c.put_two_digits-last.ensures) c.put_two_digits-else-n-lt10000.ensures)
