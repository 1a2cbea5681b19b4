use Rattle.text.proofs.NumberLaws.{stored_as, room_as, decimal_small, decimal_two}
use mathlib.Core.Path.{sym}
use Rattle.text.proofs.number.put_short.Goals as goal

pub put_byte-requires : goal.put_byte-requires
put_byte-requires c = room_as (sym (decimal_small _ _ c.if-n-lt10.true c.digit.ensures)) c.requires.1

pub put_two_digits-requires : goal.put_two_digits-requires
put_two_digits-requires c = (c.requires.0, room_as (sym (decimal_two _ c.if-n-lt10.false c.requires.0)) c.requires.1)

pub returns-then-n-lt10 : goal.returns-then-n-lt10
returns-then-n-lt10 c = stored_as (decimal_small _ _ c.if-n-lt10.true c.digit.ensures) c.put_byte.ensures

pub returns-else-n-lt10 : goal.returns-else-n-lt10
returns-else-n-lt10 c = stored_as (decimal_two _ c.if-n-lt10.false c.requires.0) c.put_two_digits.ensures
