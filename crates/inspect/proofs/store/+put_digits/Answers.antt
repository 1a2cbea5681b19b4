-- `inspect::store::put_digits`, which calls itself.
use Rattle.inspect.proofs.StoreLaws.{last_none, last_more, added, added_as, added_none, room_rest, room_first, room_as}
use native.Mathlib.Omega.{arith}
use mathlib.Core.Path.{sym, refl}
use Rattle.inspect.proofs.store.+put_digits.Goals as goal

pub returns-then-count-eq0 : goal.returns-then-count-eq0
returns-then-count-eq0 t c = added_as (last_none _ _ _ c.if-count-eq0.true) added_none

pub put_digits-requires : goal.put_digits-requires
put_digits-requires t c =
    (omega arith, (c.requires.0, c.requires.1, room_first _ (room_as (sym (last_more _ _ _ _ c.if-count-eq0.false refl)) c.requires.2)))

pub put_text-requires : goal.put_text-requires
put_text-requires t c = room_rest (room_as (sym (last_more _ _ _ _ c.if-count-eq0.false c.digit.ensures)) c.requires.2) c.put_digits.ensures

pub returns : goal.returns
returns t c = added_as (last_more _ _ _ _ c.if-count-eq0.false c.digit.ensures) (added c.put_digits.ensures c.put_text.ensures)
