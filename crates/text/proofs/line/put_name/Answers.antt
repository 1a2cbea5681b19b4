use Rattle.text.proofs.LineLaws.{name_number, name_all, number_small}
use Rattle.text.proofs.NumberLaws.{stored_as, room_as}
use mathlib.Core.Path.{sym}
use Rattle.text.proofs.line.put_name.Goals as goal

pub put_decimal-requires : goal.put_decimal-requires
put_decimal-requires c = (number_small _ _ c.in-Number.is c.requires.0, room_as (sym (name_number _ _ c.in-Number.is)) c.requires.1)

pub put_text-requires : goal.put_text-requires
put_text-requires c = room_as (sym (name_all _ c.in-All.is)) c.requires.1

pub returns-in-Number : goal.returns-in-Number
returns-in-Number c = stored_as (name_number _ _ c.in-Number.is) c.put_decimal.ensures

pub returns-in-All : goal.returns-in-All
returns-in-All c = stored_as (name_all _ c.in-All.is) c.put_text.ensures
