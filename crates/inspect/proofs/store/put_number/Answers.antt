use Rattle.inspect.proofs.StoreLaws.{digits_decimal, room_as, added_as}
use mathlib.Core.Path.{◌∙◌, sym}
use Rattle.inspect.proofs.store.put_number.Goals as goal

pub put_text-requires : goal.put_text-requires
put_text-requires c = room_as (sym (c.decimal-count.ensures.digits ∙ digits_decimal _ _ c.decimal-count.ensures.len)) c.requires

pub returns : goal.returns
returns c = added_as (c.decimal-count.ensures.digits ∙ digits_decimal _ _ c.decimal-count.ensures.len) c.put_text.ensures
