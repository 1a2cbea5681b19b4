use Rattle.inspect.proofs.StoreLaws.{added_as, added_none, room_as}
use Rattle.inspect.proofs.QuotientLaws.{quotients_listed, quotients_refused, quotients_within}
use lib.Seq.{length-take-le}
use mathlib.Core.Path.{refl, sym}
use Rattle.inspect.proofs.quotient.put_quotients.Goals as goal

pub slice_bounds-list-end : goal.slice_bounds-list-end
slice_bounds-list-end c = quotients_within _ _ _ refl c.quotients.ensures.counted c.quotients.ensures.stored c.in-Ok.is

pub slice_bounds-put_list-end : goal.slice_bounds-put_list-end
slice_bounds-put_list-end c = sym (length-take-le _ _ (quotients_within _ _ _ refl c.quotients.ensures.counted c.quotients.ensures.stored c.in-Ok.is))

pub put_list-requires : goal.put_list-requires
put_list-requires c = room_as (sym (quotients_listed _ _ _ refl c.quotients.ensures.counted c.quotients.ensures.stored c.in-Ok.is)) c.requires

pub returns-in-Ok : goal.returns-in-Ok
returns-in-Ok c = added_as (quotients_listed _ _ _ refl c.quotients.ensures.counted c.quotients.ensures.stored c.in-Ok.is) c.put_list.ensures

pub returns-in_default : goal.returns-in_default
returns-in_default c = added_as (quotients_refused _ _ _ refl c.quotients.ensures.counted c.in_default.is) added_none
