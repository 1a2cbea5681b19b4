use Rattle.relist.proofs.AgainLaws.{again_within}
use mathlib.Core.Path.{sym, ◌∙◌}
use lib.Seq.{length-take-le}
use Rattle.relist.proofs.relist.Goals as goal

pub slice_bounds-listing-end : goal.slice_bounds-listing-end
slice_bounds-listing-end g c = again_within _ _ _ _ (sym c.in-Ok.is ∙ c.print_again.ensures.answered) c.print_again.ensures.stored

pub slice_bounds-write_all-end : goal.slice_bounds-write_all-end
slice_bounds-write_all-end g c = sym (length-take-le _ _ (again_within _ _ _ _ (sym c.in-Ok.is ∙ c.print_again.ensures.answered) c.print_again.ensures.stored))
