use mathlib.Core.Path.{◌∙◌}
use Rattle.shapes.specs.Shapes.{are_columns}
use Rattle.shapes.proofs.FieldLaws.{two_none, two_more, two_parts, cut_none, cut_some}
use Rattle.shapes.proofs.shape.are_last.Goals as goal

pub returns-then-is_none : goal.returns-then-is_none
returns-then-is_none c = c.are_columns.ensures ∙ two_parts are_columns 9 _ _ _ c.in-Some.ensures (cut_none _ _ c.cut-in-Some.ensures c.if-is_none.ensures)

pub returns-else-is_none : goal.returns-else-is_none
returns-else-is_none c = let more = cut_some _ _ c.cut-in-Some.ensures c.if-is_none.ensures in c.if-is_none.false ∙ two_more are_columns 9 _ _ _ c.in-Some.ensures _ _ more.1

pub returns-in-None : goal.returns-in-None
returns-in-None c = two_none _ 9 _ c.in-None.ensures
