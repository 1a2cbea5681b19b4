use mathlib.Core.Path.{◌∙◌}
use Rattle.shapes.proofs.FieldLaws.{or_yes, or_no}
use Rattle.shapes.proofs.ShapeLaws.{named_is}
use Rattle.shapes.proofs.shape.is_named.Goals as goal

pub returns-then-is_whole : goal.returns-then-is_whole
returns-then-is_whole c = or_yes c.is_whole.ensures _ c.if-is_whole.true ∙ named_is _

pub returns-else-is_whole : goal.returns-else-is_whole
returns-else-is_whole c = or_no c.is_whole.ensures c.if-is_whole.false c.is_same.ensures ∙ named_is _
