use mathlib.Core.Path.{◌∙◌}
use Rattle.shapes.proofs.FieldLaws.{fraction_none, fraction_is, and_yes, and_no}
use Rattle.shapes.proofs.field.is_fraction.Goals as goal

pub returns-then-is_whole : goal.returns-then-is_whole
returns-then-is_whole c = and_yes c.is_whole.ensures c.if-is_whole.true c.is_whole-then-is_whole.ensures ∙ fraction_is _ _ _ c.in-Some.ensures

pub returns-else-is_whole : goal.returns-else-is_whole
returns-else-is_whole c = and_no c.is_whole.ensures _ c.if-is_whole.false ∙ fraction_is _ _ _ c.in-Some.ensures

pub returns-in-None : goal.returns-in-None
returns-in-None c = fraction_none _ c.in-None.ensures
