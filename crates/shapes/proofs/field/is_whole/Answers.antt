use mathlib.Core.Path.{◌∙◌}
use Rattle.shapes.proofs.FieldLaws.{whole_empty, whole_zero, whole_digits}
use Rattle.shapes.proofs.field.is_whole.Goals as goal

pub returns-then-is_empty : goal.returns-then-is_empty
returns-then-is_empty c = whole_empty _ c.if-is_empty.ensures

pub returns-then-field-eq48 : goal.returns-then-field-eq48
returns-then-field-eq48 c = whole_zero _ c.if-is_empty.ensures c.if-field-eq48.true

pub returns : goal.returns
returns c = c.are_digits.ensures ∙ whole_digits _ c.if-is_empty.ensures c.if-field-eq48.false
