use mathlib.Core.Path.{◌∙◌}
use Rattle.shapes.proofs.FieldLaws.{and_yes, and_no}
use Rattle.shapes.proofs.ShapeLaws.{columns_hyphens, columns_numbers}
use Rattle.shapes.proofs.shape.are_columns.Goals as goal
use Rattle.shapes.proofs.shape.are_columns.Goals.{then-is_same, else-is_same}

pub returns-then-is_same-2 : goal.returns-then-is_same-2
returns-then-is_same-2 c =
    elim c.if-is_same.branch [
      | then-is_same w ↦ columns_hyphens _ _ (w.value-is ∙ and_yes c.is_same.ensures w.if-is_same.true w.is_same-then-is_same.ensures) c.if-is_same-2.true
      | else-is_same w ↦ columns_hyphens _ _ (w.value-is ∙ and_no c.is_same.ensures _ w.if-is_same.false) c.if-is_same-2.true
    ]

pub returns-then-is_fraction : goal.returns-then-is_fraction
returns-then-is_fraction c =
    let numbers = and_yes c.is_fraction.ensures c.if-is_fraction.true c.is_decimal.ensures in
    elim c.if-is_same.branch [
      | then-is_same w ↦ columns_numbers _ _ (w.value-is ∙ and_yes c.is_same.ensures w.if-is_same.true w.is_same-then-is_same.ensures) c.if-is_same-2.false numbers
      | else-is_same w ↦ columns_numbers _ _ (w.value-is ∙ and_no c.is_same.ensures _ w.if-is_same.false) c.if-is_same-2.false numbers
    ]

pub returns-else-is_fraction : goal.returns-else-is_fraction
returns-else-is_fraction c =
    let numbers = and_no c.is_fraction.ensures _ c.if-is_fraction.false in
    elim c.if-is_same.branch [
      | then-is_same w ↦ columns_numbers _ _ (w.value-is ∙ and_yes c.is_same.ensures w.if-is_same.true w.is_same-then-is_same.ensures) c.if-is_same-2.false numbers
      | else-is_same w ↦ columns_numbers _ _ (w.value-is ∙ and_no c.is_same.ensures _ w.if-is_same.false) c.if-is_same-2.false numbers
    ]
