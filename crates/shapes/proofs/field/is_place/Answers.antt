use mathlib.Core.Path.{refl}
use borrow.Author.Tests.{eq-eqb, ne_eqb}
use Rattle.shapes.specs.Fields.{is_place}
use Rattle.shapes.proofs.field.is_place.Goals as goal

pub returns-then-field-eq1 : goal.returns-then-field-eq1
unfolding is_place
returns-then-field-eq1 c = rw (eq-eqb _ _ c.if-field-eq1.true) c.are_digits.ensures

pub returns-else-field-eq1 : goal.returns-else-field-eq1
unfolding is_place
returns-else-field-eq1 c = rw (ne_eqb _ _ c.if-field-eq1.false) refl
