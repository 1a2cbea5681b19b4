use mathlib.Core.Path.{◌≡◌, sym, ◌∙◌}
use Rattle.shapes.specs.Fields.{in_two}
use Rattle.shapes.specs.Shapes.{is_named, are_columns}
use Rattle.shapes.proofs.FieldLaws.{and_yes, and_no}
use Rattle.shapes.proofs.ShapeLaws.{shape_one, shape_two, shape_word, shape_other, shape_line}
use Rattle.shapes.proofs.shape.shape_of.Goals as goal
use Rattle.text.specs.Scan.{parted}
use mathlib.Core.Bool.{◌&&◌, false}
use Rattle.shapes.proofs.shape.shape_of.Goals.{else-is_named-via-then-is_named+else-are_last, else-is_named-via-else-is_named}

pub returns-in_err-name : goal.returns-in_err-name
returns-in_err-name c = c.from_residual.ensures ∙ shape_one _ c.in_err-name.ensures

pub returns-in_err-digits : goal.returns-in_err-digits
returns-in_err-digits c = c.from_residual-in_err-digits.ensures ∙ shape_two _ _ _ c.in_ok-name.ensures c.in_err-digits.ensures

pub returns-in_err-word : goal.returns-in_err-word
returns-in_err-word c = c.from_residual-in_err-word.ensures ∙ shape_word _ _ _ c.in_ok-name.ensures _ _ c.in_ok-digits.ensures c.in_err-word.ensures

pub returns-then-are_last : goal.returns-then-are_last
returns-then-are_last c =
    shape_line _ _ _ c.in_ok-name.ensures _ _ c.in_ok-digits.ensures c.in_ok-word.ensures
    (sym (and_yes c.is_named.ensures c.if-is_named.true c.if-are_last.ensures))

pub returns-else-is_named : goal.returns-else-is_named
returns-else-is_named c =
    let other = λ (h : false ≡ (is_named c.in_ok-name.name.now && in_two are_columns (parted 9 c.in_ok-digits.last.now))).
    shape_other _ _ _ c.in_ok-name.ensures _ _ c.in_ok-digits.ensures c.in_ok-word.ensures (sym h) in
    elim c.else-is_named.branch [
      | else-is_named-via-then-is_named+else-are_last w ↦ other (and_yes c.is_named.ensures w.if-is_named.true w.if-are_last.ensures)
      | else-is_named-via-else-is_named w ↦ other (sym w.if-is_named.false ∙ and_no c.is_named.ensures _ w.if-is_named.false)
    ]
