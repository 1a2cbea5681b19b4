use Rattle.text.proofs.LineLaws.{is_printable_lem, line_no_room, line_no_name, line_not_printable, line_room, line_stored}
use native.Mathlib.Omega.{arith}
use mathlib.Core.Path.{sym, ◌∙◌}
use Rattle.text.proofs.line.put_line.Goals as goal

pub returns-then-out-at : goal.returns-then-out-at
returns-then-out-at c = line_no_room _ _ _ _ (omega (arith, c.if-out-at.true))

pub returns-then-out-at-lt-LONGEST_LINE : goal.returns-then-out-at-lt-LONGEST_LINE
returns-then-out-at-lt-LONGEST_LINE c = line_no_room _ _ _ _ (omega (arith, c.if-out-at-lt-LONGEST_LINE.true))

pub returns-then-not-is_name : goal.returns-then-not-is_name
returns-then-not-is_name c = line_no_name _ _ _ _ (sym c.is_name.ensures ∙ c.if-not-is_name.true)

pub returns-then-not-is_printable : goal.returns-then-not-is_printable
returns-then-not-is_printable c = line_not_printable _ _ _ _ (sym c.is_printable.ensures ∙ c.if-not-is_printable.true)

pub put_whole-requires : goal.put_whole-requires
put_whole-requires c = (sym c.is_name.ensures ∙ c.if-not-is_name.false, is_printable_lem _ (sym c.is_printable.ensures ∙ c.if-not-is_printable.false), line_room _ _ _ _ (omega (arith, c.if-out-at-lt-LONGEST_LINE.false, c.if-out-at.false)) (sym c.is_name.ensures ∙ c.if-not-is_name.false) (sym c.is_printable.ensures ∙ c.if-not-is_printable.false))

pub returns : goal.returns
returns c = line_stored _ _ _ _ (omega (arith, c.if-out-at-lt-LONGEST_LINE.false, c.if-out-at.false)) (sym c.is_name.ensures ∙ c.if-not-is_name.false) (sym c.is_printable.ensures ∙ c.if-not-is_printable.false) c.put_whole.ensures
