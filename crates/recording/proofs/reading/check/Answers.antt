use Rattle.std.proofs.Common.{ap, sym, ◌∙◌, arith}
use Rattle.std.specs.Prelude.{Ok}
use Rattle.slash.proofs.AnswerLaws.{passed_on}
use Rattle.recording.proofs.ReadingLaws.{opening_within, checked_rated, check_empty, check_refused}
use Rattle.recording.proofs.reading.check.Goals as goal

pub slice_bounds-check_breaths-count : goal.slice_bounds-check_breaths-count
slice_bounds-check_breaths-count c = omega (arith, opening_within _ (sym c.first_line.ensures ∙ c.in_ok-opening.was ∙ ap Ok c.in-Some.is))

pub slice_bounds-check_breaths-start : goal.slice_bounds-check_breaths-start
slice_bounds-check_breaths-start c = omega (arith, opening_within _ (sym c.first_line.ensures ∙ c.in_ok-opening.was ∙ ap Ok c.in-Some.is))

pub returns-in_err-opening : goal.returns-in_err-opening
returns-in_err-opening c = passed_on _ c.from_residual.ensures ∙ sym (check_refused _ (sym c.first_line.ensures ∙ c.in_err-opening.was))

pub returns-in-Some : goal.returns-in-Some
returns-in-Some c = checked_rated _ _ (sym c.first_line.ensures ∙ c.in_ok-opening.was ∙ ap Ok c.in-Some.is) _ c.check_breaths.ensures

pub returns-in-None : goal.returns-in-None
returns-in-None c = sym (check_empty _ (sym c.first_line.ensures ∙ c.in_ok-opening.was ∙ ap Ok c.in-None.is))
