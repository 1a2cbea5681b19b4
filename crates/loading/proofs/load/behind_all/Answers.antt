use Rattle.std.proofs.Common.{ap}
use Rattle.slash.proofs.AnswerLaws.{passed_on}
use Rattle.loading.proofs.TextLaws.{line_end, line_none, end_stop, end_none, end_unended, end_other, end_line}
use Rattle.std.specs.Prelude.{Err}
use Rattle.loading.proofs.load.behind_all.Goals as goal

pub returns-in_default : goal.returns-in_default
returns-in_default c = let none = line_none c.args.n c.args.text.now _ c.in_default.is c.in_ok-line.ensures in end_none _ none.0 _ none.1

pub returns-in_err-line : goal.returns-in_err-line
returns-in_err-line c = end_stop _ _ _ (passed_on _ c.from_residual.ensures) (end_unended _ c.in_err-line.ensures.1 _ c.in_err-line.ensures.0 c.in_err-line.ensures.2)

pub returns-in-Some-shape_of : goal.returns-in-Some-shape_of
returns-in-Some-shape_of c = line_end _ _ _ c.in-Some.is c.in_ok-line.ensures _ (ap Err c.stop_at.ensures) (end_line _ _ c.in-Some.line.ended c.in-Some.line.within _ c.in-Some-shape_of.ensures)

pub returns-in-None : goal.returns-in-None
returns-in-None c = line_end _ _ _ c.in-Some.is c.in_ok-line.ensures _ (ap Err c.stop_at-in-None.ensures) (end_other _ _ c.in-Some.line.ended c.in-Some.line.within _ c.in-None.ensures)
