use Rattle.std.proofs.Common.{◌∙◌}
use Rattle.slash.proofs.AnswerLaws.{passed_on}
use Rattle.loading.proofs.TextLaws.{turn_more, reading_start, reading_stopped, reading_closed, reading_next}
use Rattle.loading.proofs.load.check.Goals as goal

pub loop-used-init : goal.loop-used-init
loop-used-init c = reading_start _

pub returns-in_err-used : goal.returns-in_err-used
returns-in_err-used c = passed_on _ c.from_residual.ensures ∙ reading_stopped c.loop-used.invariant c.in_err-used.ensures

pub returns-in-Closed : goal.returns-in-Closed
returns-in-Closed c = reading_closed c.loop-used.invariant c.in_ok-used.ensures c.in-Closed.is

pub loop-used-preserved : goal.loop-used-preserved
loop-used-preserved c = reading_next c.loop-used.invariant (turn_more _ c.in-More.is c.in_ok-used.ensures)
