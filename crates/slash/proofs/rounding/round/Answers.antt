use mathlib.Core.Path.{sym, ◌∙◌}
use Rattle.slash.proofs.AnswerLaws.{passed_on, plain_stop}
use Rattle.slash.proofs.FormatLaws.{check_known}
use Rattle.slash.proofs.RoundingLaws.{ratio_refused, ratio_zero, ratio_done}
use native.Mathlib.Omega.{arith}
use Rattle.slash.proofs.rounding.round.Goals as goal

pub returns-in_err-check-clause-rounded : goal.returns-in_err-check-clause-rounded
returns-in_err-check-clause-rounded c = passed_on _ c.from_residual.ensures ∙ ratio_refused _ _ _ (sym c.in_err-check.was ∙ c.check.ensures)

pub returns-then-d-eq0 : goal.returns-then-d-eq0
returns-then-d-eq0 c =
    record { rounded = plain_stop _ 6 c.plain.ensures (ratio_zero _ _ _ (check_known _ c.check.ensures c.in_ok-check.was) c.if-d-eq0.true); best = tt }

pub invariant_of-last_held : goal.invariant_of-last_held
invariant_of-last_held c = record { is_known = check_known _ c.check.ensures c.in_ok-check.was }

pub last_held-requires : goal.last_held-requires
last_held-requires c = omega arith

pub returns : goal.returns
returns c =
    record { rounded = ratio_done _ _ _ (check_known _ c.check.ensures c.in_ok-check.was) c.if-d-eq0.false _ c.last_held.ensures.rounded; best = c.last_held.ensures.best }
