use native.Mathlib.Omega.{arith}
use Rattle.listing.proofs.StepLaws.{left_none, left_whole, left_behind}
use Rattle.listing.proofs.piece.left_to_next.Goals as goal

pub returns-then-used-eq0 : goal.returns-then-used-eq0
returns-then-used-eq0 c = left_none _ _ (omega (arith, c.if-used-eq0.true))

pub returns-in-Closed : goal.returns-in-Closed
returns-in-Closed c = left_whole _ _ c.in-Closed.is

pub returns-in_default : goal.returns-in_default
returns-in_default c = left_behind _ _ (λ e. omega (arith, e, c.if-used-eq0.false)) c.in_default.not-Closed
