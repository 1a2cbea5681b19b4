use Rattle.recording.proofs.OpeningLaws.{rate_one, rate_three, rate_other, rate_named}
use native.Mathlib.Omega.{arith}
use mathlib.Core.Path.{ap, sym, ◌∙◌}
use Rattle.std.specs.Prelude.{Err}
use Rattle.recording.proofs.opening.read_rate.Goals as goal

pub returns-then-i-line : goal.returns-then-i-line
returns-then-i-line c = ap Err c.stop_at_first.ensures ∙ rate_one _ _ _ c.length_before-i.ensures.defined c.if-i-line.true

pub returns-then-length_before-rest : goal.returns-then-length_before-rest
returns-then-length_before-rest c = ap Err c.stop_at_first-then-length_before-rest.ensures ∙ rate_three _ _ _ c.length_before-i.ensures.defined (omega arith) _ c.length_before.ensures.defined c.if-length_before-rest.true

pub returns-then-not-is_same : goal.returns-then-not-is_same
returns-then-not-is_same c = ap Err c.stop_at_first-then-not-is_same.ensures ∙ rate_other _ _ _ c.length_before-i.ensures.defined (omega arith) _ c.length_before.ensures.defined c.if-length_before-rest.false (sym c.is_same.ensures ∙ c.if-not-is_same.true)

pub returns : goal.returns
returns c = rate_named _ _ _ c.length_before-i.ensures.defined (omega arith) _ c.length_before.ensures.defined c.if-length_before-rest.false (sym c.is_same.ensures ∙ c.if-not-is_same.false) _ c.read_tick.ensures _ c.from_rate.ensures
