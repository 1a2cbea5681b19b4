use Rattle.std.proofs.Common.{sym, ◌∙◌, arith, ne_eqb}
use Rattle.loading.proofs.LineLaws.{number_none, number_differs, number_before, number_long, number_one}
use Rattle.loading.proofs.line.is_number.Goals as goal

pub returns-in_default : goal.returns-in_default
returns-in_default c = sym (c.loop-m.invariant ∙ number_none _ c.loop-m-test.true _ c.in_default.ensures.cases)

pub returns-then-last-m : goal.returns-then-last-m
returns-then-last-m c = sym (c.loop-m.invariant ∙ number_differs _ c.loop-m-test.true _ _ _ c.in-Some.ensures.cases.0 c.if-last-m.true)

pub loop-m-preserved : goal.loop-m-preserved
loop-m-preserved c = c.loop-m.invariant ∙ number_before _ c.loop-m-test.true _ _ _ c.in-Some.ensures.cases.0 (omega arith)

pub returns-then-front-eq1 : goal.returns-then-front-eq1
returns-then-front-eq1 c = number_one _ _ (omega arith) c.if-front-eq1.true ∙ sym c.loop-m.invariant

pub returns-else-front-eq1 : goal.returns-else-front-eq1
returns-else-front-eq1 c = ne_eqb _ _ c.if-front-eq1.false ∙ number_long _ _ c.loop-m-test.false c.if-front-eq1.false ∙ sym c.loop-m.invariant
