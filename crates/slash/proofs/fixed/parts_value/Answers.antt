use native.Mathlib.Omega.{arith}
use Rattle.slash.proofs.ReadingLaws.{fixed_zero, fixed_nan_zero, fixed_infinity, fixed_nan_infinity, fixed_fraction}
use Rattle.slash.proofs.fixed.parts_value.Goals as goal

pub returns-then-d-eq1 : goal.returns-then-d-eq1
returns-then-d-eq1 c = fixed_zero _ _ _ c.if-n-eq0.true (omega (arith, c.if-d-eq1.true))

pub returns-else-d-eq1 : goal.returns-else-d-eq1
returns-else-d-eq1 c = fixed_nan_zero _ _ _ c.if-n-eq0.true (λ e. omega (arith, e, c.if-d-eq1.false))

pub returns-then-n-eq1 : goal.returns-then-n-eq1
returns-then-n-eq1 c = fixed_infinity _ _ _ c.if-n-eq0.false c.if-d-eq0.true c.if-n-eq1.true

pub returns-else-n-eq1 : goal.returns-else-n-eq1
returns-else-n-eq1 c = fixed_nan_infinity _ _ _ c.if-n-eq0.false c.if-d-eq0.true c.if-n-eq1.false

pub returns-else-d-eq0 : goal.returns-else-d-eq0
returns-else-d-eq0 c = fixed_fraction _ _ _ c.if-n-eq0.false c.if-d-eq0.false
