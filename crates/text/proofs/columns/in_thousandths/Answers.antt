use Rattle.text.proofs.ColumnLaws.{thousandths_up, thousandths_down}
use mathlib.Core.Path.{refl}
use Prim.Native.Nat.{◌*◌}
use native.Mathlib.Omega.{arith}
use native.Mathlib.Nat.{mod-lt, div-le_self}
use Rattle.text.proofs.columns.in_thousandths.Goals as goal

pub overflow_mul-twice-2 : goal.overflow_mul-twice-2
overflow_mul-twice-2 c = omega (arith, mod-lt (1000 * c.args.n) c.requires.2, c.requires.1)

pub overflow_add-twice : goal.overflow_add-twice
overflow_add-twice c = omega (arith, mod-lt (1000 * c.args.n) c.requires.2, c.requires.1)

pub overflow_add-result : goal.overflow_add-result
overflow_add-result c = omega (arith, div-le_self (1000 * c.args.n) c.args.d, c.requires.0)

pub returns-then-d-twice : goal.returns-then-d-twice
-- (That the rest is below d isn't needed here: it keeps the numbers at which a wrong program is refused to a divisor and a rest of it.)
returns-then-d-twice c =
    let rest = mod-lt (1000 * c.args.n) c.requires.2 in
    thousandths_up c.args.n c.args.d c.requires.2 _ _ refl refl (omega (arith, rest, c.if-d-twice.true))

pub returns-else-d-twice : goal.returns-else-d-twice
returns-else-d-twice c =
    let rest = mod-lt (1000 * c.args.n) c.requires.2 in
    thousandths_down c.args.n c.args.d c.requires.2 _ _ refl refl (omega (arith, rest, c.if-d-twice.false))
