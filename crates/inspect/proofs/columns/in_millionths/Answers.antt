use Rattle.inspect.proofs.ColumnLaws.{millionths_down, millionths_up}
use Prim.Native.Nat.{◌*◌}
use native.Mathlib.Nat.{mod-lt}
use native.Mathlib.Omega.{arith}
use Rattle.inspect.proofs.columns.in_millionths.Goals as goal

pub returns-then-d-twice : goal.returns-then-d-twice
-- (That the rest is below d isn't needed here: it keeps the numbers at which a wrong program is refused to a divisor and a rest of it.)
returns-then-d-twice c =
    let rest = mod-lt (1000000 * c.args.n) c.requires.2 in
    millionths_up c.args.n c.args.d c.requires.2 (omega (arith, rest, c.if-d-twice.true))

pub returns-else-d-twice : goal.returns-else-d-twice
returns-else-d-twice c =
    let rest = mod-lt (1000000 * c.args.n) c.requires.2 in
    millionths_down c.args.n c.args.d c.requires.2 (omega (arith, rest, c.if-d-twice.false))
