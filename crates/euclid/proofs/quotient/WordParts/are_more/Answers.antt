use native.Mathlib.Omega.{arith}
use mathlib.Core.Path.{◌≡◌, subst}
use Prim.Native.Nat.{◌+◌, ◌-◌}
use Rattle.euclid.proofs.CountLaws.{Taking, take_next, take_end, taken}
use Rattle.euclid.proofs.quotient.WordParts.are_more.Goals as goal

pub returns-then-v-eq0 : goal.returns-then-v-eq0
returns-then-v-eq0 c = take_end c.loop.invariant c.if-v-eq0.true

pub loop-preserved : goal.loop-preserved
loop-preserved c =
    let e : c.args.places - c.loop.counter - 1 ≡ c.args.places - (c.loop.counter + 1) = omega arith in
    subst (Taking c.args.self.numerator c.args.self.denominator c.args.places _ _) e (take_next c.loop.invariant (omega arith) (omega arith))

pub returns : goal.returns
returns c = taken c.loop.invariant (omega arith)
