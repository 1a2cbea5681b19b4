use mathlib.Core.Path.{sym, ◌∙◌}
use native.Mathlib.Omega.{arith}
use native.Mathlib.Nat.{mod-lt}
use Rattle.convergents.proofs.ConvergentLaws.{turn_bounds}
use Rattle.convergents.proofs.RoundingLaws.{going_start, going_next, going_end, going_stop}
use Rattle.slash.proofs.FormatLaws.{format_limit}
use Rattle.slash.proofs.RoundingLaws.{rounds_is}
use Rattle.slash.proofs.rounding.last_held.Goals as goal

pub loop-v-init : goal.loop-v-init
loop-v-init c = going_start _ _ _

pub nonzero_div-a : goal.nonzero_div-a
nonzero_div-a c = omega arith

pub nonzero_rem-rest : goal.nonzero_rem-rest
nonzero_rem-rest c = omega arith

pub overflow_mul-pn : goal.overflow_mul-pn
overflow_mul-pn c = omega (arith, turn_bounds c.loop-v.invariant.inv (omega arith))

pub overflow_add-pn : goal.overflow_add-pn
overflow_add-pn c = omega (arith, turn_bounds c.loop-v.invariant.inv (omega arith))

pub overflow_mul-qn : goal.overflow_mul-qn
overflow_mul-qn c = omega (arith, turn_bounds c.loop-v.invariant.inv (omega arith))

pub overflow_add-qn : goal.overflow_add-qn
overflow_add-qn c = omega (arith, turn_bounds c.loop-v.invariant.inv (omega arith))

pub returns-then-not-is_held : goal.returns-then-not-is_held
returns-then-not-is_held c =
    let both = rounds_is _ _ _ _ _ _
    (going_stop c.loop-v.invariant (format_limit _ c.args.f.is_known) c.requires (omega arith)
    (sym c.is_held.ensures ∙ c.if-not-is_held.true)) in
    record { rounded = both.0; best = both.1 }

pub loop-v-smaller : goal.loop-v-smaller
loop-v-smaller c = mod-lt c.loop-v.u (omega arith)

pub loop-v-preserved : goal.loop-v-preserved
loop-v-preserved c =
    going_next c.loop-v.invariant (omega arith)
    (sym c.is_held.ensures ∙ c.if-not-is_held.false)

pub returns : goal.returns
returns c =
    let both = rounds_is _ _ _ _ _ _ (going_end c.loop-v.invariant (format_limit _ c.args.f.is_known) c.requires (omega arith)) in
    record { rounded = both.0; best = both.1 }
