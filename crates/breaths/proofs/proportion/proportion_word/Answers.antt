use Rattle.std.proofs.Common.{mod-lt, arith}
use Rattle.breaths.proofs.ProportionLaws.{zero_word, packed_small, quotient_short, next_fits, packed_start, packed_next, packed_marked, packed_exact}
use Rattle.breaths.proofs.proportion.proportion_word.Goals as goal

pub nonzero_div-first : goal.nonzero_div-first
nonzero_div-first c = omega (arith, c.requires.0)

pub returns-then-first-gt-LARGEST : goal.returns-then-first-gt-LARGEST
returns-then-first-gt-LARGEST c = zero_word _ _ c.requires.0 c.requires.1 c.if-first-gt-LARGEST.true

pub overflow_mul-last : goal.overflow_mul-last
overflow_mul-last c = omega (arith, c.if-first-gt-LARGEST.false)

pub overflow_add-last : goal.overflow_add-last
overflow_add-last c = omega (arith, c.if-first-gt-LARGEST.false)

pub nonzero_rem-v : goal.nonzero_rem-v
nonzero_rem-v c = omega (arith, c.requires.0)

pub overflow_cast-v-2 : goal.overflow_cast-v-2
overflow_cast-v-2 c = omega (arith, mod-lt c.args.d c.requires.0)

pub loop-v-init : goal.loop-v-init
loop-v-init c = packed_start _ _ c.requires.0 c.requires.1 (omega arith) c.if-first-gt-LARGEST.false

pub nonzero_div-a : goal.nonzero_div-a
nonzero_div-a c = omega arith

pub overflow_cast-a : goal.overflow_cast-a
overflow_cast-a c = omega (arith, quotient_short c.loop-v.invariant)

pub nonzero_rem-rest : goal.nonzero_rem-rest
nonzero_rem-rest c = omega arith

pub overflow_mul-next : goal.overflow_mul-next
overflow_mul-next c = omega (arith, next_fits c.loop-v.invariant)

pub overflow_add-next : goal.overflow_add-next
overflow_add-next c = omega (arith, next_fits c.loop-v.invariant)

pub exchanged-requires : goal.exchanged-requires
exchanged-requires c = packed_small c.loop-v.invariant

pub overflow_add-result-then-next-ge-END : goal.overflow_add-result-then-next-ge-END
overflow_add-result-then-next-ge-END c = omega (arith, c.exchanged.ensures, packed_small c.loop-v.invariant)

pub returns-then-next-ge-END : goal.returns-then-next-ge-END
returns-then-next-ge-END c = packed_marked _ _ c.requires.0 c.requires.1 c.loop-v.invariant (omega arith) c.if-next-ge-END.true _ c.exchanged.ensures

pub loop-v-smaller : goal.loop-v-smaller
loop-v-smaller c = mod-lt c.loop-v.u (omega arith)

pub loop-v-preserved : goal.loop-v-preserved
loop-v-preserved c = packed_next _ _ c.requires.0 c.requires.1 c.loop-v.invariant (omega arith) c.if-next-ge-END.false

pub exchanged-requires-2 : goal.exchanged-requires-2
exchanged-requires-2 c = packed_small c.loop-v.invariant

pub returns : goal.returns
returns c = packed_exact _ _ c.requires.0 c.requires.1 c.loop-v.invariant (omega arith) _ c.exchanged-2.ensures
