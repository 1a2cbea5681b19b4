use Rattle.listing.proofs.StepLaws.{piecing_start, piecing_closed, piecing_stopped, piecing_used, piecing_again, piecing_open}
use Rattle.listing.proofs.NightLaws.{real_night}
use native.Mathlib.Omega.{arith}
use Rattle.std.specs.Prelude.{Ok}
use mathlib.Core.Path.{◌∙◌, ap, sym}
use Rattle.listing.proofs.piece.put_lines.Goals as goal

pub loop-entry-init : goal.loop-entry-init
loop-entry-init c = piecing_start _ _ _ _ c.requires

pub with_line-next-requires : goal.with_line-next-requires
with_line-next-requires c = real_night _ c.loop-entry.invariant.real

pub overflow_add-from : goal.overflow_add-from
overflow_add-from c = omega (arith, c.well_formed.1.0, (piecing_used c.loop-entry.invariant (sym c.is_sure.ensures ∙ c.loop-entry-test.true) c.next_breath.ensures _ (c.in-Ok-Some.is ∙ ap Ok c.in-Ok-Some.field-0-is)).1)

pub loop-entry-smaller : goal.loop-entry-smaller
loop-entry-smaller c = omega (arith, piecing_used c.loop-entry.invariant (sym c.is_sure.ensures ∙ c.loop-entry-test.true) c.next_breath.ensures _ (c.in-Ok-Some.is ∙ ap Ok c.in-Ok-Some.field-0-is))

pub loop-entry-preserved : goal.loop-entry-preserved
loop-entry-preserved c = piecing_again c.loop-entry.invariant (sym c.is_sure.ensures ∙ c.loop-entry-test.true) c.next_breath.ensures _ (c.in-Ok-Some.is ∙ ap Ok c.in-Ok-Some.field-0-is) _ c.ratio.ensures.defined _ c.with_line-next.ensures c.put_line-at.ensures

pub returns-in-Ok-None : goal.returns-in-Ok-None
returns-in-Ok-None c =
    let both = (piecing_closed c.loop-entry.invariant (sym c.is_sure.ensures ∙ c.loop-entry-test.true) c.next_breath.ensures (c.in-Ok-None.is ∙ ap Ok c.in-Ok-None.field-0-is) _ c.ratio-in-Ok-None.ensures.defined c.put_line.ensures) in
    record { answered = both.0; stored = both.1 }

pub returns-in-Err : goal.returns-in-Err
returns-in-Err c =
    let both = (piecing_stopped c.loop-entry.invariant (sym c.is_sure.ensures ∙ c.loop-entry-test.true) c.next_breath.ensures _ c.in-Err.is _ c.left_to_next.ensures) in
    record { answered = both.0; stored = both.1 }

pub returns : goal.returns
returns c =
    let both = (piecing_open c.loop-entry.invariant (sym c.is_sure.ensures ∙ c.loop-entry-test.false)) in
    record { answered = both.0; stored = both.1 }
