use Rattle.recording.proofs.ReadingLaws.{reading_start, reading_end, reading_stopped, reading_used, reading_shorter, reading_again}
use Rattle.slash.proofs.AnswerLaws.{passed_on}
use Rattle.std.proofs.Common.{ap, ◌∙◌, arith}
use Rattle.std.specs.Prelude.{Ok}
use Rattle.recording.proofs.reading.check_breaths.Goals as goal

pub loop-used-init : goal.loop-used-init
loop-used-init c = reading_start _

pub slice_bounds-rest-count : goal.slice_bounds-rest-count
slice_bounds-rest-count c = omega (arith, (reading_used c.loop-used.invariant c.next_length.ensures (c.in_ok-used.was ∙ ap Ok c.in-Some.is)).2)

pub slice_bounds-rest-start : goal.slice_bounds-rest-start
slice_bounds-rest-start c = omega (arith, (reading_used c.loop-used.invariant c.next_length.ensures (c.in_ok-used.was ∙ ap Ok c.in-Some.is)).2)

pub loop-used-smaller : goal.loop-used-smaller
loop-used-smaller c = reading_shorter c.loop-used.invariant c.next_length.ensures (c.in_ok-used.was ∙ ap Ok c.in-Some.is)

pub loop-used-preserved : goal.loop-used-preserved
loop-used-preserved c = reading_again c.loop-used.invariant c.next_length.ensures (c.in_ok-used.was ∙ ap Ok c.in-Some.is)

pub returns : goal.returns
returns c = reading_end c.loop-used.invariant c.next_length.ensures (c.in_ok-used.was ∙ ap Ok c.in_default.is)

pub returns-in_err-used : goal.returns-in_err-used
returns-in_err-used c = passed_on _ c.from_residual.ensures ∙ reading_stopped c.loop-used.invariant c.next_length.ensures c.in_err-used.was
