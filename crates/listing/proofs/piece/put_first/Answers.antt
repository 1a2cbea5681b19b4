use Rattle.listing.proofs.StepLaws.{first_waits, first_refuses, first_closed, first_room, first_goes}
use Rattle.listing.proofs.NightLaws.{opened_real, real_night}
use Rattle.listing.specs.Nights.{is_rated}
use Rattle.recording.proofs.ReadingLaws.{opening_within}
use native.Mathlib.Omega.{arith}
use Rattle.std.specs.Prelude.{Ok}
use mathlib.Core.Path.{sym, ap, ◌∙◌}
use Rattle.listing.proofs.piece.put_first.Goals as goal

pub returns-then-not-is_sure : goal.returns-then-not-is_sure
returns-then-not-is_sure c =
    let both = (first_waits _ _ _ (sym c.is_sure.ensures ∙ c.if-not-is_sure.true)) in
    record { answered = both.0; stored = both.1 }

pub slice_bounds-put_lines-count : goal.slice_bounds-put_lines-count
slice_bounds-put_lines-count c = omega (arith, opening_within c.args.bytes.now (sym c.first_line.ensures ∙ c.in-Ok-Some.is ∙ ap Ok c.in-Ok-Some.field-0-is))

pub slice_bounds-put_lines-start : goal.slice_bounds-put_lines-start
slice_bounds-put_lines-start c = omega (arith, opening_within c.args.bytes.now (sym c.first_line.ensures ∙ c.in-Ok-Some.is ∙ ap Ok c.in-Ok-Some.field-0-is))

pub put_lines-requires : goal.put_lines-requires
put_lines-requires c = ap is_rated c.opened-night.ensures ∙ real_night _ (opened_real _)

pub behind_rate-requires : goal.behind_rate-requires
behind_rate-requires c = omega (arith, first_room c.args.bytes.now _ (sym c.first_line.ensures ∙ c.in-Ok-Some.is ∙ ap Ok c.in-Ok-Some.field-0-is) _ c.args.out.now _ _ _ c.opened-night.ensures (c.put_lines.ensures.answered, c.put_lines.ensures.stored))

pub returns-in-Ok-Some : goal.returns-in-Ok-Some
returns-in-Ok-Some c =
    let both = (first_goes c.args.bytes.now _ c.args.out.now (sym c.is_sure.ensures ∙ c.if-not-is_sure.false) _ (sym c.first_line.ensures ∙ c.in-Ok-Some.is ∙ ap Ok c.in-Ok-Some.field-0-is) c.opened-night.ensures (c.put_lines.ensures.answered, c.put_lines.ensures.stored) c.behind_rate.ensures) in
    record { answered = both.0; stored = both.1 }

pub returns-in-Ok-None : goal.returns-in-Ok-None
returns-in-Ok-None c =
    let both = (first_closed _ _ _ (sym c.is_sure.ensures ∙ c.if-not-is_sure.false) (sym c.first_line.ensures ∙ c.in-Ok-None.is ∙ ap Ok c.in-Ok-None.field-0-is) c.put_line.ensures) in
    record { answered = both.0; stored = both.1 }

pub returns-in-Err : goal.returns-in-Err
returns-in-Err c =
    let both = (first_refuses _ _ _ (sym c.is_sure.ensures ∙ c.if-not-is_sure.false) _ (sym c.first_line.ensures ∙ c.in-Err.is)) in
    record { answered = both.0; stored = both.1 }
