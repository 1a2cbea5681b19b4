use Rattle.slash.proofs.AnswerLaws.{plain_stop, passed_on}
use Rattle.twisting.proofs.TwistingLaws.{floating_k, floating_is, rearrange_format}
use Rattle.twisting.proofs.StepLaws.{few, wide_refused, position_refused, position_done}
use native.Mathlib.Omega.{arith}
use Rattle.slash.specs.Bits.{bits}
use Rattle.slash.specs.Formats.{slash_bits}
use Rattle.twisting.specs.Twisting.{with_field}
use Rattle.twisting.specs.Steps.{way_of}
use mathlib.Core.Path.{sym, ap, ◌∙◌}
use Prim.Native.Nat.{ℕ, ◌-◌, ◌^◌}
use Rattle.twisting.proofs.twisting.rearrange_word.Goals as goal

pub returns-in_err-check_floating : goal.returns-in_err-check_floating
returns-in_err-check_floating c = passed_on _ c.from_residual.ensures ∙ rearrange_format _ _ _ (sym c.in_err-check_floating.was ∙ c.check_floating.ensures)

pub new-layout-requires : goal.new-layout-requires
new-layout-requires c = let k = floating_k _ (sym c.in_ok-check_floating.was ∙ c.check_floating.ensures) in (k.0, k.1)

pub overflow_sub-above : goal.overflow_sub-above
overflow_sub-above c = let k = floating_k _ (sym c.in_ok-check_floating.was ∙ c.check_floating.ensures) in omega (arith, k.0)

pub overflow_shr-above : goal.overflow_shr-above
overflow_shr-above c = let k = floating_k _ (sym c.in_ok-check_floating.was ∙ c.check_floating.ensures) in omega (arith, k.1)

pub overflow_mul-layout : goal.overflow_mul-layout
overflow_mul-layout c = let fits = few _ _ c.new-layout.result.most c.new-layout.result.position_set in omega (arith, fits)

pub overflow_add-layout : goal.overflow_add-layout
overflow_add-layout c = let fits = few _ _ c.new-layout.result.most c.new-layout.result.position_set in omega (arith, fits)

pub returns-then-layout-above : goal.returns-then-layout-above
returns-then-layout-above c =
    let good = sym c.in_ok-check_floating.was ∙ c.check_floating.ensures in
    let set = c.new-layout.result.position_set ∙ ap (λ (k : ℕ). 2 ^ slash_bits k - 1) c.new-layout.ensures in
    plain_stop _ 4 c.plain.ensures (wide_refused _ (floating_is _ good) _ _ set _ good c.if-layout-above.true)

pub overflow_sub-f : goal.overflow_sub-f
overflow_sub-f c = (floating_k _ (sym c.in_ok-check_floating.was ∙ c.check_floating.ensures)).0

pub returns-then-f-e : goal.returns-then-f-e
returns-then-f-e c =
    let good = sym c.in_ok-check_floating.was ∙ c.check_floating.ensures in
    let set = c.new-layout.result.position_set ∙ ap (λ (k : ℕ). 2 ^ slash_bits k - 1) c.new-layout.ensures in
    plain_stop _ 5 c.plain-then-f-e.ensures (position_refused _ (floating_is _ good) _ _ set _ good c.if-layout-above.false _ c.parting-e.ensures c.if-f-e.true)

pub with_new_field-requires : goal.with_new_field-requires
with_new_field-requires c = omega (arith, c.if-f-e.false, c.new-layout.ensures, c.new-layout.result.least)

pub returns : goal.returns
returns c =
    let good = sym c.in_ok-check_floating.was ∙ c.check_floating.ensures in
    let set = c.new-layout.result.position_set ∙ ap (λ (k : ℕ). 2 ^ slash_bits k - 1) c.new-layout.ensures in
    let made = c.with_new_field.ensures ∙ ap (λ (k : ℕ). with_field k c.args.w (way_of c.args.way k c.parting-e.result (bits 0 (k - 1) c.args.w))) c.new-layout.ensures in
    position_done _ (floating_is _ good) _ _ set _ good c.if-layout-above.false _ c.parting-e.ensures c.if-f-e.false _ made
