use Rattle.slash.proofs.AnswerLaws.{plain_stop, passed_on}
use Rattle.twisting.proofs.TwistingLaws.{floating_k, floating_is}
use Rattle.twisting.proofs.EachLaws.{each_format, each_length, stopped_before, rearranged_stopped, rearranged_done}
use Rattle.twisting.specs.Twisting.{rearranged}
use Rattle.twisting.specs.Steps.{way_of}
use mathlib.Core.Path.{sym, ap, ◌∙◌}
use mathlib.Core.List.{map}
use Prim.Native.Nat.{ℕ}
use Rattle.twisting.proofs.each.rearrange_each.Goals as goal

pub returns-in_err-check_floating : goal.returns-in_err-check_floating
returns-in_err-check_floating c =
    let both = stopped_before _ _ (each_format _ _ _ _ (sym c.in_err-check_floating.was ∙ c.check_floating.ensures)) in
    record { answered = passed_on _ c.from_residual.ensures ∙ both.0; stored = both.1 }

pub returns-then-operand-out : goal.returns-then-operand-out
returns-then-operand-out c =
    let both = (stopped_before _ _ (plain_stop _ 3 c.plain.ensures (each_length _ _ _ _ (sym c.in_ok-check_floating.was ∙ c.check_floating.ensures) c.if-operand-out.true))) in
    record { answered = both.0; stored = both.1 }

pub new-layout-requires : goal.new-layout-requires
new-layout-requires c = let k = floating_k _ (sym c.in_ok-check_floating.was ∙ c.check_floating.ensures) in (k.0, k.1)

pub check_all-requires : goal.check_all-requires
check_all-requires c = let is = floating_is _ (sym c.in_ok-check_floating.was ∙ c.check_floating.ensures) in (is.0, is.1, c.new-layout.ensures)

pub returns-in_err-check_all : goal.returns-in_err-check_all
returns-in_err-check_all c =
    let both = (rearranged_stopped _ _ _ _ (sym c.in_ok-check_floating.was ∙ c.check_floating.ensures) c.if-operand-out.false _ c.check_all.ensures _ c.in_err-check_all.was) in
    record { answered = passed_on _ c.from_residual-in_err-check_all.ensures ∙ both.0; stored = both.1 }

pub returns : goal.returns
returns c =
    let both = (rearranged_done _ _ _ _ (sym c.in_ok-check_floating.was ∙ c.check_floating.ensures) c.if-operand-out.false _ c.check_all.ensures c.in_ok-check_all.was _ (c.store_rearranged.ensures ∙ ap (λ (k : ℕ). map (rearranged (way_of c.args.way) k) c.args.operand.now) c.new-layout.ensures)) in
    record { answered = both.0; stored = both.1 }
