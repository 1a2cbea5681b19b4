use Rattle.std.proofs.Common.{◌+◌, sym, ap, ◌∙◌}
use Rattle.slash.proofs.AnswerLaws.{passed_on}
use Rattle.loading.proofs.LineLaws.{stopped_at}
use Rattle.loading.proofs.TextLaws.{line_turn, line_none, turn_stop, turn_none, turn_unended, turn_stopped, turn_breath, turn_closed, turn_behind}
use Rattle.std.specs.Prelude.{Ok}
use Rattle.loading.specs.declared.load.Turn.{Turn}
use Rattle.loading.proofs.load.judged_turn.Goals as goal

pub returns-in_default : goal.returns-in_default
returns-in_default c = let none = line_none c.args.n c.args.text.now _ c.in_default.is c.in_ok-line.ensures in sym (stopped_at c.stop_at.ensures (turn_none _ none.0 _ none.1))

pub returns-in_err-line : goal.returns-in_err-line
returns-in_err-line c = turn_stop _ _ _ (passed_on _ c.from_residual.ensures) (turn_unended _ c.in_err-line.ensures.1 _ c.in_err-line.ensures.0 c.in_err-line.ensures.2)

pub returns-in_err-judge : goal.returns-in_err-judge
returns-in_err-judge c =
    line_turn _ _ _ c.in-Some.is c.in_ok-line.ensures _
    (turn_stop _ _ _ (passed_on _ c.from_residual-in_err-judge.ensures) (turn_stopped _ _ c.in-Some.line.ended c.in-Some.line.within _ c.in_err-judge.ensures))

pub returns-in_err-behind_all-in-Total : goal.returns-in_err-behind_all-in-Total
returns-in_err-behind_all-in-Total c =
    line_turn _ _ _ c.in-Some.is c.in_ok-line.ensures _
    (turn_stop _ _ _ (passed_on _ c.from_residual-in_err-behind_all-in-Total.ensures)
    (turn_behind _ _ c.in-Some.line.ended c.in-Some.line.within _ (ap Ok (sym c.in-Total.is) ∙ c.in_ok-judge.ensures) c.in_err-behind_all-in-Total.ensures))

pub returns-in-Breath : goal.returns-in-Breath
returns-in-Breath c =
    line_turn _ _ _ c.in-Some.is c.in_ok-line.ensures (Ok (Turn.More (c.in-Some.line.end + 1)))
    (turn_breath _ _ c.in-Some.line.ended c.in-Some.line.within _ (ap Ok (sym c.in-Breath.is) ∙ c.in_ok-judge.ensures))

pub returns-in_ok-behind_all-in-Total : goal.returns-in_ok-behind_all-in-Total
returns-in_ok-behind_all-in-Total c =
    line_turn _ _ _ c.in-Some.is c.in_ok-line.ensures (Ok (Turn.Closed c.in-Total.w))
    (turn_closed _ _ c.in-Some.line.ended c.in-Some.line.within _ (ap Ok (sym c.in-Total.is) ∙ c.in_ok-judge.ensures) c.in_ok-behind_all-in-Total.ensures)
