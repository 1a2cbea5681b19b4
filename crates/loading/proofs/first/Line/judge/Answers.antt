use Rattle.std.proofs.Common.{arith, length-take-le}
use Rattle.loading.proofs.LineLaws.{judge_other, judge_name, judge_line, stopped_at}
use Rattle.loading.proofs.first.Line.judge.Goals as goal

pub in_sequence-requires : goal.in_sequence-requires
in_sequence-requires c = omega (arith, judge_name _ 0 _ c.in-Some.ensures, length-take-le c.args.self.end c.args.self.text.now (omega (arith, c.args.self.within)))

pub returns-in-Some : goal.returns-in-Some
returns-in-Some c = judge_line _ _ _ c.in-Some.ensures _ c.in_sequence.ensures

pub returns-in-None : goal.returns-in-None
returns-in-None c = stopped_at c.stop.ensures (judge_other _ _ c.in-None.ensures)
