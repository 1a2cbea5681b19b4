use Rattle.breaths.proofs.RateLaws.{rate_words, rate_refused, rate_tested, rate_done}
use Rattle.slash.proofs.AnswerLaws.{plain_stop}
use Rattle.std.proofs.Common.{arith}
use Rattle.breaths.proofs.rate.Rate.make.Goals as goal

pub returns-then-ticks : goal.returns-then-ticks
returns-then-ticks c = plain_stop _ 19 c.plain.ensures (rate_refused _ c.if-ticks.true)

pub overflow_cast-result : goal.overflow_cast-result
overflow_cast-result c = omega (arith, (rate_words c.args.ticks (rate_tested _ c.if-ticks.false)).1)

pub returns : goal.returns
returns c = rate_done _ (rate_tested _ c.if-ticks.false)
