use Rattle.std.proofs.Common.{sym, ◌∙◌}
use Rattle.recording.proofs.LineLaws.{tick_not_begun, tick_begun}
use Rattle.recording.proofs.TickLaws.{tick_long}
use Rattle.recording.proofs.line.read_tick.Goals as goal

pub returns-then-not-is_begun : goal.returns-then-not-is_begun
returns-then-not-is_begun c = tick_not_begun _ (sym c.is_begun.ensures ∙ c.if-not-is_begun.true)

pub returns-then-field-gt-MOST_DIGITS : goal.returns-then-field-gt-MOST_DIGITS
returns-then-field-gt-MOST_DIGITS c = tick_long _ c.if-field-gt-MOST_DIGITS.true

pub returns : goal.returns
returns c = c.read_digits.ensures ∙ tick_begun _ (sym c.is_begun.ensures ∙ c.if-not-is_begun.false)
