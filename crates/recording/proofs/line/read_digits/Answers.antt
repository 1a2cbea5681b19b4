use Rattle.std.proofs.Common.{◌∙◌}
use Rattle.recording.proofs.LineLaws.{digits_wrong, digits_tick}
use Rattle.recording.proofs.line.read_digits.Goals as goal

pub returns-then-d-digits : goal.returns-then-d-digits
returns-then-d-digits c = digits_wrong c.leading_digits-d.ensures c.if-d-digits.true

pub returns : goal.returns
returns c = c.tick_of.ensures ∙ digits_tick c.leading_digits-d.ensures c.if-d-digits.false
