use Rattle.twisting.proofs.TwistingLaws.{not_floating, is_floating_lem}
use Rattle.slash.proofs.AnswerLaws.{plain_stop}
use mathlib.Core.Path.{◌∙◌}
use Rattle.twisting.proofs.twisting.check_floating.Goals as goal

pub returns-then-f-ne-FLOATING : goal.returns-then-f-ne-FLOATING
returns-then-f-ne-FLOATING c = plain_stop _ 1 c.plain.ensures (not_floating _ c.if-f-ne-FLOATING.true)

pub returns : goal.returns
returns c = c.check.ensures ∙ is_floating_lem _ c.if-f-ne-FLOATING.false
