use Rattle.slash.proofs.AnswerLaws.{plain_stop}
use Rattle.slash.proofs.FormatLaws.{format_good, format_refused}
use mathlib.Core.Path.{sym, ◌∙◌}
use Rattle.slash.proofs.format.Format.check.Goals as goal

pub returns-then-is_known : goal.returns-then-is_known
returns-then-is_known c = sym (format_good _ (sym c.is_known.ensures ∙ c.if-is_known.true))

pub returns-else-is_known : goal.returns-else-is_known
returns-else-is_known c = plain_stop _ 1 c.plain.ensures (format_refused _ (sym c.is_known.ensures ∙ c.if-is_known.false))
