use mathlib.Core.Path.{sym, ◌∙◌}
use Rattle.text.proofs.PartLaws.{parted_none, parted_at}
use Rattle.shapes.proofs.field.cut.Goals as goal

pub returns-then-i-bytes : goal.returns-then-i-bytes
returns-then-i-bytes c = parted_none _ _ (sym c.length_before-i.ensures.defined ∙ c.if-i-bytes.true)

pub returns : goal.returns
returns c = parted_at _ _ _ c.length_before-i.ensures.defined c.if-i-bytes.false
