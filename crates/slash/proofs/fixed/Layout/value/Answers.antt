use Rattle.slash.proofs.ReadingLaws.{fixed_number_lem}
use Rattle.slash.proofs.fixed.Layout.value.Goals as goal

pub returns : goal.returns
returns c = fixed_number_lem _ _ _ _ _ _ c.flag.ensures c.field.ensures c.field-2.ensures c.parts_value.ensures
