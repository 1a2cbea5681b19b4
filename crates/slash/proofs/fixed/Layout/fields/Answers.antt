use Rattle.slash.proofs.ReadingLaws.{fixed_fields_lem}
use Rattle.slash.proofs.fixed.Layout.fields.Goals as goal

pub returns : goal.returns
returns c = fixed_fields_lem _ _ c.flag.ensures c.field.ensures c.flag-2.ensures c.field-2.ensures
