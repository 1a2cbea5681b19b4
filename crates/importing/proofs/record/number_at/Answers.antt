use Rattle.importing.proofs.RecordLaws.{number_is}
use Rattle.importing.proofs.record.number_at.Goals as goal

pub returns : goal.returns
returns c = number_is _ _ _ c.requires c.from_le_bytes.ensures
