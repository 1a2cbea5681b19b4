use Rattle.importing.proofs.RecordLaws.{tests_are}
use Rattle.importing.proofs.record.are_timings.Goals as goal

pub returns : goal.returns
returns c = tests_are _ _
