use mathlib.Core.Path.{◌∙◌}
use native.Mathlib.Omega.{arith}
use Rattle.importing.proofs.RecordLaws.{read_good, read_stop}
use Rattle.importing.proofs.ImportLaws.{records_stop, records_good, records_end}
use Rattle.importing.proofs.import.check_records.Goals as goal

pub returns-in-Err : goal.returns-in-Err
returns-in-Err c =
    let step = c.in-Some.ensures.steps in
    records_stop _ _ step.0.1.0 (step.0.1.1 ∙ c.loop-i.invariant.0) step.1 (read_stop _ _ c.read_record.ensures c.in-Err.is) ∙ c.loop-i.invariant.1

pub loop-i-preserved : goal.loop-i-preserved
loop-i-preserved c =
    let step = c.in-Some.ensures.steps in (
      step.0.0 ∙ c.loop-i.invariant.0,
      records_good _ _ step.0.1.0 (step.0.1.1 ∙ c.loop-i.invariant.0) step.1 step.2 (read_good _ _ c.read_record.ensures c.in_default.is) ∙ c.loop-i.invariant.1,
    )

pub returns : goal.returns
returns c = let step = c.in-None.ensures.steps in records_end _ _ (omega (arith, step.0.1.0, c.loop-i.invariant.0)) ∙ c.loop-i.invariant.1
