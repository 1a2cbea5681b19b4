use native.Mathlib.Omega.{arith}
use mathlib.Core.Path.{◌∙◌}
use Rattle.slash.proofs.AnswerLaws.{plain_stop}
use Rattle.importing.proofs.RecordLaws.{record_is, record_kind, no_kind}
use Rattle.importing.proofs.record.read_record.Goals as goal

pub returns-in-1 : goal.returns-in-1
returns-in-1 c = c.read_timings.ensures ∙ record_kind _ _ _ c.in-1.is ∙ record_is _ _ _ _ c.number_at-kind.ensures c.number_at-first.ensures c.number_at-second.ensures

pub returns-in-2 : goal.returns-in-2
returns-in-2 c = c.read_ratio.ensures ∙ record_kind _ _ _ c.in-2.is ∙ record_is _ _ _ _ c.number_at-kind.ensures c.number_at-first.ensures c.number_at-second.ensures

pub returns-in_default : goal.returns-in_default
returns-in_default c = plain_stop _ 17 c.plain.ensures (no_kind _ _ _ (λ e. omega (arith, e)) (λ e. omega (arith, e)) ∙ record_is _ _ _ _ c.number_at-kind.ensures c.number_at-first.ensures c.number_at-second.ensures)
