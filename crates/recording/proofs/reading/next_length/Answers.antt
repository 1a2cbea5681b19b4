use Rattle.std.proofs.Common.{ap, sym, ◌∙◌, arith}
use Rattle.std.specs.Prelude.{Ok}
use Rattle.slash.proofs.AnswerLaws.{passed_on}
use Rattle.recording.proofs.ReadingLaws.{length_quick, length_breath, length_end, length_stop}
use Rattle.recording.proofs.StepLaws.{length_there}
use Rattle.recording.proofs.reading.next_length.Goals as goal

pub returns-in-Some : goal.returns-in-Some
returns-in-Some c = length_quick _ (omega (arith, c.if-breath-le-MOST_BREATHS.true)) _ _ (length_there _ c.breath_length.ensures c.in-Some.is)

pub returns-in_err-entry : goal.returns-in_err-entry
returns-in_err-entry c = passed_on _ c.from_residual.ensures ∙ length_stop (sym c.next_breath.ensures ∙ c.in_err-entry.was)

pub returns-in-Some-2 : goal.returns-in-Some-2
returns-in-Some-2 c = length_breath (sym c.next_breath.ensures ∙ c.in_ok-entry.was ∙ ap Ok c.in-Some-2.is)

pub returns-in-None : goal.returns-in-None
returns-in-None c = length_end (sym c.next_breath.ensures ∙ c.in_ok-entry.was ∙ ap Ok c.in-None.is)
