use Rattle.std.proofs.Common.{sym, ◌∙◌, arith}
use Rattle.recording.proofs.StepLaws.{tick_at}
use Rattle.recording.proofs.line.read_tick_at.Goals as goal

pub returns : goal.returns
returns c =
    tick_at _ c.requires (omega arith) c.leading_digits-d.ensures c.if-bytes-k.false (sym c.is_begun.ensures ∙ c.if-not-is_begun.false)
    (sym c.tick_of.ensures ∙ c.in_ok-value.was)
