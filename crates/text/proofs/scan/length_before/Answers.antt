use Rattle.std.specs.Option.{unwrap_or}
use Rattle.std.proofs.Common.{length, ap, ◌∙◌}
use Rattle.text.proofs.ScanLaws.{before_position}
use Rattle.text.proofs.scan.length_before.Goals as goal

pub returns-clause-defined : goal.returns-clause-defined
returns-clause-defined c = c.unwrap_or.ensures ∙ ap (λ o. unwrap_or o (length c.args.bytes.now)) c.first.ensures ∙ before_position _ _
