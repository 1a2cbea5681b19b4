use Rattle.std.proofs.Common.{◌∙◌, arith}
use Rattle.text.proofs.LineLaws.{number_name}
use Rattle.loading.proofs.LineLaws.{sequence_total, sequence_many, sequence_number, sequence_breath_not, sequence_breath, stopped_at}
use Rattle.loading.proofs.first.Line.in_sequence.Goals as goal

pub returns-then-is_same : goal.returns-then-is_same
returns-then-is_same c = c.total.ensures ∙ sequence_total _ _ c.args.self.ended c.args.self.within _ c.requires _ _ c.if-is_same.ensures

pub returns-then-self-gt-MOST_BREATHS : goal.returns-then-self-gt-MOST_BREATHS
returns-then-self-gt-MOST_BREATHS c = stopped_at c.stop.ensures (sequence_many _ _ c.args.self.ended c.args.self.within _ c.requires _ _ c.if-is_same.ensures (omega (arith, c.if-self-gt-MOST_BREATHS.true)))

pub returns-then-not-is_number : goal.returns-then-not-is_number
returns-then-not-is_number c = stopped_at c.stop-then-not-is_number.ensures (sequence_number _ _ c.args.self.ended c.args.self.within _ c.requires _ _ c.if-is_same.ensures (omega (arith, c.if-self-gt-MOST_BREATHS.false)) c.if-not-is_number.ensures)

pub line_there-requires : goal.line_there-requires
line_there-requires c = number_name _ c.args.self.numbered (omega (arith, c.if-self-gt-MOST_BREATHS.false))

pub returns-in-Some : goal.returns-in-Some
returns-in-Some c = sequence_breath _ _ c.args.self.ended c.args.self.within _ c.requires _ _ c.if-is_same.ensures (omega (arith, c.if-self-gt-MOST_BREATHS.false)) c.if-not-is_number.ensures c.in-Some.ensures

pub returns-in-None : goal.returns-in-None
returns-in-None c = stopped_at c.stop-in-None.ensures (sequence_breath_not _ _ c.args.self.ended c.args.self.within _ c.requires _ _ c.if-is_same.ensures (omega (arith, c.if-self-gt-MOST_BREATHS.false)) c.if-not-is_number.ensures c.in-None.ensures)
