use Rattle.std.proofs.Common.{sym, refl}
use Rattle.text.proofs.LineLaws.{is_all}
use Rattle.text.specs.declared.line.Name.TheVariants.{All}
use Rattle.loading.proofs.LineLaws.{total_first_not, total_first, total_later_not, total_later, stopped_at}
use Rattle.loading.proofs.first.Line.total.Goals as goal

pub line_there-requires : goal.line_there-requires
line_there-requires c = sym (is_all All refl)

pub returns-in-Some : goal.returns-in-Some
returns-in-Some c = total_first _ _ c.args.self.ended c.args.self.within _ _ c.if-self-eq1.true c.in-Some.ensures

pub returns-in-None : goal.returns-in-None
returns-in-None c = stopped_at c.stop.ensures (total_first_not _ _ c.args.self.ended c.args.self.within _ _ c.if-self-eq1.true c.in-None.ensures)

pub line_there-requires-2 : goal.line_there-requires-2
line_there-requires-2 c = sym (is_all All refl)

pub returns-in-Some-line_there : goal.returns-in-Some-line_there
returns-in-Some-line_there c = total_later _ _ c.args.self.ended c.args.self.within _ _ c.if-self-eq1.false c.in-Some-line_there.ensures

pub returns-in-None-line_there : goal.returns-in-None-line_there
returns-in-None-line_there c = stopped_at c.stop-in-None-line_there.ensures (total_later_not _ _ c.args.self.ended c.args.self.within _ _ c.if-self-eq1.false c.in-None-line_there.ensures)
