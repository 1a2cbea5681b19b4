use Rattle.text.proofs.LineLaws.{is_number, is_all}
use Rattle.text.proofs.line.is_name.Goals as goal

pub returns-in-Number : goal.returns-in-Number
returns-in-Number c = is_number _ _ c.in-Number.is

pub returns-in-All : goal.returns-in-All
returns-in-All c = is_all _ c.in-All.is
