use Rattle.inspect.proofs.SaidLaws.{one_not, one_is}
use Rattle.inspect.proofs.said.one_digit.Goals as goal

pub returns-in_default : goal.returns-in_default
returns-in_default c = one_not _ _ c.in_default.ensures

pub returns : goal.returns
returns c = one_is _ _ c.in-Some.ensures
