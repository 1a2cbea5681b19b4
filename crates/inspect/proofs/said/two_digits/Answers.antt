use Rattle.inspect.proofs.SaidLaws.{two_not, two_second_not, two_zero, two_are}
use Rattle.inspect.proofs.said.two_digits.Goals as goal

pub returns-in_default : goal.returns-in_default
returns-in_default c = two_not _ _ _ c.in_default.ensures

pub returns-in_default-digit : goal.returns-in_default-digit
returns-in_default-digit c = two_second_not _ _ _ c.in_default-digit.ensures

pub returns-then-tens-eq0 : goal.returns-then-tens-eq0
returns-then-tens-eq0 c = two_zero _ _ _ c.in-Some.ensures c.in-Some-digit.ensures c.if-tens-eq0.true

pub returns : goal.returns
returns c = two_are _ _ _ c.in-Some.ensures c.in-Some-digit.ensures c.if-tens-eq0.false
