use Rattle.inspect.proofs.SaidLaws.{digit_std}
use Rattle.inspect.proofs.said.digit.Goals as goal

pub returns : goal.returns
returns c = digit_std _ _ c.requires.1 c.from.ensures _ c.to_digit.ensures.value
