use Rattle.slash.specs.Reading.{fixed_number}
use Rattle.slash.proofs.fixed.Layout.is_approximate.Goals as goal

pub returns : goal.returns
unfolding fixed_number
returns c = c.flag.ensures
