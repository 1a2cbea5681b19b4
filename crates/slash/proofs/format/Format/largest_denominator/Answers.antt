use Rattle.slash.proofs.format.Format.largest_denominator.Goals as goal

pub returns : goal.returns
returns c = c.largest_numerator.ensures
