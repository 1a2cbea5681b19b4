use Rattle.slash.proofs.WritingLaws.{over_fraction, over_other}
use Rattle.slash.proofs.writing.is_over_zero.Goals as goal

pub returns-in-Fraction : goal.returns-in-Fraction
returns-in-Fraction c = over_fraction _ _ c.in-Fraction.is

pub returns-in_default : goal.returns-in_default
returns-in_default c = over_other _ c.in_default.not-Fraction
