use Rattle.slash.proofs.BitLaws.{below_most, below_is}
use Rattle.slash.proofs.bits.below.Goals as goal

pub overflow_sub-result : goal.overflow_sub-result
overflow_sub-result c = below_most c.args.count c.args.w c.ranges.w.fits

pub returns : goal.returns
returns c = below_is c.args.count c.args.w c.ranges.w.fits
