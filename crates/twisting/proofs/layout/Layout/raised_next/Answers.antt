use Rattle.twisting.proofs.StepLaws.{next_fits, more_fits, k_most, raised_is, raised_fits}
use native.Mathlib.Omega.{arith}
use Rattle.twisting.proofs.layout.Layout.raised_next.Goals as goal

pub overflow_add-result : goal.overflow_add-result
overflow_add-result c = let fits = next_fits c.args.self.k c.args.above c.args.self.positions c.args.self.least c.args.self.most c.args.self.position_set in omega (arith, fits)

pub overflow_add-result-2 : goal.overflow_add-result-2
overflow_add-result-2 c = let fits = more_fits c.args.self.k c.args.above c.args.self.positions c.args.self.least c.args.self.most c.args.self.position_set in omega (arith, fits)

pub overflow_sub-result : goal.overflow_sub-result
overflow_sub-result c = k_most c.args.self.k c.args.above c.args.self.positions c.args.self.least c.args.self.most c.args.self.position_set

pub overflow_add-result-3 : goal.overflow_add-result-3
overflow_add-result-3 c = let fits = raised_fits c.args.self.k c.args.above c.args.self.positions c.args.self.least c.args.self.most c.args.self.position_set in omega (arith, fits)

pub returns : goal.returns
returns c = raised_is c.args.self.k c.args.above c.args.self.positions c.args.self.least c.args.self.most c.args.self.position_set
