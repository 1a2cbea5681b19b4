use Rattle.twisting.proofs.StepLaws.{one_some, untwist_code, untwist_fits}
use native.Mathlib.Omega.{arith}
use Rattle.twisting.proofs.layout.Layout.untwisted_field.Goals as goal

pub overflow_sub-result : goal.overflow_sub-result
overflow_sub-result c = one_some c.args.e (omega (arith, c.requires.0, c.args.self.most))

pub overflow_add-result : goal.overflow_add-result
overflow_add-result c = let fits = untwist_fits _ _ c.requires.0 c.args.self.most _ c.requires.1 _ c.args.self.field_set _ c.requires.2 in omega (arith, fits)

pub returns : goal.returns
returns c = untwist_code _ _ c.requires.0 c.args.self.most _ c.requires.1 _ c.args.self.field_set _ c.requires.2
