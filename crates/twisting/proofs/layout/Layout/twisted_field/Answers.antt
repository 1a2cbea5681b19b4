use Rattle.twisting.proofs.StepLaws.{ones_most, twist_code, twist_fits}
use native.Mathlib.Omega.{arith}
use Rattle.twisting.proofs.layout.Layout.twisted_field.Goals as goal

pub overflow_sub-result : goal.overflow_sub-result
overflow_sub-result c = ones_most _ _ c.requires.0 c.args.self.most _ c.requires.1 _ c.args.self.field_set _ c.requires.2

pub overflow_add-result : goal.overflow_add-result
overflow_add-result c = let fits = twist_fits _ _ c.requires.0 c.args.self.most _ c.requires.1 _ c.args.self.field_set _ c.requires.2 in omega (arith, fits)

pub returns : goal.returns
returns c = twist_code _ _ c.requires.0 c.args.self.most _ c.requires.1 _ c.args.self.field_set _ c.requires.2
