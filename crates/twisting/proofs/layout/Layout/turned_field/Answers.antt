use Rattle.twisting.proofs.StepLaws.{field_small, field_turned, turned_fits}
use Rattle.twisting.proofs.TurningLaws.{reversed_bits}
use mathlib.Core.Path.{◌∙◌}
use native.Mathlib.Omega.{arith}
use Rattle.twisting.proofs.layout.Layout.turned_field.Goals as goal

pub overflow_cast-x : goal.overflow_cast-x
overflow_cast-x c = let fits = field_small _ _ c.args.self.least c.args.self.most c.requires in omega (arith, fits)

pub overflow_cast-result-2 : goal.overflow_cast-result-2
overflow_cast-result-2 c = let fits = turned_fits _ _ c.args.self.least c.args.self.most c.requires _ (c.reverse_bits.ensures ∙ reversed_bits 32 c.args.x) in omega (arith, fits)

pub returns : goal.returns
returns c = field_turned _ _ c.args.self.least c.args.self.most c.requires _ (c.reverse_bits.ensures ∙ reversed_bits 32 c.args.x)
