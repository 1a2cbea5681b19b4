use Rattle.twisting.proofs.StepLaws.{field_fits, new_word, word_fits, way_is}
use Rattle.twisting.specs.Steps.{way_of}
use lib.Bits.{and_le_l}
use native.Mathlib.Omega.{arith}
use Rattle.twisting.proofs.layout.Layout.with_new_field.Goals as goal

pub turned_field-t-requires : goal.turned_field-t-requires
turned_field-t-requires c = field_fits c.args.self.k c.args.e c.args.w c.args.self.ones c.requires c.args.self.most c.args.self.field_set

pub overflow_sub-result : goal.overflow_sub-result
overflow_sub-result c = and_le_l c.args.w c.args.self.ones

pub twisted_field-requires : goal.twisted_field-requires
twisted_field-requires c = (c.requires, field_fits c.args.self.k c.args.e c.args.w c.args.self.ones c.requires c.args.self.most c.args.self.field_set, c.turned_field-t.ensures)

pub overflow_add-result : goal.overflow_add-result
unfolding way_of
overflow_add-result c = let fits = word_fits c.args.self.k c.args.e c.args.w c.args.self.ones c.requires c.args.self.most c.args.self.field_set c.args.way c.twisted_field.result (way_is c.in-Twist.is _ _ _ c.twisted_field.ensures) c.ranges.w.fits in omega (arith, fits)

pub overflow_sub-result-in-Untwist : goal.overflow_sub-result-in-Untwist
overflow_sub-result-in-Untwist c = and_le_l c.args.w c.args.self.ones

pub untwisted_field-requires : goal.untwisted_field-requires
untwisted_field-requires c = (c.requires, field_fits c.args.self.k c.args.e c.args.w c.args.self.ones c.requires c.args.self.most c.args.self.field_set, c.turned_field-t.ensures)

pub overflow_add-result-in-Untwist : goal.overflow_add-result-in-Untwist
unfolding way_of
overflow_add-result-in-Untwist c = let fits = word_fits c.args.self.k c.args.e c.args.w c.args.self.ones c.requires c.args.self.most c.args.self.field_set c.args.way c.untwisted_field.result (way_is c.in-Untwist.is _ _ _ c.untwisted_field.ensures) c.ranges.w.fits in omega (arith, fits)

pub returns-in-Twist : goal.returns-in-Twist
unfolding way_of
returns-in-Twist c = new_word c.args.self.k c.args.e c.args.w c.args.self.ones c.requires c.args.self.most c.args.self.field_set c.args.way c.twisted_field.result (way_is c.in-Twist.is _ _ _ c.twisted_field.ensures)

pub returns-in-Untwist : goal.returns-in-Untwist
unfolding way_of
returns-in-Untwist c = new_word c.args.self.k c.args.e c.args.w c.args.self.ones c.requires c.args.self.most c.args.self.field_set c.args.way c.untwisted_field.result (way_is c.in-Untwist.is _ _ _ c.untwisted_field.ensures)
