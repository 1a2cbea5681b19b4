use Rattle.twisting.proofs.StepLaws.{code_special, code_field}
use Rattle.twisting.proofs.layout.Layout.rearranged_word.Goals as goal

pub returns-then-self-e : goal.returns-then-self-e
returns-then-self-e c = code_special _ _ _ c.args.self.position_set c.args.self.least _ c.if-self-e.true

pub returns : goal.returns
returns c = code_field _ _ _ c.args.self.position_set _ c.if-self-e.false _ c.with_new_field.ensures
