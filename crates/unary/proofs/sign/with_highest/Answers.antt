use Rattle.unary.proofs.OperationLaws.{power_some, set_fits, is_set, not_set}
use Rattle.unary.proofs.sign.with_highest.Goals as goal

pub overflow_sub-rest : goal.overflow_sub-rest
overflow_sub-rest c = power_some _ c.args.w c.requires

pub overflow_add-result : goal.overflow_add-result
overflow_add-result c = set_fits c.args.highest c.args.w c.requires

pub returns-then-set : goal.returns-then-set
returns-then-set c = is_set _ _ c.requires _ c.if-set.true

pub returns-else-set : goal.returns-else-set
returns-else-set c = not_set _ _ c.requires _ c.if-set.false
