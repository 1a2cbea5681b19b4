use Rattle.std.proofs.Common.{arith}
use Rattle.loading.proofs.ListableLaws.{lowest_least, lowest_end}
use Rattle.loading.proofs.listable.is_lowest.Goals as goal

pub loop-v-preserved : goal.loop-v-preserved
loop-v-preserved c = lowest_least c.loop-v.invariant (omega arith) c.min-v.ensures

pub returns : goal.returns
returns c = lowest_end c.loop-v.invariant (omega arith)
