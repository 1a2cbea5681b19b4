use Rattle.loading.proofs.TextLaws.{Reading}
use Rattle.std.proofs.Common.{◌-◌, length}
use Rattle.loading.proofs.load.check.Given as goal

abbrev pub invariant-loop-used : goal.invariant-loop-used
invariant-loop-used l = Reading l.text l.from l.n

abbrev pub decreases-loop-used : goal.decreases-loop-used
decreases-loop-used l = length l.text - l.from
