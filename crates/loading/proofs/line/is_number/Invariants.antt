use Rattle.std.proofs.Common.{◌≡◌}
use Rattle.text.specs.Numbers.{decimal}
use Rattle.text.specs.Scan.{same}
use Rattle.loading.proofs.line.is_number.Given as goal

abbrev pub invariant-loop-m : goal.invariant-loop-m
invariant-loop-m l = same l.field (decimal l.n) ≡ same l.front (decimal l.m)

abbrev pub decreases-loop-m : goal.decreases-loop-m
decreases-loop-m l = l.m
