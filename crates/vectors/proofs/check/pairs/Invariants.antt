use Rattle.vectors.specs.Places.{places}
use Rattle.vectors.specs.Checks.{checks, check_operands}
use mathlib.Core.Path.{◌≡◌}
use lib.ListN.{drop}
use Rattle.vectors.proofs.check.pairs.Given as goal

abbrev pub invariant-loop-i : goal.invariant-loop-i
invariant-loop-i l = checks (check_operands l.f) l.i (drop l.i (places l.left l.right)) ≡ checks (check_operands l.f) 0 (places l.left l.right)
