use Rattle.slash.specs.Reading.{check_word}
use Rattle.vectors.specs.Checks.{checks}
use mathlib.Core.Path.{◌≡◌}
use lib.ListN.{drop}
use Rattle.vectors.proofs.check.words.Given as goal

abbrev pub invariant-loop-i : goal.invariant-loop-i
invariant-loop-i l = checks (check_word l.f) l.i (drop l.i l.operand) ≡ checks (check_word l.f) 0 l.operand
