use Rattle.text.proofs.PartLaws.{same_not, matching_start, matching_next, matching_end}
use native.Mathlib.Omega.{arith}
use Rattle.text.proofs.scan.is_same.Goals as goal

pub returns-then-a-b : goal.returns-then-a-b
returns-then-a-b c = same_not _ _ c.if-a-b.true

pub loop-i-init : goal.loop-i-init
loop-i-init c = matching_start _ _ (omega arith)

pub loop-i-preserved : goal.loop-i-preserved
loop-i-preserved c = matching_next c.loop-i.invariant c.loop-i-test.true

pub returns : goal.returns
returns c = matching_end c.loop-i.invariant c.loop-i-test.false
