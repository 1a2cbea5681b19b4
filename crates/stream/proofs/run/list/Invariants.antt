use Rattle.listing.specs.Nights.{is_night}
use Rattle.listing.specs.Steps.{next_line}
use Rattle.stream.proofs.InputLaws.{turns_left}
use Prim.Native.Nat.{◌≤◌}
use mathlib.Core.Bool.{true}
use lib.ListN.{length}
use mathlib.Core.Path.{◌≡◌}
use Prim.Native.Nat.{ℕ}
use mathlib.Core.List.{List}
use lib.ListN.{take}
use Rattle.std.specs.Prelude.{Some}
use Rattle.stream.proofs.WrittenLaws.{Progress}
use Rattle.stream.proofs.run.list.Given as goal

abbrev pub invariant-loop-bytes : goal.invariant-loop-bytes
invariant-loop-bytes g l =
    (16384 ≡ length l.bytes) × (32768 ≡ length l.text) × (l.filled ≤ length l.bytes) × (is_night l.night ≡ true)
    × ((all : List ℕ) → g.R.Read.remaining l.fn.from ≡ Some all
    → Progress all (g.W.Write.contents l.fn.to) (g.R.Read.remaining l.from) (g.W.Write.contents l.to) l.night (take l.filled l.bytes) l.last)

abbrev pub decreases-loop-bytes : goal.decreases-loop-bytes
decreases-loop-bytes g l = turns_left (next_line l.night) l.filled l.last
