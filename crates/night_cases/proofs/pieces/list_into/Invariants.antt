use Rattle.listing.specs.Nights.{is_night}
use Rattle.std.proofs.Common.{◌≡◌, ◌≤◌, true, length}
use Rattle.night_cases.proofs.pieces.list_into.Given as goal

abbrev pub invariant-loop : goal.invariant-loop
invariant-loop g l = (l.from ≤ l.end) × (l.end ≤ length l.bytes) × (is_night l.night ≡ true)
