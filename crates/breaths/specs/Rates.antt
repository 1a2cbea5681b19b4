-- A recording's tick rate.
use Rattle.std.specs.Prelude.{ℕ, Bool, ◌&&◌, nat_le}
use Rattle.std.specs.Prelude.{if◌then◌else◌}
use Rattle.slash.specs.Answers.{Outcome, stop, done}
use Rattle.breaths.specs.declared.rate.Rate.{Rate}

-- A rate is a whole number from 1 to 4096: so many ticks a second.
unfoldable pub is_rate : ℕ → Bool
is_rate ticks = nat_le 1 ticks && nat_le ticks 4096

-- What making a rate of a caller's number comes to. Stop 19: a rate out of 1 to 4096.
unfoldable pub make_rate : ℕ → Outcome Rate
make_rate ticks = if is_rate ticks then done (record { ticks = ticks }) else stop 19 0
