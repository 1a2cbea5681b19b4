-- The floor, the ceiling and mod 1 of a signed numerator over a denominator.
use Rattle.std.specs.Prelude.{ℕ, ◌/◌, Bool, true, false, ℤ, pos, negsuc, neg_ℤ, nat_abs, ◌-ℤ◌, ◌*ℤ◌}

-- The sign of a signed number: 0 has none.
unfoldable pub is_below_zero : ℤ → Bool
is_below_zero (pos n) = false
is_below_zero (negsuc m) = true

-- The floor of n/d, the largest whole number at or below it: that of -(m+1)/d is -(m/d + 1).
unfoldable pub floor_by : ℤ → ℕ → ℤ
floor_by (pos n) d = pos (n / d)
floor_by (negsuc m) d = negsuc (m / d)

-- The ceiling, the smallest whole number at or above it: the floor of what lies as far on the other side of 0, put back.
unfoldable pub ceiling_by : ℤ → ℕ → ℤ
ceiling_by n d = neg_ℤ (floor_by (neg_ℤ n) d)

-- Mod 1, what lies above the floor, as a numerator over d: n less d times the floor.
unfoldable pub above_floor : ℤ → ℕ → ℕ
above_floor n d = nat_abs (n -ℤ pos d *ℤ floor_by n d)
