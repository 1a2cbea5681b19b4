-- Pairs r/s of whole numbers, how far a pair misses a ratio, and which of two does better.
use Rattle.std.specs.Prelude.{ℕ, ◌+◌, ◌-◌, ◌*◌, ◌<◌, ◌≡◌, ◌⊎◌, Bool, not, eqb}
use Rattle.std.specs.Int.{◌∣◌}

-- The pair numerator/denominator. 1/0 is a pair, for infinity.
pub record Pair : Type 0 where
  pub numerator : ℕ
  pub denominator : ℕ

abbrev pub pair : ℕ → ℕ → Pair
pair r s = record { numerator = r; denominator = s }

-- n/d is in lowest terms: only 1 divides both.
abbrev pub Lowest : ℕ → ℕ → Type 0
Lowest n d = (g : ℕ) → g ∣ n → g ∣ d → g ≡ 1

-- The size of m less n. (Of the two differences one is 0.)
abbrev pub apart : ℕ → ℕ → ℕ
apart m n = (m - n) + (n - m)

-- The papers' *miss* of r/s for N/D: the size of s times N less r times D.
abbrev pub miss : ℕ → ℕ → Pair → ℕ
miss N D x = apart (x.denominator * N) (x.numerator * D)

-- Whether the value of a pair isn't N/D.
unfoldable pub differs : ℕ → ℕ → Pair → Bool
differs N D x = not (eqb (x.denominator * N) (x.numerator * D))

-- y has a larger miss than x for N/D, or an equal miss and a larger sum of its parts.
abbrev pub Better : ℕ → ℕ → Pair → Pair → Type 0
Better N D x y =
    (miss N D x < miss N D y)
    ⊎ ((miss N D x ≡ miss N D y) × (x.numerator + x.denominator < y.numerator + y.denominator))
