-- The partial quotients of a ratio, and its convergents.
use Rattle.std.specs.Prelude.{ℕ, zero, suc, ◌+◌, ◌*◌, ◌/◌, ◌%◌, List, [], ◌∷◌}
use Rattle.convergents.specs.Pairs.{Pair, pair}

-- Euclid's algorithm on n and d, at most `steps` steps of it: the quotient of n by d, then those of d and the remainder, until nothing is
-- left to divide by. A remainder is less than what it was divided by, so d steps are always enough (`euclid_enough`).
unfoldable pub euclid : (steps : ℕ) → ℕ → ℕ → List ℕ
euclid zero n d = []
euclid (suc steps) n zero = []
euclid (suc steps) n (suc d) = n / suc d ∷ euclid steps (suc d) (n % suc d)

-- The partial quotients of N/D, the first one first. The last is at least 2 unless it is the only one (`last_quotient`).
unfoldable pub quotients : ℕ → ℕ → List ℕ
quotients N D = euclid D N D

-- The usual recurrence: after p₀/q₀ and p/q, a quotient a gives (a p + p₀) / (a q + q₀).
unfoldable pub recurrence : Pair → Pair → List ℕ → List Pair
recurrence x₀ x [] = []
recurrence x₀ x (a ∷ following) =
    let y : Pair = pair (a * x.numerator + x₀.numerator) (a * x.denominator + x₀.denominator) in
    y ∷ recurrence x y following

-- The convergents of N/D: 1/0 first, then those of the recurrence.
unfoldable pub convergents : ℕ → ℕ → List Pair
convergents N D = pair 1 0 ∷ recurrence (pair 0 1) (pair 1 0) (quotients N D)
