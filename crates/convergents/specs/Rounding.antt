-- Rounding: the last convergent that a limit holds.
use Rattle.std.specs.Prelude.{ℕ, zero, suc, ◌≤◌, ◌≡◌, Bool, true, false, List, [], ◌∷◌, eqb}
use Rattle.convergents.specs.Pairs.{Pair, pair}
use Rattle.convergents.specs.Convergents.{convergents}

-- A limit says which pairs r/s with s at least 1 are held. It holds 1/1, and with a pair every pair with no larger numerator and no larger
-- nonzero denominator.
pub record Limit (holds : ℕ → ℕ → Bool) : Type 0 where
  pub one : holds 1 1 ≡ true
  pub downward : (r s r' s' : ℕ) → holds r s ≡ true → r' ≤ r → 1 ≤ s' → s' ≤ s → holds r' s' ≡ true

-- Under any limit 1/0 is held too, and no other pair with denominator 0.
unfoldable pub held : (ℕ → ℕ → Bool) → Pair → Bool
held holds x = elim x.denominator [ zero ↦ eqb x.numerator 1 | suc s ↦ holds x.numerator (suc s) ]

-- The last pair of a list that is held, or x where none is.
unfoldable pub last_held : (ℕ → ℕ → Bool) → Pair → List Pair → Pair
last_held holds x [] = x
last_held holds x (y ∷ ys) = elim (held holds y) [ true ↦ last_held holds y ys | false ↦ last_held holds x ys ]

-- N/D rounded: the last of its convergents that is held. (The first, 1/0, is.)
unfoldable pub round : (ℕ → ℕ → Bool) → ℕ → ℕ → Pair
round holds N D = last_held holds (pair 1 0) (convergents N D)

-- 01: the ones held come first in the list (`held_first`). None of a list is held:
abbrev pub NoneHeld : (ℕ → ℕ → Bool) → List Pair → Type 0
NoneHeld holds [] = Unit {0}
NoneHeld holds (y ∷ ys) = (held holds y ≡ false) × NoneHeld holds ys

-- and the held ones of a list come first.
pub data HeldFirst (holds : ℕ → ℕ → Bool) : List Pair → Type 0 where
  rest : {ys : List Pair} → NoneHeld holds ys → HeldFirst holds ys
  more : {y : Pair} {ys : List Pair} → held holds y ≡ true → HeldFirst holds ys → HeldFirst holds (y ∷ ys)
