-- Demand 3: what it means that no held pair does better.
use Rattle.std.specs.Prelude.{ℕ, ◌≡◌, ◌≢◌, Bool, true}
use Rattle.convergents.specs.Pairs.{Pair, Better}
use Rattle.convergents.specs.Rounding.{held}

-- x is the best pair for N/D: it is held, and better than every other held pair, 1/0 included.
pub record Best (holds : ℕ → ℕ → Bool) (N D : ℕ) (x : Pair) : Type 0 where
  pub is_held : held holds x ≡ true
  pub better : (y : Pair) → held holds y ≡ true → y ≢ x → Better N D x y
