-- For the code and the proofs alone: what the functions that store text ask.
use Rattle.std.specs.Prelude.{ℕ, ◌+◌, ◌/◌, ◌%◌, ◌≤◌, List, [], ◌∷◌, length}

-- A list has room for t from place k on.
pub record Room (o : List ℕ) (k : ℕ) (t : List ℕ) : Type 0 where
  pub room : k + length t ≤ length o

-- Both digits of a number below 100, the first of which may be 0.
unfoldable pub two_digits : ℕ → List ℕ
two_digits n = (48 + n / 10) ∷ (48 + n % 10) ∷ []
