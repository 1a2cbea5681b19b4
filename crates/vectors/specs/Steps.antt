-- For the code and the proofs alone: a loop that stores a word at each place.
use Rattle.std.specs.Prelude.{ℕ, ◌≤◌, List, ◌++◌, map, ◌≡◌, length, take, drop}

-- Of the operands xs the first i have their words stored into out, which is as long as it was before; what is stored, and what is made of
-- the rest, is the whole.
abbrev pub Storing : {A : Type 0} → (A → ℕ) → List A → (before out : List ℕ) (i : ℕ) → Type 0
Storing g xs before out i = (i ≤ length xs) × (length out ≡ length before) × (take i out ++ map g (drop i xs) ≡ map g xs)
