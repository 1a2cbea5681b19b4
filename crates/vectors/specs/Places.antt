-- The operands at the places of lent vectors.
use Rattle.std.specs.Prelude.{ℕ, Bool, List, [], ◌∷◌, eqb, length}

-- The operands at a place of two vectors.
pub record Operands : Type 0 where
  pub left : ℕ
  pub right : ℕ

abbrev pub operands : ℕ → ℕ → Operands
operands l r = record { left = l; right = r }

-- Those at each place, as far as both vectors go.
unfoldable pub places : List ℕ → List ℕ → List Operands
places [] right = []
places (l ∷ left) [] = []
places (l ∷ left) (r ∷ right) = operands l r ∷ places left right

unfoldable pub same_length : List ℕ → List ℕ → Bool
same_length xs ys = eqb (length xs) (length ys)
