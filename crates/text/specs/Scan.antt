-- Text taken apart: digits, parts, where a byte stands.
use Rattle.std.specs.Prelude.{ℕ, suc, Bool, true, false, ◌&&◌, List, [], ◌∷◌, eqb, leb}

-- A digit, from 0 (byte 48) to 9 (byte 57).
unfoldable pub is_digit : ℕ → Bool
is_digit x = leb 48 x && leb x 57

-- How many bytes stand before the first b: all of them if there is none.
unfoldable pub length_before : (b : ℕ) → List ℕ → ℕ
length_before b [] = 0
length_before b (x ∷ xs) = elim (eqb x b) [ true ↦ 0 | false ↦ suc (length_before b xs) ]

-- Two texts are the same, byte for byte.
unfoldable pub same : List ℕ → List ℕ → Bool
same [] [] = true
same [] (y ∷ ys) = false
same (x ∷ xs) [] = false
same (x ∷ xs) (y ∷ ys) = eqb x y && same xs ys

-- A byte put in front of the first of some parts.
abbrev pub in_first : ℕ → List (List ℕ) → List (List ℕ)
in_first x [] = (x ∷ []) ∷ []
in_first x (first ∷ others) = (x ∷ first) ∷ others

-- The parts of a text, parted by the byte b: the fields of a line by its tabs, the lines of a text by its line feeds.
unfoldable pub parted : (b : ℕ) → List ℕ → List (List ℕ)
parted b [] = [] ∷ []
parted b (x ∷ xs) = elim (eqb x b) [ true ↦ [] ∷ parted b xs | false ↦ in_first x (parted b xs) ]
