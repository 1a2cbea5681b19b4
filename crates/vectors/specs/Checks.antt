-- The words of vectors checked.
use Rattle.std.specs.Prelude.{ℕ, suc, not, List, [], ◌∷◌}
use Rattle.std.specs.Prelude.{if◌then◌else◌}
use Rattle.slash.specs.Answers.{Outcome, stop, done, ◌then◌}
use Rattle.slash.specs.Formats.{when_known}
use Rattle.slash.specs.Reading.{check_word}
use Rattle.slash.specs.declared.format.Format.{Format}
use Rattle.vectors.specs.Each.{at_place}
use Rattle.vectors.specs.Places.{Operands, places, same_length}

-- A check at each place, from place i on.
unfoldable pub checks : {A : Type 0} → (A → Outcome (Unit {0})) → ℕ → List A → Outcome (Unit {0})
checks check i [] = done tt
checks check i (x ∷ xs) =
    at_place i (check x) then λ _.
    checks check (suc i) xs

-- The words at a place of two vectors, the left one first.
unfoldable pub check_operands : Format → Operands → Outcome (Unit {0})
check_operands f x = check_word f x.left then λ _. check_word f x.right

-- Stop 1 for the format, then the words'.
unfoldable pub checked_words : Format → List ℕ → Outcome (Unit {0})
checked_words f operand = when_known f (checks (check_word f) 0 operand)

-- The same of two vectors, after stop 3 for unequal lengths.
unfoldable pub checked_pairs : Format → (left right : List ℕ) → Outcome (Unit {0})
checked_pairs f left right =
    when_known f (
    if not (same_length left right) then stop 3 0 else
    checks (check_operands f) 0 (places left right))
