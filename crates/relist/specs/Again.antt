-- A listing loaded, and printed again.
use Rattle.std.specs.Prelude.{ℕ, ◌≡◌, List}
use Rattle.slash.specs.Answers.{Outcome, done, ◌then◌}
use Rattle.loading.specs.Prints.{printed}
use Rattle.loading.specs.Loads.{load}

-- The stop of a text, or the listing of the words that it holds.
unfoldable pub printed_again : List ℕ → Outcome (List ℕ)
printed_again text = load text then λ l. done (printed l.words l.total)

-- A text that isn't refused is printed again byte for byte.
abbrev pub SameAgain : List ℕ → Type 0
SameAgain text = (again : List ℕ) → printed_again text ≡ done again → again ≡ text
