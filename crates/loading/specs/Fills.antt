-- The lent lists behind loading: as they were on a stop; else the breath numbers and the words at their start, and their rest as it was.
use Rattle.std.specs.Prelude.{ℕ, zero, suc, ◌&&◌, List, [], ◌∷◌, length, nat_le}
use Rattle.std.specs.Prelude.{if◌then◌else◌}
use Rattle.slash.specs.Answers.{Outcome, stop, done, ◌then◌}
use Rattle.text.specs.Stores.{list_after}
use Rattle.loading.specs.Loads.{Listing, load}
use Rattle.loading.specs.declared.load.Counted.{Counted}

-- Last stop 7: a list shorter than the breaths.
unfoldable pub where_fits : (numbers words : ℕ) → Listing → Outcome Listing
where_fits p q l = if nat_le (length l.words) p && nat_le (length l.words) q then done l else stop 7 0

-- A text, and how long the lists of numbers and of words are.
unfoldable pub load_into : List ℕ → (numbers words : ℕ) → Outcome Listing
load_into text p q = load text then where_fits p q

-- The answer: the breath count and the total's word.
abbrev pub counted : Listing → Counted
counted l = record { breaths = length l.words; total = l.total }

unfoldable pub count_of : Outcome Listing → Outcome Counted
count_of o = o then λ l. done (counted l)

-- Numbers from n on, so many.
unfoldable pub up_from : (n count : ℕ) → List ℕ
up_from n zero = []
up_from n (suc count) = n ∷ up_from (suc n) count

-- The lists behind the call.
unfoldable pub numbers_after : Outcome Listing → List ℕ → List ℕ
numbers_after o old = list_after (o then λ l. done (up_from 1 (length l.words))) old

unfoldable pub words_after : Outcome Listing → List ℕ → List ℕ
words_after o old = list_after (o then λ l. done l.words) old
