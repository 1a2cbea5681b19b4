-- Text in a lent list.
use Rattle.std.specs.Prelude.{ℕ, Ok, Err, ◌+◌, List, ◌++◌, ◌≡◌, length, drop}
use Rattle.std.proofs.lemmas.List.Edits.{sets}
use Rattle.slash.specs.Answers.{Outcome, done, ◌then◌}

-- o with the bytes of t from place k on, and every other place as it was; what runs past o's end is dropped.
unfoldable pub put : List ℕ → ℕ → List ℕ → List ℕ
put o k t = sets o k t

-- A lent list with new bytes stored at its start, and its rest as it was.
abbrev pub at_start : (new old : List ℕ) → List ℕ
at_start new old = new ++ drop (length new) old

-- ---- a call that makes a text, or stops

-- How long the text is.
unfoldable pub length_of : Outcome (List ℕ) → Outcome ℕ
length_of o = o then λ text. done (length text)

-- What the lent list is then: as it was on a stop; else with the text at its start.
unfoldable pub list_after : Outcome (List ℕ) → List ℕ → List ℕ
list_after (Err s) old = old
list_after (Ok text) old = at_start text old

-- ---- a store

-- t was stored into o from place k on: the list is now o', and k' is the place behind t.
pub record Stored (o : List ℕ) (k : ℕ) (t : List ℕ) (o' : List ℕ) (k' : ℕ) : Type 0 where
  pub bytes : o' ≡ put o k t
  pub next : k' ≡ k + length t
