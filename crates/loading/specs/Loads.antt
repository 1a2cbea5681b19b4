-- A listing read back: its words and its total, or the stop that its first bad line has.
use Rattle.std.specs.Prelude.{◌≡◌, Option, Some, None, Ok, Err, ℕ, suc, List, [], ◌∷◌}
use Rattle.slash.specs.Answers.{Outcome, stop, done}
use Rattle.text.specs.Scan.{parted}
use Rattle.shapes.specs.Shapes.{shape_of}
use Rattle.shapes.specs.declared.shape.Said.{Said}
use Rattle.loading.specs.Prints.{printed, IsListing}
use Rattle.loading.specs.declared.line.Entry.{Entry}
use Rattle.loading.specs.Lines.{entry_of}

pub record Listing : Type 0 where
  pub words : List ℕ
  pub total : ℕ

-- ---- a text, by the parts that its line feeds make: behind the last of them nothing follows. (`parted` gives at least one part.)

-- What stands behind the last line feed is nothing, or a line that isn't ended (stop 13).
unfoldable pub at_end : (n : ℕ) (rest : List ℕ) → Outcome Listing → Outcome Listing
at_end n [] next = next
at_end n (x ∷ xs) next = stop 13 n

-- Line n, behind `all`: stop 13 where it isn't so shaped, else 14.
unfoldable pub behind_all : (n : ℕ) → Option Said → Outcome Listing
behind_all n None = stop 13 n
behind_all n (Some x) = stop 14 n

-- From line n on, behind `all`.
unfoldable pub ended_from : (n total : ℕ) → List (List ℕ) → Outcome Listing
ended_from n t [] = stop 14 n
ended_from n t (rest ∷ []) = at_end n rest (done (record { words = []; total = t }))
ended_from n t (line ∷ next ∷ more) = behind_all n (shape_of line)

-- One word in front.
unfoldable pub with_word : ℕ → Outcome Listing → Outcome Listing
with_word w (Err s) = Err s
with_word w (Ok l) = done (record { words = w ∷ l.words; total = l.total })

-- From line n on. Stop 14, too: no `all`, at the line after the last.
unfoldable pub load_from : (n : ℕ) → List (List ℕ) → Outcome Listing
load_from n [] = stop 14 n
load_from n (rest ∷ []) = at_end n rest (stop 14 n)
load_from n (line ∷ next ∷ more) =
    elim (entry_of n (shape_of line) line) [
      | Err s ↦ Err s
      | Ok e ↦ elim e [
        | Entry.Breath w ↦ with_word w (load_from (suc n) (next ∷ more))
        | Entry.Total w ↦ ended_from (suc n) w (next ∷ more)
      ]
    ]

-- The listing that a text is.
unfoldable pub load : List ℕ → Outcome Listing
load text = load_from 1 (parted 10 text)

-- ---- exactly these

-- A text is loaded just where it is the printed listing of 0 to 65,536 listable words and a listable total, void where there are no words: as these.
pub record Exactly (text : List ℕ) : Type 0 where
  pub recovered : (words : List ℕ) (total : ℕ) → IsListing words total → text ≡ printed words total → load text ≡ done (record { words = words; total = total })
  pub printed_again : (l : Listing) → load text ≡ done l → IsListing l.words l.total × (text ≡ printed l.words l.total)
