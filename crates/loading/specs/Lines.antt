-- A line of a listing that is read back: what it gives, or its stop.
use Rattle.std.specs.Prelude.{ℕ, Option, Some, None, ◌&&◌, List, ◌++◌, take, ◌==◌, nat_le}
use Rattle.std.specs.Prelude.{if◌then◌else◌}
use Rattle.slash.specs.Answers.{Outcome, stop, done}
use Rattle.breaths.specs.Ratios.{ratio_of}
use Rattle.breaths.specs.Sums.{most_breaths}
use Rattle.breaths.specs.declared.ratio.Ratio.TheVariants.{Void}
use Rattle.text.specs.Numbers.{line_feed}
use Rattle.text.specs.Scan.{same}
use Rattle.text.specs.Lines.{name_text, line_of}
use Rattle.text.specs.declared.line.Name.{Name}
use Rattle.text.specs.declared.line.Name.TheVariants.{Number, All}
use Rattle.shapes.specs.declared.shape.Said.{Said}
use Rattle.loading.specs.Listable.{listable}
use Rattle.loading.specs.declared.line.Entry.{Entry}

-- Line n without its line feed, its name and its word. Stop 15: the word isn't listable, or disagrees with its columns: the line isn't the one
-- that is printed of it.
unfoldable pub agreeing : (n : ℕ) (line : List ℕ) → Name → (word : ℕ) → Entry → Outcome Entry
agreeing n line name w e = if listable w && same (line ++ line_feed) (line_of name (ratio_of w)) then done e else stop 15 n

-- Before that stop 14. `all` as the first line: only that of a night with nothing in it, which is void, is taken.
unfoldable pub total_at : (n : ℕ) (line : List ℕ) (word : ℕ) → Outcome Entry
total_at n line w =
    if n == 1 then (if same (line ++ line_feed) (line_of All Void) then done (Entry.Total 0) else stop 14 n)
    else agreeing n line All w (Entry.Total w)

-- A line of any name. Stop 14, too: a number out of sequence or above 65,536.
unfoldable pub in_sequence : (n : ℕ) (line name : List ℕ) (word : ℕ) → Outcome Entry
in_sequence n line name w =
    if same name (name_text All) then total_at n line w
    else (if same name (name_text (Number n)) && nat_le n most_breaths then agreeing n line (Number n) w (Entry.Breath w) else stop 14 n)

-- And first of all stop 13: it isn't so shaped.
unfoldable pub entry_of : (n : ℕ) → Option Said → (line : List ℕ) → Outcome Entry
entry_of n None line = stop 13 n
entry_of n (Some x) line = in_sequence n line (take x.name line) x.word
