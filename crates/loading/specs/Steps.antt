-- For the code and the proofs alone: what the functions that read a text and fill the lists promise.
use Rattle.std.specs.Prelude.{◌≡◌, ℕ, suc, ◌+◌, ◌*◌, ◌/◌, ◌%◌, ◌≤◌, Bool, true, false, ◌&&◌, Option, Some, None, Ok, Err, List, [], ◌∷◌, length, take, drop, ◌==◌}
use Rattle.std.specs.Prelude.{if◌then◌else◌}
use Rattle.convergents.specs.Pairs.{Lowest}
use Rattle.slash.specs.Answers.{Outcome, done, ◌then◌}
use Rattle.breaths.specs.Ratios.{ratio_of}
use Rattle.text.specs.Scan.{same, length_before, parted}
use Rattle.text.specs.Lines.{line_of}
use Rattle.text.specs.declared.line.Name.{Name}
use Rattle.loading.specs.Listable.{listable}
use Rattle.loading.specs.Loads.{Listing, with_word, load_from, ended_from}
use Rattle.loading.specs.Fills.{up_from}
use Rattle.loading.specs.declared.first.Line.{Line}
use Rattle.loading.specs.declared.load.Turn.{Turn}

-- ---- a word

-- Whether two parts are in lowest terms.
abbrev pub IsLowest : (n d : ℕ) → Bool → Type 0
IsLowest n d true = Lowest n d
IsLowest n d false = Lowest n d → ⊥

-- The value of a hexadecimal digit: bit 6 tells a letter, whose lowest bits count from 1, for ten.
abbrev pub digit_value : ℕ → ℕ
digit_value x = x % 16 + x / 64 * 9

-- The word that bytes say behind a value, were they such digits.
unfoldable pub word_from : (value : ℕ) → List ℕ → ℕ
word_from value [] = value
word_from value (x ∷ xs) = word_from (value * 16 + digit_value x) xs

-- ---- a line

-- A text begins with the line that is printed for a name and a listable word.
unfoldable pub begins : List ℕ → Name → (word : ℕ) → Bool
begins text name w = listable w && same (take (length (line_of name (ratio_of w))) text) (line_of name (ratio_of w))

-- How many bytes that line has; nothing where the text begins otherwise.
unfoldable pub line_there : List ℕ → Name → (word : ℕ) → Option ℕ
line_there text name w = if begins text name w then Some (length (line_of name (ratio_of w))) else None

-- ---- a text, line by line

-- A breath's line uses so many bytes, and the rest is loaded behind its word.
pub record Breath (n : ℕ) (text : List ℕ) (used : ℕ) : Type 0 where
  pub word : ℕ
  pub some : 1 ≤ used
  pub within : used ≤ length text
  pub few : n ≤ 65536
  pub goes : load_from n (parted 10 text) ≡ with_word word (load_from (suc n) (parted 10 (drop used text)))

-- A text begins with line n; or it has no byte; or that line isn't ended (stop 13).
abbrev pub LineIs : (n : ℕ) → List ℕ → Outcome (Option Line) → Type 0
LineIs n text (Err s) = (s ≡ record { number = 13; place = n }) × (length_before 10 text ≡ length text) × (length text ≡ 0 → ⊥)
LineIs n text (Ok None) = (length_before 10 text ≡ length text) × (length text ≡ 0)
LineIs n text (Ok (Some line)) = (line.text.now ≡ text) × (line.number ≡ n)

abbrev pub TurnIs : (n : ℕ) → List ℕ → Outcome Turn → Type 0
TurnIs n text (Err s) = load_from n (parted 10 text) ≡ Err s
TurnIs n text (Ok (Turn.More used)) = Breath n text used
TurnIs n text (Ok (Turn.Closed w)) = load_from n (parted 10 text) ≡ done (record { words = []; total = w })

-- From line n on, behind `all`, stands nothing; or there is a stop.
abbrev pub EndIs : (n : ℕ) → List ℕ → Outcome (Unit {0}) → Type 0
EndIs n text end = (t : ℕ) → ended_from n t (parted 10 text) ≡ (end then λ _. done (record { words = []; total = t }))

-- ---- filling the lists

-- Whether a byte ends a line, as a number.
unfoldable pub end_mark : ℕ → ℕ
end_mark x = if x == 10 then 1 else 0

unfoldable pub words_in : Outcome Listing → List ℕ
words_in (Err s) = []
words_in (Ok l) = l.words

unfoldable pub numbers_in : Outcome Listing → List ℕ
numbers_in o = up_from 1 (length (words_in o))

-- What filling takes for granted.
pub record Fits (o : Outcome Listing) (count numbers words : ℕ) : Type 0 where
  pub listing : Listing
  pub is : o ≡ done listing
  pub counted : count ≡ length listing.words
  pub numbers_fit : length listing.words ≤ numbers
  pub words_fit : length listing.words ≤ words
