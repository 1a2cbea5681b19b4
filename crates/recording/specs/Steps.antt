-- Reading in one pass: what the functions that read the start of some bytes promise.
use Rattle.std.specs.Prelude.{ℕ, suc, ◌+◌, ◌^◌, ◌≤◌, ◌<◌, ◌≡◌, Bool, false, not, ◌&&◌, ◌||◌, Option, Some, None, Ok, Err, List, [], ◌∷◌, ◌++◌, eqb, leb, length, get_or, take, drop}
use Rattle.std.specs.Prelude.{if◌then◌else◌}
use Rattle.slash.specs.Answers.{Outcome, stop, done}
use Rattle.breaths.specs.Breaths.{most_ticks}
use Rattle.breaths.specs.declared.breath.Breath.{Breath}
use Rattle.text.specs.Scan.{is_digit}
use Rattle.recording.specs.Lines.{digits_from, read_tick, read_line}
use Rattle.recording.specs.Reading.{Coming}
use Rattle.recording.specs.declared.line.Entry.{Entry}

-- Some bytes start with so many digits, those of v: there is no digit behind them, or no byte. Whatever bytes stand behind them go on from v,
-- where v is a tick mark.
pub record LeadingDigits (bs : List ℕ) (v count : ℕ) : Type 0 where
  pub within : count ≤ length bs
  pub few : v < 10 ^ count
  pub goes : (xs : List ℕ) → digits_from 0 (take count bs ++ xs) ≡ (if leb v most_ticks then digits_from v xs else None)
  pub stopped : count < length bs → (t : Bool) → (is_digit (get_or bs count 0) && t) ≡ false

-- The tick mark that is a number, where it is none above the largest.
unfoldable pub tick_of : ℕ → Option ℕ
tick_of v = if leb v most_ticks then Some v else None

-- A field is begun as a tick mark is: it isn't empty, and no 0 (byte 48) stands in front of another byte.
unfoldable pub is_begun : List ℕ → Bool
is_begun [] = false
is_begun (x ∷ xs) = not (eqb x 48) || eqb (length (x ∷ xs)) 1

-- From place `from` on stands the tick mark t, and then the byte e, which ends it.
pub record TickAt (bs : List ℕ) (from e t behind : ℕ) : Type 0 where
  pub field : List ℕ
  pub rest : List ℕ
  pub bytes : drop from bs ≡ field ++ (e ∷ rest)
  pub digits : digits_from 0 field ≡ Some t
  pub tick : read_tick field ≡ Some t
  pub place : behind ≡ from + suc (length field)
  pub short : behind ≤ from + 11

-- What is found is the place behind the tick mark t. Where there is none, nothing is said.
abbrev pub TickFound : (bs : List ℕ) (from e t : ℕ) → Option ℕ → Type 0
TickFound bs from e t (Some behind) = TickAt bs from e t behind
TickFound bs from e t None = Unit {0}

-- What one pass finds is the line. Of anything else nothing is said.
abbrev pub BreathFound : List ℕ → Option Entry → Type 0
BreathFound bs (Some x) = Ok x ≡ read_line bs
BreathFound bs None = Unit {0}

-- ---- the same without the numbers: what a line's length is found by

pub record DigitCount (bs : List ℕ) (count : ℕ) : Type 0 where
  pub value : ℕ
  pub leading : LeadingDigits bs value count

pub record TickEnd (bs : List ℕ) (from e behind : ℕ) : Type 0 where
  pub ticks : ℕ
  pub tick : TickAt bs from e ticks behind

abbrev pub TickEndFound : (bs : List ℕ) (from e : ℕ) → Option ℕ → Type 0
TickEndFound bs from e (Some behind) = TickEnd bs from e behind
TickEndFound bs from e None = Unit {0}

-- The bytes start with a breath's line of so many bytes.
pub record LineLength (bs : List ℕ) (used : ℕ) : Type 0 where
  pub breath : Breath
  pub read : Ok (record { breath = breath; used = used }) ≡ read_line bs

abbrev pub LineLengthFound : List ℕ → Option ℕ → Type 0
LineLengthFound bs (Some used) = LineLength bs used
LineLengthFound bs None = Unit {0}

-- How many bytes the next line takes, where it is a breath's.
unfoldable pub next_length : Outcome Coming → Outcome (Option ℕ)
next_length (Ok (Some entry)) = done (Some entry.used)
next_length (Ok None) = done None
next_length (Err s) = stop s.number s.place
