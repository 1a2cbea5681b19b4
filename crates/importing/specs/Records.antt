-- A record of the scoring package: 12 bytes, a 32-bit kind, then two binary32 numbers, all lowest byte first.
use Rattle.std.specs.Prelude.{ℕ, ◌+◌, ◌*◌, ◌&&◌, List, [], ◌∷◌, eqb, take, drop}
use Rattle.std.specs.Prelude.{if◌then◌else◌}
use Rattle.convergents.specs.Pairs.{Pair}
use Rattle.slash.specs.Answers.{Outcome, stop, done, ◌then◌, WhenDone}
use Rattle.slash.specs.Best.{BestForRatio}
use Rattle.breaths.specs.Ratios.{ratio_format, ratio_word}
use Rattle.importing.specs.Floats.{one, are_timings, is_ratio, float_ratio}

-- The number that some bytes are, lowest byte first.
unfoldable pub lowest_first : List ℕ → ℕ
lowest_first [] = 0
lowest_first (b ∷ bytes) = b + 256 * lowest_first bytes

-- A record's kind, and the bits of its two numbers.
pub record Record : Type 0 where
  pub kind : ℕ
  pub first : ℕ
  pub second : ℕ

-- The number of the four bytes from a place on.
unfoldable pub number_at : List ℕ → ℕ → ℕ
number_at bytes at = lowest_first (take 4 (drop at bytes))

-- The record that some bytes begin with.
unfoldable pub record_of : List ℕ → Record
record_of bytes = record { kind = number_at bytes 0; first = number_at bytes 4; second = number_at bytes 8 }

-- What a record holds, each number by its bits: seconds of inspiration and seconds of the whole breath, or the ratio itself.
pub data Content : Type 0 where
  timings : (inspiration whole : ℕ) → Content
  ratio : (number : ℕ) → Content

-- Kind 1 holds timings, kind 2 the ratio and a second number whose bits are all 0. Stop 17 for an unknown kind, 18 for a number that breaks
-- the rules.
unfoldable pub content_of : Record → Outcome Content
content_of r =
    if eqb r.kind 1 then
    (if are_timings r.first r.second then done (timings r.first r.second) else stop 18 0) else
    if eqb r.kind 2 then
    (if is_ratio r.first && eqb r.second 0 then done (ratio r.first) else stop 18 0) else
    stop 17 0

-- The exact ratio, N over D. The ratio of kind 2 is a number over 1.
unfoldable pub content_ratio : Content → Pair
content_ratio (timings inspiration whole) = float_ratio inspiration whole
content_ratio (ratio number) = float_ratio number one

-- A record's word: its ratio rounded to fixed k = 15.
unfoldable pub record_word : Record → Outcome ℕ
record_word r =
    content_of r then λ c.
    done (ratio_word (content_ratio c).numerator (content_ratio c).denominator)

-- Demand 3, of a record and its word: no word of the format misses the record's exact ratio by less.
unfoldable pub BestRecord : Record → ℕ → Type 0
BestRecord r w = WhenDone (content_of r) (λ c. BestForRatio ratio_format (content_ratio c).numerator (content_ratio c).denominator w)
