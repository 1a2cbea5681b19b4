-- For the code and the proofs alone: what a record that was read holds, and the rules that its numbers keep.
use Rattle.std.specs.Prelude.{ℕ, ◌≤◌, ◌<◌, Float}
use Rattle.std.specs.Float.{binary32}
use Rattle.std.specs.Float.Ieee.{to_bits}
use Rattle.convergents.specs.Pairs.{Pair}
use Rattle.slash.specs.Answers.{Outcome}
use Rattle.vectors.specs.Each.{stop_only}
use Rattle.breaths.specs.Ratios.{parts_ratio}
use Rattle.breaths.specs.declared.ratio.Ratio.{Ratio}
use Rattle.importing.specs.Floats.{least, one, beyond}
use Rattle.importing.specs.Records.{Record, Content, timings, ratio, content_of}
use Rattle.importing.specs.declared.record.Imported.{Imported}

abbrev pub bits_of : Float → ℕ
bits_of x = to_bits binary32 x

-- What an imported record holds: its floats by their bits.
unfoldable pub imported_content : Imported → Content
imported_content (Imported.Timings t) = timings (bits_of t.inspiration) (bits_of t.whole)
imported_content (Imported.Ratio x) = ratio (bits_of x)

-- Two numbers from 2^-10 to below 2^10, the first no larger than the second.
pub record InOrder (first second : ℕ) : Type 0 where
  pub from : least ≤ first
  pub order : first ≤ second
  pub below : second < beyond

abbrev pub KeepsRules : Content → Type 0
KeepsRules (timings inspiration whole) = InOrder inspiration whole
KeepsRules (ratio number) = InOrder number one

-- An exact ratio rounded.
unfoldable pub rounded_ratio : Pair → Ratio
rounded_ratio x = parts_ratio x.numerator x.denominator

-- Whether a record is good: its stop, or none.
unfoldable pub check_record : Record → Outcome (Unit {0})
check_record r = stop_only (content_of r)
