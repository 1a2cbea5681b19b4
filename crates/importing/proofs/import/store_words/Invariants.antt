use Prim.Native.Nat.{ℕ}
use lib.ListN.{length}
use Rattle.slash.specs.Steps.{or_zero}
use Rattle.vectors.specs.Steps.{Storing}
use Rattle.importing.specs.Records.{Record, record_word}
use Rattle.importing.specs.Imports.{first_records}
use Rattle.importing.proofs.import.store_words.Given as goal

abbrev pub word : Record → ℕ
word x = or_zero (record_word x)

abbrev pub invariant-loop-i : goal.invariant-loop-i
invariant-loop-i l = Storing word (first_records (length l.initial.words) l.records) l.initial.words l.words l.i
