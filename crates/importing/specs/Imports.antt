-- Records imported: the word of each into a lent vector.
use Rattle.std.specs.Prelude.{ℕ, zero, suc, ◌/◌, ◌%◌, not, List, [], ◌∷◌, eqb, length, drop}
use Rattle.std.specs.Prelude.{if◌then◌else◌}
use Rattle.slash.specs.Answers.{Outcome, stop}
use Rattle.vectors.specs.Each.{each}
use Rattle.importing.specs.Records.{Record, record_of, record_word}

-- The first records of some bytes, as many as are asked for.
unfoldable pub first_records : (count : ℕ) → List ℕ → List Record
first_records zero bytes = []
first_records (suc count) bytes = record_of bytes ∷ first_records count (drop 12 bytes)

-- The records of some bytes: every 12 are one.
unfoldable pub records_in : List ℕ → List Record
records_in bytes = first_records (length bytes / 12) bytes

-- Stop 16 for a byte count not a multiple of 12, 3 for a lent vector without exactly one place a record; then the records', lowest record first.
unfoldable pub import_each : (bytes words : List ℕ) → Outcome (List ℕ)
import_each bytes words =
    if not (eqb (length bytes % 12) 0) then stop 16 0 else
    if not (eqb (length (records_in bytes)) (length words)) then stop 3 0 else
    each record_word 0 (records_in bytes)
