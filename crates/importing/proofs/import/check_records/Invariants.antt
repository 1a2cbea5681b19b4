use mathlib.Core.Path.{◌≡◌}
use Rattle.std.specs.Slice.Iter.{chunks_exact_rest, chunks_exact_size}
use Rattle.vectors.specs.Checks.{checks}
use Rattle.importing.specs.Imports.{records_in}
use Rattle.importing.specs.Steps.{check_record}
use Rattle.importing.proofs.import.check_records.Given as goal

abbrev pub invariant-loop-i : goal.invariant-loop-i
invariant-loop-i l =
    (chunks_exact_size l.i-iterator.iter ≡ 12)
    × (checks check_record l.i-iterator.count (records_in (chunks_exact_rest l.i-iterator.iter)) ≡ checks check_record 0 (records_in l.records))
