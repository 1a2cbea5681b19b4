-- The records of some bytes, one after the other, and the answers of `import_records`. Assumes nothing.
-- `record_at`: record i begins at byte 12 times i. `records_stop`, `records_good`, `records_end`: the check, a record at a time. `import_bytes`,
-- `import_length`: stops 16 and 3. `import_stopped`, `import_done`: the records' stop, or their words and demand 3.
use mathlib.Core.Path.{◌≡◌, refl, sym, ap, ◌∙◌}
use mathlib.Core.List.{List, ◌∷◌, ◌++◌, map}
use Prim.Native.Nat.{ℕ, zero, suc, ◌+◌, ◌-◌, ◌*◌, ◌/◌, ◌%◌, ◌≤◌, ◌<◌}
use native.Mathlib.Omega.{arith}
use native.Mathlib.Numerals.{add-one}
use native.Mathlib.Nat.{not-suc-le-zero, le_of_suc-le-suc}
use lib.ListN.{length, take, drop, length-drop, length-append}
use lib.Seq.{drop-drop, take_all, drop-append_seam}
use Rattle.std.proofs.lemmas.List.{drop-append-le, take-append-le}
use borrow.Author.Tests.{eq-eqb, ne_eqb}
use Rattle.std.specs.Prelude.{Ok, Err}
use Rattle.slash.specs.Answers.{Outcome, stop, done}
use Rattle.slash.specs.Steps.{or_zero}
use Rattle.slash.specs.declared.answer.Stop.{Stop}
use Rattle.vectors.specs.Each.{at_place, each, vector_after, stop_only, EachPlace}
use Rattle.vectors.specs.Checks.{checks}
use Rattle.vectors.proofs.EachLaws.{each_stopped, each_done}
use Rattle.importing.specs.Records.{Record, lowest_first, number_at, record_of, record_word, BestRecord}
use Rattle.importing.specs.Imports.{first_records, records_in, import_each}
use Rattle.importing.specs.Steps.{check_record}
use Rattle.importing.proofs.RecordLaws.{stops_alike, record_best}

-- ---- the records

pub records_long : (n : ℕ) (s : List ℕ) → length (first_records n s) ≡ n
unfolding first_records
records_long zero s = refl
records_long (suc n) s = ap suc (records_long n (drop 12 s))

record_next : (n : ℕ) (s : List ℕ) (i : ℕ) → i < n → drop i (first_records n s) ≡ record_of (drop (12 * i) s) ∷ drop (suc i) (first_records n s)
unfolding first_records
record_next zero s i h = absurd (not-suc-le-zero h)
record_next (suc n) s zero h = refl
record_next (suc n) s (suc i) h =
    let e : 12 + 12 * i ≡ 12 * suc i = omega arith in
    let far : drop (12 * i) (drop 12 s) ≡ drop (12 * suc i) s = drop-drop (12 * i) 12 s ∙ ap (λ (j : ℕ). drop j s) e in
    record_next n (drop 12 s) i (le_of_suc-le-suc h) ∙ ap (λ (t : List ℕ). record_of t ∷ drop (suc i) (first_records n (drop 12 s))) far

-- what the code reads: the bytes from record i on
abbrev pub bytes_from : List ℕ → ℕ → List ℕ
bytes_from s i = take (length s - 12 * i) (drop (12 * i) s)

from_is : (s : List ℕ) (i : ℕ) → bytes_from s i ≡ drop (12 * i) s
from_is s i = take_all (length s - 12 * i) (drop (12 * i) s) (omega (arith, length-drop (12 * i) s))

pub record_at : (n : ℕ) (s : List ℕ) (i : ℕ) → i < n → drop i (first_records n s) ≡ record_of (bytes_from s i) ∷ drop (i + 1) (first_records n s)
record_at n s i h = rw (add-one, from_is s i) (record_next n s i h)

-- the same from the front: a whole record, and the bytes behind it
module _ (x rest : List ℕ) (long : length x ≡ 12) where
  number_first : (at : ℕ) → at + 4 ≤ 12 → number_at (x ++ rest) at ≡ number_at x at
  unfolding number_at
  number_first at h =
      ap (λ (t : List ℕ). lowest_first (take 4 t)) (drop-append-le at x rest (omega arith))
      ∙ ap lowest_first (take-append-le 4 (drop at x) rest (omega (arith, length-drop at x)))

  record_first : record_of (x ++ rest) ≡ record_of x
  unfolding record_of
  record_first = rw (number_first 0 (omega arith), number_first 4 (omega arith), number_first 8 (omega arith)) refl

  records_next : records_in (x ++ rest) ≡ record_of x ∷ records_in rest
  unfolding records_in first_records
  records_next =
      let n : length (x ++ rest) / 12 ≡ suc (length rest / 12) = omega (arith, length-append x rest) in
      let d : drop 12 (x ++ rest) ≡ rest = ap (λ (j : ℕ). drop j (x ++ rest)) (sym long) ∙ drop-append_seam x rest in
      rw (n, d, record_first) refl

-- the checks, a record at a time
module _ {bytes : List ℕ} (x rest : List ℕ) {i j : ℕ} (is : bytes ≡ x ++ rest) (long : length x ≡ 12) (at : j ≡ i) where
  pub records_stop : {s : Stop} → Err s ≡ check_record (record_of x) → stop s.number j ≡ checks check_record i (records_in bytes)
  unfolding checks at_place
  records_stop d = rw (is, at, records_next x rest long, ← d) refl

  pub records_good : {k : ℕ} → k ≡ i + 1 → done tt ≡ check_record (record_of x) → checks check_record k (records_in rest) ≡ checks check_record i (records_in bytes)
  unfolding checks at_place
  records_good e d = rw (is, records_next x rest long, ← d, e, add-one) refl

pub records_end : (rest : List ℕ) (i : ℕ) → length rest < 12 → done tt ≡ checks check_record i (records_in rest)
unfolding checks records_in first_records
records_end rest i h =
    let n : length rest / 12 ≡ 0 = omega arith in
    rw n refl

-- ---- the answers

module _ (bytes words : List ℕ) where
  pub import_bytes : (length bytes % 12 ≡ 0 → ⊥) → stop 16 0 ≡ import_each bytes words
  unfolding import_each
  import_bytes n = rw (ne_eqb _ _ n) refl

  module _ (whole : length bytes % 12 ≡ 0) where
    many : length (records_in bytes) ≡ length bytes / 12
    unfolding records_in
    many = records_long (length bytes / 12) bytes

    pub import_length : (length bytes / 12 ≡ length words → ⊥) → stop 3 0 ≡ import_each bytes words
    unfolding import_each
    import_length n = rw (eq-eqb _ _ whole, many, ne_eqb _ _ n) refl

    module _ (equal : length bytes / 12 ≡ length words) where
      import_all : each record_word 0 (records_in bytes) ≡ import_each bytes words
      unfolding import_each
      import_all = rw (eq-eqb _ _ whole, eq-eqb _ _ (many ∙ equal)) refl

      same_records : first_records (length words) bytes ≡ records_in bytes
      unfolding records_in
      same_records = ap (λ (n : ℕ). first_records n bytes) (sym equal)

      module _ (res : Outcome (Unit {0})) (re : res ≡ checks check_record 0 (records_in bytes)) where
        pub import_stopped : (s : Stop) → res ≡ Err s
            → (Err s ≡ stop_only (import_each bytes words)) × ((words ≡ vector_after (import_each bytes words) words) × Unit {0})
        import_stopped s e = each_stopped record_word check_record stops_alike BestRecord record_best (records_in bytes) words (import_each bytes words) import_all res re s e

        pub import_done : res ≡ Ok tt → (new : List ℕ) → new ≡ map (λ x. or_zero (record_word x)) (first_records (length words) bytes)
            → (done tt ≡ stop_only (import_each bytes words)) × ((new ≡ vector_after (import_each bytes words) words) × EachPlace BestRecord (records_in bytes) new)
        import_done e new ne =
            each_done record_word check_record stops_alike BestRecord record_best (records_in bytes) words (import_each bytes words) import_all res re e new
            (ne ∙ ap (map (λ (x : Record). or_zero (record_word x))) same_records)
