use native.Mathlib.Omega.{arith}
use lib.ListN.{length}
use Rattle.vectors.proofs.EachLaws.{storing_next, storing_end}
use Rattle.importing.specs.Imports.{first_records}
use Rattle.importing.proofs.ImportLaws.{records_long, record_at}
use Rattle.importing.proofs.import.store_words.Invariants.{word}
use Rattle.importing.proofs.import.store_words.Goals as goal

pub loop-i-preserved : goal.loop-i-preserved
loop-i-preserved c =
    let start = c in
    let at = c.loop-i in
    let n = length start.args.words.now in
    let long = records_long n start.args.records.now in
    storing_next word (first_records n start.args.records.now) start.args.words.now at.words at.i at.invariant long _ _
    (record_at n start.args.records.now at.i c.loop-i-test.true) (omega (arith, long, c.loop-i-test.true)) c.word_of.ensures

pub returns : goal.returns
returns c =
    let start = c in
    let at = c.loop-i in
    let n = length start.args.words.now in
    let long = records_long n start.args.records.now in
    storing_end word (first_records n start.args.records.now) start.args.words.now at.words at.i at.invariant long (omega (arith, long, c.loop-i-test.false))
