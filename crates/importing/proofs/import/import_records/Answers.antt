use mathlib.Core.Path.{◌∙◌}
use Rattle.slash.proofs.AnswerLaws.{passed_on, plain_stop}
use Rattle.vectors.proofs.EachLaws.{refused}
use Rattle.importing.proofs.ImportLaws.{import_bytes, import_length, import_stopped, import_done}
use Rattle.importing.proofs.import.import_records.Goals as goal

pub returns-then-records-ne0 : goal.returns-then-records-ne0
returns-then-records-ne0 c =
    let both = (refused _ _ (plain_stop _ 16 c.plain.ensures (import_bytes _ _ c.if-records-ne0.true))) in
    record { answered = both.0; stored = both.1.0; best = both.1.1 }

pub returns-then-records-words : goal.returns-then-records-words
returns-then-records-words c =
    let both = (refused _ _ (plain_stop _ 3 c.plain-then-records-words.ensures (import_length _ _ c.if-records-ne0.false c.if-records-words.true))) in
    record { answered = both.0; stored = both.1.0; best = both.1.1 }

pub returns-in_err-check_records : goal.returns-in_err-check_records
returns-in_err-check_records c =
    let both = import_stopped _ _ c.if-records-ne0.false c.if-records-words.false _ c.check_records.ensures _ c.in_err-check_records.was in
    record { answered = passed_on _ c.from_residual.ensures ∙ both.0; stored = both.1.0; best = rw (passed_on _ c.from_residual.ensures) both.1.1 }

pub returns : goal.returns
returns c =
    let both = (import_done _ _ c.if-records-ne0.false c.if-records-words.false _ c.check_records.ensures c.in_ok-check_records.was _ c.store_words.ensures) in
    record { answered = both.0; stored = both.1.0; best = both.1.1 }
