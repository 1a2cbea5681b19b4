use Rattle.importing.proofs.RecordLaws.{read_rules, word_good, word_stop}
use Rattle.importing.proofs.record.word_of.Goals as goal

pub ratio-requires : goal.ratio-requires
ratio-requires c = read_rules _ _ c.read_record.ensures _ c.in-Ok.is

pub returns-in-Ok : goal.returns-in-Ok
returns-in-Ok c = word_good _ _ c.read_record.ensures _ c.in-Ok.is _ _ c.ratio.ensures c.word.ensures

pub returns-in-Err : goal.returns-in-Err
returns-in-Err c = word_stop _ _ c.read_record.ensures c.in-Err.is
