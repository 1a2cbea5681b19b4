use Rattle.text.proofs.ColumnLaws.{void_printable, ratio_proportion}
use Rattle.text.proofs.columns.is_printable.Goals as goal

pub returns-in-Void : goal.returns-in-Void
returns-in-Void c = void_printable _ c.in-Void.is

pub returns-in-Word : goal.returns-in-Word
returns-in-Word c = ratio_proportion _ _ c.in-Word.is _ c.is_printable_word.ensures
