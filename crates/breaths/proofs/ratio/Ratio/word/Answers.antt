use Rattle.breaths.proofs.RatioLaws.{word_void, word_word}
use Rattle.breaths.proofs.ratio.Ratio.word.Goals as goal

pub returns-in-Void : goal.returns-in-Void
returns-in-Void c = word_void _ c.in-Void.is

pub returns-in-Word : goal.returns-in-Word
returns-in-Word c = word_word _ _ c.in-Word.is
