use Rattle.text.proofs.ColumnLaws.{signed_unprintable, word_proportion}
use Rattle.text.proofs.columns.is_printable_word.Goals as goal

pub returns-then-w-ge-SIGN : goal.returns-then-w-ge-SIGN
returns-then-w-ge-SIGN c = signed_unprintable _ c.if-w-ge-SIGN.true

pub word_fraction-x-requires : goal.word_fraction-x-requires
word_fraction-x-requires c = c.if-w-ge-SIGN.false

pub returns : goal.returns
returns c = word_proportion _ _ _ c.word_fraction-x.ensures c.if-w-ge-SIGN.false
