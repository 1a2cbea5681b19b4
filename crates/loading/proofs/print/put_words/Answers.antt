use Rattle.loading.proofs.PrintLaws.{putting_next, putting_end}
use Rattle.loading.proofs.print.put_words.Goals as goal

pub loop-i-preserved : goal.loop-i-preserved
loop-i-preserved c = putting_next c.loop-i.invariant c.requires.2 c.requires.1 c.requires.0 c.loop-i-test.true _ c.of_word.ensures c.put_line-at.ensures

pub returns : goal.returns
returns c =
    let both = (putting_end c.loop-i.invariant c.requires.2 c.requires.1 c.loop-i-test.false) in
    record { stored = both.0; room = both.1 }
