use Rattle.std.proofs.Common.{◌∙◌, arith}
use Rattle.slash.proofs.AnswerLaws.{passed_on}
use Rattle.loading.proofs.PrintLaws.{print_is, print_stopped, print_done}
use Rattle.loading.proofs.print.print_words.Goals as goal

pub returns-in_err-check : goal.returns-in_err-check
returns-in_err-check c =
    let both = print_stopped _ _ c.args.listing.now c.in_err-check.ensures in
    record { answered = passed_on _ c.from_residual.ensures ∙ both.0; stored = both.1 }

pub put_words-at-requires : goal.put_words-at-requires
put_words-at-requires c = let i = print_is _ _ c.args.listing.now c.in_ok-check.ensures in (i.words_are, i.few, omega arith)

pub returns : goal.returns
returns c =
    let both = print_done _ _ c.args.listing.now c.in_ok-check.ensures (omega arith) (c.put_words-at.ensures.stored, c.put_words-at.ensures.room) _ c.of_word.ensures c.put_line.ensures in
    record { answered = both.0; stored = both.1 }
