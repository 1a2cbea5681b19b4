use Rattle.std.proofs.Common.{◌∙◌, arith}
use Rattle.slash.proofs.AnswerLaws.{passed_on}
use Rattle.loading.proofs.FillLaws.{load_fits, load_stopped, load_short, load_filled}
use Rattle.loading.proofs.load.load_text.Goals as goal

pub returns-in_err-c : goal.returns-in_err-c
returns-in_err-c c =
    let both = load_stopped _ c.args.numbers.now c.args.words.now c.in_err-c.ensures in
    record { answered = passed_on _ c.from_residual.ensures ∙ both.0; numbered = both.1.0; worded = both.1.1.0; exactly = both.1.1.1 }

pub returns-then-min-c : goal.returns-then-min-c
returns-then-min-c c =
    let both = load_short _ c.args.numbers.now c.args.words.now _ c.in_ok-c.ensures c.plain.ensures (omega (arith, c.min.ensures, c.if-min-c.true)) in
    record { answered = both.0; numbered = both.1.0; worded = both.1.1.0; exactly = both.1.1.1 }

pub fill_lists-requires : goal.fill_lists-requires
fill_lists-requires c = load_fits _ _ c.in_ok-c.ensures _ _ (omega (arith, c.min.ensures, c.if-min-c.false))

pub returns : goal.returns
returns c =
    let both = load_filled _ c.args.numbers.now c.args.words.now _ c.in_ok-c.ensures (omega (arith, c.min.ensures, c.if-min-c.false)) _ _ (c.fill_lists.ensures.numbered, c.fill_lists.ensures.worded) in
    record { answered = both.0; numbered = both.1.0; worded = both.1.1.0; exactly = both.1.1.1 }
