use Rattle.relist.proofs.AgainLaws.{again_stopped, words_within, again_done}
use Rattle.slash.proofs.AnswerLaws.{passed_on}
use mathlib.Core.Path.{sym, ◌∙◌}
use lib.Seq.{length-take-le}
use Rattle.relist.proofs.again.print_again.Goals as goal

pub slice_bounds-words-end : goal.slice_bounds-words-end
slice_bounds-words-end c = words_within c.args.text.now c.args.listing.now c.load_text.ensures.answered _ c.in_ok-c.was _ _ c.load_text.ensures.worded

pub slice_bounds-print_words-end : goal.slice_bounds-print_words-end
slice_bounds-print_words-end c = sym (length-take-le _ _ (words_within c.args.text.now c.args.listing.now c.load_text.ensures.answered _ c.in_ok-c.was _ _ c.load_text.ensures.worded))

pub returns-in_err-c : goal.returns-in_err-c
returns-in_err-c c =
    let all = (again_stopped c.args.text.now c.args.listing.now c.load_text.ensures.answered c.in_err-c.was) in
    record { answered = passed_on _ c.from_residual.ensures ∙ all.0; stored = all.1.0; same = all.1.1 }

pub returns : goal.returns
returns c =
    let all = (again_done c.args.text.now c.args.listing.now c.load_text.ensures.answered _ c.in_ok-c.was _ _ c.load_text.ensures.worded _ _ (c.print_words.ensures.answered, c.print_words.ensures.stored)) in
    record { answered = all.0; stored = all.1.0; same = all.1.1 }
