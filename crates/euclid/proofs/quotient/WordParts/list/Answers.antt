use Rattle.slash.proofs.AnswerLaws.{plain_stop}
use Rattle.euclid.proofs.QuotientLaws.{enough, too_short}
use mathlib.Core.Path.{sym, ◌∙◌}
use Rattle.euclid.proofs.quotient.WordParts.list.Goals as goal

pub returns-then-are_more : goal.returns-then-are_more
returns-then-are_more c = let short = too_short _ _ (sym c.are_more.ensures ∙ c.if-are_more.true) in
    record { counted = plain_stop _ 7 c.plain.ensures short.0; stored = short.1 }

pub returns : goal.returns
returns c =
    let both = (enough _ _ _ _ c.store.ensures.counted (sym c.are_more.ensures ∙ c.if-are_more.false) c.store.ensures.stored) in
    record { counted = both.0; stored = both.1 }
