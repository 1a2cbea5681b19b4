use Rattle.breaths.proofs.RatioLaws.{breath_void, breath_word_lem}
use Rattle.std.proofs.Common.{sym, ◌∙◌}
use Rattle.breaths.proofs.breath.Breath.ratio.Goals as goal

pub returns-then-is_void : goal.returns-then-is_void
returns-then-is_void c =
    let both = (breath_void _ _ (sym c.is_void.ensures ∙ c.if-is_void.true)) in
    record { defined = both.0; word = both.1.0; best = both.1.1 }

pub returns-else-is_void : goal.returns-else-is_void
returns-else-is_void c =
    let both = (breath_word_lem _ _ (sym c.is_void.ensures ∙ c.if-is_void.false) _ (c.of_parts.ensures.defined, c.of_parts.ensures.best)) in
    record { defined = both.0; word = both.1.0; best = both.1.1 }
