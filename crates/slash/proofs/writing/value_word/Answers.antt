use Rattle.slash.proofs.WritingLaws.{parts_value}
use Rattle.slash.specs.Steps.{parts_word}
use Rattle.slash.specs.declared.number.Parts.{Parts}
use mathlib.Core.Path.{ap, ◌∙◌}
use Rattle.slash.proofs.writing.value_word.Goals as goal

pub returns : goal.returns
returns c = let a = c.args in
    c.parts_word.ensures
    ∙ ap (λ (p : Parts). parts_word a.f.format p.negative a.approximate p.numerator p.denominator) c.parts_of-p.ensures
    ∙ parts_value a.f.format a.approximate a.v a.f.is_known c.requires
