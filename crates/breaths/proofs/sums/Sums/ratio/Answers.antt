use Rattle.breaths.proofs.RatioLaws.{night_parts}
use Rattle.breaths.proofs.sums.Sums.ratio.Goals as goal

pub returns : goal.returns
returns c =
    let both = (night_parts _ _ (c.of_parts.ensures.defined, c.of_parts.ensures.best)) in
    record { defined = both.0; word = both.1.0; best = both.1.1 }
