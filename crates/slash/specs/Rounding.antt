-- Rounding into a format.
use Rattle.std.specs.Prelude.{ℕ, eqb}
use Rattle.std.specs.Prelude.{if◌then◌else◌}
use Rattle.convergents.specs.Pairs.{Pair, differs}
use Rattle.convergents.specs.Rounding.{round}
use Rattle.slash.specs.Answers.{Outcome, stop, done}
use Rattle.slash.specs.Formats.{when_known, holds}
use Rattle.slash.specs.declared.format.Format.{Format}
use Rattle.slash.specs.declared.rounding.Rounded.{Rounded}

-- The last convergent of N/D that the format holds, marked if its value isn't N/D.
abbrev pub rounded : Format → ℕ → ℕ → Rounded
rounded f N D =
    let x : Pair = round (holds f) N D in
    record { numerator = x.numerator; denominator = x.denominator; approximate = differs N D x }

-- Stop 1, then 6 for denominator 0.
unfoldable pub round_ratio : Format → ℕ → ℕ → Outcome Rounded
round_ratio f N D =
    when_known f (
    if eqb D 0 then stop 6 0 else
    done (rounded f N D))
