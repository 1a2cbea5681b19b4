use Rattle.slash.proofs.RoundTrip.{nan_fixed, nan_floating}
use mathlib.Core.Path.{◌∙◌}
use Rattle.slash.proofs.FormatLaws.{known_k}
use Rattle.slash.proofs.writing.nan_word.Goals as goal

pub invariant_of-not_a_number : goal.invariant_of-not_a_number
invariant_of-not_a_number c = let b = known_k _ c.args.f.is_known in record { least = b.0; most = b.1 }

pub returns-then-f-eq-FIXED : goal.returns-then-f-eq-FIXED
returns-then-f-eq-FIXED c = nan_fixed _ c.if-f-eq-FIXED.true

pub returns-else-f-eq-FIXED : goal.returns-else-f-eq-FIXED
returns-else-f-eq-FIXED c = c.not_a_number.ensures ∙ nan_floating _ c.if-f-eq-FIXED.false
