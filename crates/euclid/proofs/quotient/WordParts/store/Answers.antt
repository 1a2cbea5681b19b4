use native.Mathlib.Omega.{arith}
use mathlib.Core.Path.{◌∙◌}
use Rattle.euclid.proofs.QuotientLaws.{store_next, store_end}
use Rattle.std.proofs.lemmas.List.{set-get_or}
use Rattle.euclid.proofs.quotient.WordParts.store.Goals as goal

pub returns-then-v-eq0 : goal.returns-then-v-eq0
returns-then-v-eq0 c =
    let both = store_end c.loop-i.invariant c.if-v-eq0.true in
    record { counted = both.0; stored = set-get_or _ _ _ ∙ both.1 }

pub loop-i-preserved : goal.loop-i-preserved
loop-i-preserved c = store_next c.loop-i.invariant c.requires (omega arith)
