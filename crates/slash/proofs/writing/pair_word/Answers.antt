use Rattle.slash.proofs.RoundTrip.{word_fixed, word_floating}
use mathlib.Core.Path.{◌∙◌}
use Rattle.slash.proofs.FormatLaws.{known_k, fixed_k, fixed_parts, floating_parts}
use Rattle.slash.proofs.writing.pair_word.Goals as goal

pub invariant_of-word : goal.invariant_of-word
invariant_of-word c = record { most = fixed_k _ c.args.f.is_known c.if-f-eq-FIXED.true }

pub word-requires : goal.word-requires
word-requires c = fixed_parts _ _ _ c.args.f.is_known c.requires c.if-f-eq-FIXED.true

pub invariant_of-word-else-f-eq-FIXED : goal.invariant_of-word-else-f-eq-FIXED
invariant_of-word-else-f-eq-FIXED c = let b = known_k _ c.args.f.is_known in record { least = b.0; most = b.1 }

pub word-requires-else-f-eq-FIXED : goal.word-requires-else-f-eq-FIXED
word-requires-else-f-eq-FIXED c = floating_parts _ _ _ c.args.f.is_known c.requires c.if-f-eq-FIXED.false

pub returns-then-f-eq-FIXED : goal.returns-then-f-eq-FIXED
returns-then-f-eq-FIXED c = c.word.ensures ∙ word_fixed _ _ _ _ _ c.if-f-eq-FIXED.true

pub returns-else-f-eq-FIXED : goal.returns-else-f-eq-FIXED
returns-else-f-eq-FIXED c = c.word-else-f-eq-FIXED.ensures ∙ word_floating _ _ _ _ _ c.if-f-eq-FIXED.false
