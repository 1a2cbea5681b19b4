use Rattle.slash.proofs.ReadingLaws.{fields_unfit, fields_fixed, fields_floating}
use Rattle.slash.proofs.FormatLaws.{fixed_fit, fit_k}
use Rattle.slash.specs.declared.fields.Fields.TheVariants.{Fixed, Floating}
use mathlib.Core.Path.{sym, ap, ◌∙◌}
use Rattle.slash.proofs.reading.GoodWord.fields.Goals as goal

pub returns-then-not-k_fits : goal.returns-then-not-k_fits
returns-then-not-k_fits c = fields_unfit _ _ (sym c.k_fits.ensures ∙ c.if-not-k_fits.true)

pub invariant_of-fields : goal.invariant_of-fields
invariant_of-fields c = record { most = fixed_fit _ (sym c.k_fits.ensures ∙ c.if-not-k_fits.false) c.if-f-eq-FIXED.true }

pub invariant_of-fields-else-f-eq-FIXED : goal.invariant_of-fields-else-f-eq-FIXED
invariant_of-fields-else-f-eq-FIXED c = let b = fit_k _ (sym c.k_fits.ensures ∙ c.if-not-k_fits.false) in record { least = b.0; most = b.1 }

pub returns-then-f-eq-FIXED : goal.returns-then-f-eq-FIXED
returns-then-f-eq-FIXED c = ap Fixed c.fields.ensures ∙ fields_fixed _ _ (sym c.k_fits.ensures ∙ c.if-not-k_fits.false) c.if-f-eq-FIXED.true

pub returns-else-f-eq-FIXED : goal.returns-else-f-eq-FIXED
returns-else-f-eq-FIXED c = ap Floating c.fields-else-f-eq-FIXED.ensures ∙ fields_floating _ _ (sym c.k_fits.ensures ∙ c.if-not-k_fits.false) c.if-f-eq-FIXED.false
