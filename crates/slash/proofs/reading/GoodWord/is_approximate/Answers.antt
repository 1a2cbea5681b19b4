use Rattle.slash.proofs.ReadingLaws.{number_unfit, fixed_fits, floating_fits}
use Rattle.slash.proofs.FormatLaws.{fixed_fit, fit_k}
use Rattle.slash.specs.declared.number.Number.{Number}
use mathlib.Core.Path.{sym, ap, ◌∙◌}
use Rattle.slash.proofs.reading.GoodWord.is_approximate.Goals as goal

pub returns-then-not-k_fits : goal.returns-then-not-k_fits
returns-then-not-k_fits c = ap (λ (x : Number). x.approximate) (number_unfit _ _ (sym c.k_fits.ensures ∙ c.if-not-k_fits.true))

pub invariant_of-is_approximate : goal.invariant_of-is_approximate
invariant_of-is_approximate c = record { most = fixed_fit _ (sym c.k_fits.ensures ∙ c.if-not-k_fits.false) c.if-f-eq-FIXED.true }

pub invariant_of-is_approximate-else-f-eq-FIXED : goal.invariant_of-is_approximate-else-f-eq-FIXED
invariant_of-is_approximate-else-f-eq-FIXED c = let b = fit_k _ (sym c.k_fits.ensures ∙ c.if-not-k_fits.false) in record { least = b.0; most = b.1 }

pub returns-then-f-eq-FIXED : goal.returns-then-f-eq-FIXED
returns-then-f-eq-FIXED c = c.is_approximate.ensures ∙ ap (λ (x : Number). x.approximate) (fixed_fits _ _ (sym c.k_fits.ensures ∙ c.if-not-k_fits.false) c.if-f-eq-FIXED.true)

pub returns-else-f-eq-FIXED : goal.returns-else-f-eq-FIXED
returns-else-f-eq-FIXED c = c.is_approximate-else-f-eq-FIXED.ensures ∙ ap (λ (x : Number). x.approximate) (floating_fits _ _ (sym c.k_fits.ensures ∙ c.if-not-k_fits.false) c.if-f-eq-FIXED.false)
