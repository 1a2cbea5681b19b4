use Rattle.slash.proofs.FormatLaws.{fits_fixed, fits_floating}
use Rattle.slash.proofs.format.Format.k_fits.Goals as goal

pub returns-then-self-eq-FIXED : goal.returns-then-self-eq-FIXED
returns-then-self-eq-FIXED c = fits_fixed _ c.if-self-eq-FIXED.true

pub returns-else-self-eq-FIXED : goal.returns-else-self-eq-FIXED
returns-else-self-eq-FIXED c = fits_floating _ c.if-self-eq-FIXED.false
