use Rattle.euclid.specs.Divisor.{value_gcd}
use mathlib.Core.Path.{sym, ap, ◌∙◌}
use mathlib.Core.Logic.{⊎_elim}
use Rattle.euclid.proofs.divisor.value_divisor.Goals as goal

pub returns-in-Fraction : goal.returns-in-Fraction
unfolding value_gcd
returns-in-Fraction c = c.common_divisor.ensures ∙ sym (ap value_gcd c.in-Fraction.is)

pub returns-in-Zero : goal.returns-in-Zero
unfolding value_gcd
returns-in-Zero c = ⊎_elim (λ e. sym (ap value_gcd e.1)) (⊎_elim (λ e. sym (ap value_gcd e.1)) (λ e. sym (ap value_gcd e))) c.in-Zero.is
