use Rattle.slash.proofs.AnswerLaws.{at_one}
use Rattle.slash.specs.Numbers.{is_nan}
use Rattle.slash.specs.declared.number.Value.{Value}
use Rattle.slash.specs.declared.number.Value.TheVariants.{Fraction, Zero, Infinity, NotANumber}
use mathlib.Core.Path.{◌≡◌, refl}
use mathlib.Core.Bool.{false}
use Rattle.slash.proofs.number.is_nan.Goals as goal

other : (v : Value) → (v ≡ NotANumber → ⊥) → false ≡ is_nan v
unfolding is_nan
other (Fraction p) n = refl
other (Zero s) n = refl
other (Infinity s) n = refl
other NotANumber n = absurd (n refl)

pub returns-in-NotANumber : goal.returns-in-NotANumber
unfolding is_nan
returns-in-NotANumber c = at_one is_nan c.in-NotANumber.is refl

pub returns-in_default : goal.returns-in_default
returns-in_default c = other _ c.in_default.not-NotANumber
