use Rattle.arithmetic.proofs.OperandLaws.{small_turned}
use Rattle.arithmetic.specs.Steps.{Small}
use mathlib.Core.Path.{sym, subst}
use Rattle.arithmetic.proofs.operation.exact.Goals as goal

pub sum-requires-in-Subtract : goal.sum-requires-in-Subtract
sum-requires-in-Subtract c = (c.requires.0, subst Small (sym c.turned.ensures) (small_turned _ c.requires.1))
