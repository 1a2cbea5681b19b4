use Rattle.slash.specs.Numbers.{parts_of}
use mathlib.Core.Path.{sym, ap}
use Rattle.slash.proofs.number.parts_of.Goals as goal

pub returns-in-Zero : goal.returns-in-Zero
returns-in-Zero c = sym (ap parts_of c.in-Zero.is)

pub returns-in-Infinity : goal.returns-in-Infinity
returns-in-Infinity c = sym (ap parts_of c.in-Infinity.is)

pub returns-in-NotANumber : goal.returns-in-NotANumber
returns-in-NotANumber c = sym (ap parts_of c.in-NotANumber.is)
