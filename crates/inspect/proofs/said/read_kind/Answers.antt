use Rattle.inspect.proofs.SaidLaws.{kind_none}
use mathlib.Core.Logic.{inl, inr}
use Rattle.inspect.proofs.said.read_kind.Goals as goal

pub returns-in_default : goal.returns-in_default
returns-in_default c = kind_none _ _ (inl c.in_default.len_below)

pub returns-in_default-2 : goal.returns-in_default-2
returns-in_default-2 c = kind_none _ _ (inr c.in_default.len_at_least)
