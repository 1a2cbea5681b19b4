use Rattle.inspect.proofs.SaidLaws.{format_fixed, format_floating, format_none}
use Rattle.inspect.proofs.said.read_format.Goals as goal

pub returns-then-is_same : goal.returns-then-is_same
returns-then-is_same c = format_fixed _ _ _ c.is_same.ensures c.if-is_same.true c.read_kind.ensures

pub returns-then-is_same-2 : goal.returns-then-is_same-2
returns-then-is_same-2 c = format_floating _ _ _ c.is_same.ensures c.if-is_same.false _ c.is_same-2.ensures c.if-is_same-2.true c.read_kind-then-is_same-2.ensures

pub returns : goal.returns
returns c = format_none _ _ _ c.is_same.ensures c.if-is_same.false _ c.is_same-2.ensures c.if-is_same-2.false
