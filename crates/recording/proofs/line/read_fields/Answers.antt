use Rattle.recording.proofs.LineLaws.{fields_one, fields_two, fields_three, fields_four}
use native.Mathlib.Omega.{arith}
use Rattle.recording.proofs.line.read_fields.Goals as goal

pub returns-then-i-line : goal.returns-then-i-line
returns-then-i-line c = fields_one _ _ _ c.length_before-i.ensures.defined c.if-i-line.true

pub returns-then-j-rest : goal.returns-then-j-rest
returns-then-j-rest c = fields_two _ _ _ c.length_before-i.ensures.defined (omega arith) _ c.length_before-j.ensures.defined c.if-j-rest.true

pub returns-then-length_before-last : goal.returns-then-length_before-last
returns-then-length_before-last c = fields_four _ _ _ c.length_before-i.ensures.defined (omega arith) _ c.length_before-j.ensures.defined (omega arith) _ c.length_before.ensures.defined c.if-length_before-last.true

pub returns : goal.returns
returns c =
    fields_three _ _ _ c.length_before-i.ensures.defined (omega arith) _ c.length_before-j.ensures.defined (omega arith) _ c.length_before.ensures.defined c.if-length_before-last.false
    _ _ _ c.read_tick.ensures c.read_tick-2.ensures c.read_tick-3.ensures _ c.from_ticks.ensures
