use Rattle.recording.proofs.LineLaws.{length_is}
use native.Mathlib.Omega.{arith}
use Rattle.recording.proofs.line.line_length.Goals as goal

pub returns : goal.returns
returns c = length_is c.args.bytes.now c.min-most.result (omega (arith, c.min-most.ensures)) _ c.length_before.ensures.defined
