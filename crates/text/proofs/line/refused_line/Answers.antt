use Rattle.text.proofs.LineLaws.{refused_most, stored_start}
use native.Mathlib.Omega.{arith}
use Rattle.text.proofs.line.refused_line.Goals as goal

pub put_refused-requires : goal.put_refused-requires
put_refused-requires c = record { room = omega (arith, refused_most c.args.stop.number c.args.stop.place (omega arith) (omega arith)) }

pub returns : goal.returns
returns c =
    let both = (stored_start c.put_refused.ensures (omega (arith, refused_most c.args.stop.number c.args.stop.place (omega arith) (omega arith)))) in
    record { counted = both.0; stored = both.1 }
