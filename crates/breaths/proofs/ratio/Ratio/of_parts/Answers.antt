use Rattle.std.proofs.Common.{arith}
use Rattle.breaths.proofs.RatioLaws.{short_parts, short_word, parts_done, parts_stop}
use Rattle.breaths.proofs.ratio.Ratio.of_parts.Goals as goal

pub overflow_cast-n : goal.overflow_cast-n
overflow_cast-n c = let t = short_parts c.args.n c.args.d c.if-n-d.true in omega (arith, t.2)

pub proportion_word-requires : goal.proportion_word-requires
proportion_word-requires c = let t = short_parts _ _ c.if-n-d.true in (t.0, t.1)

pub returns-then-n-d : goal.returns-then-n-d
returns-then-n-d c =
    let both = (let t = short_parts c.args.n c.args.d c.if-n-d.true in short_word _ _ (omega (arith, t.0, t.1)) _ c.proportion_word.ensures) in
    record { defined = both.0; best = both.1 }

pub returns-in-Ok : goal.returns-in-Ok
returns-in-Ok c =
    let both = (parts_done _ _ _ c.format.ensures _ (c.round_word.ensures.written, c.round_word.ensures.best) _ c.in-Ok.is) in
    record { defined = both.0; best = both.1 }

pub returns-in-Err : goal.returns-in-Err
returns-in-Err c =
    let both = (parts_stop _ _ _ c.format.ensures _ (c.round_word.ensures.written, c.round_word.ensures.best) _ c.in-Err.is) in
    record { defined = both.0; best = both.1 }
