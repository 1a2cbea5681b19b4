use Rattle.stream.proofs.InputLaws.{below, of_read}
use Rattle.stream.proofs.WrittenLaws.{taken}
use Rattle.std.specs.Io.KnownBytes.{Consumes}
use mathlib.Core.Path.{sym, subst}
use mathlib.Core.List.{List}
use Prim.Native.Nat.{ℕ, ◌-◌}
use lib.ListN.{length}
use Rattle.stream.proofs.input.read_more.Goals as goal

pub returns-clause-consumed : goal.returns-clause-consumed
returns-clause-consumed g c = of_read c.read.result _ _ _ _ c.read.ensures.bound c.read.ensures.bytes (λ n b e.
    subst (λ (t : List ℕ). Consumes (g.R.Read.remaining c.args.from.now) (g.R.Read.remaining c.read.new.self) t)
    (sym (taken c.args.filled (length c.args.buffer.now - c.args.filled) n c.args.buffer.now c.read.new.buf (below _ _ c.requires.0) b.0)) e.0)
