use mathlib.Core.Path.{◌≡◌, sym, ◌∙◌, subst}
use mathlib.Core.List.{List}
use Prim.Native.Nat.{ℕ}
use lib.ListN.{take}
use Rattle.std.specs.Io.KnownBytes.{Appends}
use Rattle.text.specs.Lines.{refused_line}
use Rattle.stream.proofs.WrittenLaws.{on_ok, front}
use Rattle.stream.proofs.run.refuse.Goals as goal

-- (The check finds this alone; written out, it refuses a wrong program by what is false of it.)
pub returns-then-is_ok-clause-written : goal.returns-then-is_ok-clause-written
returns-then-is_ok-clause-written g c = λ _.
    let told : take c.refused_line-length.result c.refused_line-length.new.line ≡ refused_line c.args.stop.number c.args.stop.place =
    front _ _ _ _ c.refused_line-length.ensures.counted c.refused_line-length.ensures.stored in
    subst (λ (t : List ℕ). Appends (g.W.Write.contents c.args.to.now) (g.W.Write.contents c.write_all.new.self) t) told
    (on_ok c.write_all.result (sym c.is_ok.ensures.value ∙ c.if-is_ok.true) c.write_all.ensures.bytes)
