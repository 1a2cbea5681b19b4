use Rattle.slash.proofs.ReadingLaws.{check_good, check_stop as word_stop}
use Rattle.slash.specs.Reading.{check_word}
use Rattle.vectors.proofs.EachLaws.{word_at, check_next, check_stop, check_end}
use Rattle.std.specs.Prelude.{Err}
use mathlib.Core.Path.{refl, sym, ap, ◌∙◌}
use Rattle.vectors.proofs.check.words.Goals as goal

pub loop-i-init : goal.loop-i-init
loop-i-init c = refl

pub returns-in-Err : goal.returns-in-Err
returns-in-Err c =
    ap Err c.at_place.ensures ∙ check_stop (check_word _) _ _ _ (word_at _ _ c.loop-i-test.true) (word_stop _ _ c.check.ensures c.in-Err.is) ∙ c.loop-i.invariant

pub loop-i-preserved : goal.loop-i-preserved
loop-i-preserved c =
    check_next (check_word _) _ _ _ (word_at _ _ c.loop-i-test.true) (sym (check_good _ _ c.check.ensures c.in_default.is)) ∙ c.loop-i.invariant

pub returns : goal.returns
returns c = check_end (check_word _) _ _ c.loop-i-test.false ∙ c.loop-i.invariant
