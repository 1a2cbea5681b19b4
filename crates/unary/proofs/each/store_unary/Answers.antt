use Rattle.vectors.proofs.EachLaws.{unwrapped, word_at, storing_next, storing_end}
use Rattle.slash.specs.Steps.{or_zero}
use Rattle.unary.specs.Operations.{unary_word}
use native.Mathlib.Omega.{arith}
use mathlib.Core.Path.{refl}
use Prim.Native.Nat.{ℕ}
use Rattle.unary.proofs.each.store_unary.Goals as goal

pub loop-i-init : goal.loop-i-init
loop-i-init c = (omega arith, refl, refl)

pub loop-i-preserved : goal.loop-i-preserved
loop-i-preserved c =
    storing_next (λ (x : ℕ). or_zero (unary_word c.args.f c.args.code x)) c.args.operand.now c.args.out.now c.loop-i.out c.loop-i.i c.loop-i.invariant c.requires.2 _ _ (word_at c.args.operand.now c.loop-i.i c.loop-i-test.true) c.loop-i-test.true (unwrapped _ c.unary_word.ensures c.unwrap_or.ensures)

pub returns : goal.returns
returns c =
    storing_end (λ (x : ℕ). or_zero (unary_word c.args.f c.args.code x)) c.args.operand.now c.args.out.now c.loop-i.out c.loop-i.i c.loop-i.invariant c.requires.2 c.loop-i-test.false
