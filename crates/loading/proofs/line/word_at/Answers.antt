use Rattle.std.proofs.Common.{◌≡◌, ℕ, ap, ◌∙◌, arith}
use Rattle.loading.proofs.LineLaws.{reading_small, reading_next, reading_end}
use Rattle.loading.specs.Steps.{word_from}
use Rattle.std.proofs.Common.{◌+◌, ◌-◌, take, drop}
use Rattle.loading.proofs.line.word_at.Goals as goal

pub overflow_mul-value : goal.overflow_mul-value
overflow_mul-value c = omega (arith, reading_small c.loop-b.invariant (omega (arith, c.loop-b-test.true)))

pub loop-b-preserved : goal.loop-b-preserved
loop-b-preserved c = reading_next c.loop-b.invariant c.loop-b-test.true _ c.digit_value.ensures.value c.digit_value.ensures.small

pub returns : goal.returns
returns c =
    let e : c.args.at + 8 - c.args.at ≡ 8 = omega arith in
    reading_end c.loop-b.invariant (omega (arith, c.loop-b-test.false)) ∙ ap (λ (j : ℕ). word_from 0 (take j (drop c.args.at c.args.text.now))) e
