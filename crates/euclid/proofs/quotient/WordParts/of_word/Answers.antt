use Rattle.slash.proofs.AnswerLaws.{passed_on}
use Rattle.slash.proofs.ReadingLaws.{check_stopped}
use Rattle.slash.specs.Answers.{done, ◌then◌}
use Rattle.convergents.specs.Convergents.{quotients}
use Rattle.euclid.proofs.QuotientLaws.{word_parts, word_small, word_few, word_done, word_stop}
use mathlib.Core.Path.{ap, ◌∙◌}
use native.Mathlib.Omega.{arith}
use Rattle.euclid.specs.declared.quotient.WordParts.{WordParts}
use Rattle.slash.specs.Answers.{Outcome}
use Rattle.euclid.proofs.quotient.WordParts.of_word.Goals as goal

pub returns-in_err-x : goal.returns-in_err-x
returns-in_err-x c =
    ap (λ (o : Outcome WordParts). o then λ p. done (quotients p.numerator p.denominator)) (passed_on _ c.from_residual.ensures)
    ∙ word_stop _ _ (check_stopped _ _ c.check.ensures c.in_err-x.was)

pub overflow_cast-result : goal.overflow_cast-result
overflow_cast-result c = omega (arith, (word_small (word_parts _ _ c.check.ensures c.in_ok-x.was c.value.ensures c.parts_of-p.ensures)).0)

pub overflow_cast-result-2 : goal.overflow_cast-result-2
overflow_cast-result-2 c = omega (arith, (word_small (word_parts _ _ c.check.ensures c.in_ok-x.was c.value.ensures c.parts_of-p.ensures)).1)

pub overflow_mul-result : goal.overflow_mul-result
overflow_mul-result c = omega (arith, (word_small (word_parts _ _ c.check.ensures c.in_ok-x.was c.value.ensures c.parts_of-p.ensures)).3)

pub invariant_of-result : goal.invariant_of-result
invariant_of-result c = record { few = word_few (word_parts _ _ c.check.ensures c.in_ok-x.was c.value.ensures c.parts_of-p.ensures) }

pub returns : goal.returns
returns c = word_done (word_parts _ _ c.check.ensures c.in_ok-x.was c.value.ensures c.parts_of-p.ensures)
