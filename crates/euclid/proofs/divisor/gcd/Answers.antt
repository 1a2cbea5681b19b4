use Rattle.euclid.specs.Divisor.{gcd_word}
use Rattle.slash.proofs.AnswerLaws.{passed_on, then_stop, then_done}
use Rattle.slash.proofs.ReadingLaws.{check_stopped, check_good, check_value, checked_done}
use Rattle.slash.specs.Answers.{done}
use mathlib.Core.Path.{refl, ap, ◌∙◌}
use Rattle.euclid.proofs.divisor.gcd.Goals as goal

pub returns-in_err-x : goal.returns-in_err-x
unfolding gcd_word
returns-in_err-x c = passed_on _ c.from_residual.ensures ∙ then_stop _ (check_stopped _ _ c.check.ensures c.in_err-x.was)

pub returns : goal.returns
unfolding gcd_word
returns c = then_done _ (checked_done _ _ (check_good _ _ c.check.ensures c.in_ok-x.was) _ _ (check_value _ _ c.check.ensures c.in_ok-x.was c.value.ensures) refl) (ap done c.value_divisor.ensures)
