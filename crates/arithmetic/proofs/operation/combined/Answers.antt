use Rattle.arithmetic.proofs.OperandLaws.{checked_operand, small_back}
use Rattle.slash.proofs.ReadingLaws.{check_good, check_value}
use Rattle.arithmetic.proofs.operation.combined.Goals as goal

pub combined_word-requires : goal.combined_word-requires
combined_word-requires c =
    let left = check_good _ _ c.check.ensures c.in_ok-x.was in
    let right = check_good _ _ c.check-2.ensures c.in_ok-y.was in (
      c.requires,
      small_back _ (checked_operand _ _ left _ (check_value _ _ c.check.ensures c.in_ok-x.was c.value.ensures)) _ c.parts_of-p.ensures,
      small_back _ (checked_operand _ _ right _ (check_value _ _ c.check-2.ensures c.in_ok-y.was c.value-2.ensures)) _ c.parts_of-q.ensures,
    )
