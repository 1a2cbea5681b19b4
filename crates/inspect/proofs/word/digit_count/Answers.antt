use Rattle.inspect.proofs.WordLaws.{digit_count_lem, width_known, width_small}
use native.Mathlib.Omega.{arith}
use Rattle.inspect.proofs.word.digit_count.Goals as goal

pub unwrap-requires : goal.unwrap-requires
unwrap-requires c = width_known _ c.requires c.width.ensures

pub overflow_add-result : goal.overflow_add-result
overflow_add-result c = omega (arith, width_small _ c.requires c.width.ensures c.unwrap.ensures)

pub returns : goal.returns
returns c = digit_count_lem _ c.requires c.width.ensures c.unwrap.ensures
