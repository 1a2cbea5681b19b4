use native.Mathlib.Omega.{arith}
use Rattle.shapes.proofs.WordLaws.{read_digit, read_letter, read_other}
use Rattle.shapes.proofs.word.hex_value.Goals as goal

pub returns-in-48-to-57 : goal.returns-in-48-to-57
returns-in-48-to-57 c = read_digit _ (omega arith) (omega arith)

pub returns-in-97-to-102 : goal.returns-in-97-to-102
returns-in-97-to-102 c = read_letter _ (omega arith) (omega arith)

pub returns-in_default : goal.returns-in_default
returns-in_default c = read_other _ (λ l k. omega arith) (λ l k. omega arith)

pub returns-in_default-2 : goal.returns-in_default-2
returns-in_default-2 c = read_other _ (λ l k. omega arith) (λ l k. omega arith)

pub returns-in_default-3 : goal.returns-in_default-3
returns-in_default-3 c = read_other _ (λ l k. omega arith) (λ l k. omega arith)
