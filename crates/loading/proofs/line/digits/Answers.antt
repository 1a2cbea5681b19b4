use Rattle.loading.proofs.LineLaws.{digits_one, digits_are}
use Rattle.std.proofs.Common.{arith}
use Rattle.loading.proofs.line.digits.Goals as goal

pub returns-then-n-lt10 : goal.returns-then-n-lt10
returns-then-n-lt10 c = digits_one _ (omega arith)

pub returns-then-n-lt100 : goal.returns-then-n-lt100
returns-then-n-lt100 c = digits_are 1 _ (omega arith) (omega arith)

pub returns-then-n-lt1000 : goal.returns-then-n-lt1000
returns-then-n-lt1000 c = digits_are 2 _ (omega arith) (omega arith)

pub returns-then-n-lt10000 : goal.returns-then-n-lt10000
returns-then-n-lt10000 c = digits_are 3 _ (omega arith) (omega arith)

pub returns-else-n-lt10000 : goal.returns-else-n-lt10000
returns-else-n-lt10000 c = digits_are 4 _ (omega arith) (omega arith)
