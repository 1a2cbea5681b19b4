use Rattle.inspect.proofs.StoreLaws.{digit_high, digit_low}
use Rattle.inspect.proofs.store.digit.Goals as goal

pub returns-then-d-lt10 : goal.returns-then-d-lt10
returns-then-d-lt10 c = digit_low _ c.if-d-lt10.true

pub returns-else-d-lt10 : goal.returns-else-d-lt10
returns-else-d-lt10 c = digit_high _ c.if-d-lt10.false
