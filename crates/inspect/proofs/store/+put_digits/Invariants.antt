-- The measure is the count.
use Rattle.inspect.proofs.store.+put_digits.Given as goal

abbrev pub decreases-put_digits : goal.decreases-put_digits
decreases-put_digits l = l.count
