-- What a call from C returns, and what it leaves behind a pointer.
use Rattle.std.specs.Prelude.{ℕ, ◌+◌, ◌*◌, ◌%◌, ◌^◌, Ok, Err}
use Rattle.slash.specs.Answers.{Outcome, done, ◌then◌}
use Rattle.loading.specs.declared.load.Counted.{Counted}

-- 0 where nothing stopped; else the stop's number in the low 8 bits and its place above them. (No number is above 255, and no memory lends
-- 2^56 places.)
unfoldable pub status : {A : Type 0} → Outcome A → ℕ
status (Err s) = s.place % 2 ^ 56 * 256 + s.number % 256
status (Ok x) = 0

-- What stands behind a pointer then: the result; on a stop what it was.
unfoldable pub behind : Outcome ℕ → ℕ → ℕ
behind (Err s) old = old
behind (Ok x) old = x

-- What loading answers goes behind two pointers: the breath count, and the total's word.
unfoldable pub breaths_of : Outcome Counted → Outcome ℕ
breaths_of o = o then λ c. done c.breaths

unfoldable pub total_of : Outcome Counted → Outcome ℕ
total_of o = o then λ c. done c.total
