-- The greatest common divisor of a word's stored parts.
use Rattle.std.specs.Prelude.{ℕ, zero, suc, ◌+◌, ◌%◌, Bool, true, false, ◌&&◌, eqb}
use Rattle.slash.specs.Answers.{Outcome, done, ◌then◌}
use Rattle.slash.specs.Reading.{read_word}
use Rattle.slash.specs.declared.format.Format.{Format}
use Rattle.slash.specs.declared.number.Value.{Value}
use Rattle.slash.specs.declared.number.Value.TheVariants.{Fraction, Zero, Infinity, NotANumber}

-- g divides n.
unfoldable pub divides : ℕ → ℕ → Bool
divides g n = eqb (n % g) 0

-- The greatest number, from g down, that divides both n and d.
unfoldable pub greatest_from : ℕ → ℕ → ℕ → ℕ
greatest_from zero n d = 0
greatest_from (suc g) n d = elim (divides (suc g) n && divides (suc g) d) [ true ↦ suc g | false ↦ greatest_from g n d ]

-- The greatest common divisor of n and d: none is above n + d.
unfoldable pub gcd_of : ℕ → ℕ → ℕ
gcd_of n d = greatest_from (n + d) n d

-- 0 where the value is not a nonzero fraction.
unfoldable pub value_gcd : Value → ℕ
value_gcd (Fraction p) = gcd_of p.numerator p.denominator
value_gcd (Zero s) = 0
value_gcd (Infinity s) = 0
value_gcd NotANumber = 0

-- Stops 1, 4 and 5 as reading has them.
unfoldable pub gcd_word : Format → ℕ → Outcome ℕ
gcd_word f w = read_word f w then λ x. done (value_gcd x.value)
