-- The paper's rules of zeros, infinities and signs, one by one, of the exact result of two values. Assumes nothing.
-- `difference_is`: subtracting. `infinity_plus`, `plus_infinity`, `infinity_plus_equal`, `infinity_plus_opposite`: sums with infinity.
-- `zero_times_infinity`, `infinity_times_zero`, `zero_by_zero`, `infinity_by_infinity`: not-a-number. `fraction_times_infinity`,
-- `infinity_times_fraction`, `infinity_times_infinity`, `infinity_by`, `fraction_by_zero`: infinity. `by_infinity`: zero. `sum_zero_sign`,
-- `difference_zero_sign`, `product_sign`, `quotient_sign`: the signs.
use mathlib.Core.Path.{◌≡◌, refl, sym, ap₂, ◌∙◌}
use mathlib.Core.Bool.{Bool, true, false, not, ◌||◌, true≢false, false≢true}
use Prim.Native.Nat.{◌≤◌}
use native.Mathlib.Omega.{arith}
use lib.Dec.{eqb}
use Rattle.std.specs.Prelude.{if◌then◌else◌}
use Rattle.slash.specs.Numbers.{is_nan, parts_of}
use Rattle.slash.proofs.AnswerLaws.{some_not, if_case}
use Rattle.slash.specs.declared.number.Parts.{Parts}
use Rattle.slash.specs.declared.number.Value.{Value}
use Rattle.slash.specs.declared.number.Value.TheVariants.{Fraction, Zero, Infinity, NotANumber}
use Rattle.arithmetic.specs.Operands.{operand_of, sign_of, differ, turned}
use Rattle.arithmetic.specs.Operations.{sum_parts, sum_of, times_infinity, product_parts, product_of, divided_by, quotient_of, exact_of, exact_value}
use Rattle.arithmetic.specs.Sizes.{is_finite}
use Rattle.arithmetic.specs.declared.operand.Operand.{Operand}
use Rattle.arithmetic.specs.declared.operand.Operand.TheVariants.{Finite, Infinite}
use Rattle.arithmetic.proofs.OperationLaws.{sign_zero}

-- the sign of a value
abbrev sign : Value → Bool
sign v = (parts_of v).negative

-- what holds of fractions and zeros holds of every finite value
by_finite : (P : Value → Type 0) → ((p : Parts) → P (Fraction p)) → ((s : Bool) → P (Zero s)) → (v : Value) → is_finite v ≡ true → P v
unfolding is_finite
by_finite P a b (Fraction p) e = a p
by_finite P a b (Zero s) e = b s
by_finite P a b (Infinity s) e = absurd (false≢true e)
by_finite P a b NotANumber e = absurd (false≢true e)

-- ---- adding and subtracting

-- A value with its sign turned.
abbrev pub turned_value : Value → Value
turned_value (Fraction p) = Fraction (record { negative = not p.negative; numerator = p.numerator; denominator = p.denominator })
turned_value (Zero s) = Zero (not s)
turned_value (Infinity s) = Infinity (not s)
turned_value NotANumber = NotANumber

-- Subtracting is adding the right operand with its sign turned.
pub difference_is : (v w : Value) → exact_value 2 v w ≡ exact_value 1 v (turned_value w)
unfolding exact_value exact_of operand_of turned is_nan
difference_is v (Fraction q) = refl
difference_is v (Zero t) = refl
difference_is v (Infinity t) = refl
difference_is (Fraction p) NotANumber = refl
difference_is (Zero s) NotANumber = refl
difference_is (Infinity s) NotANumber = refl
difference_is NotANumber NotANumber = refl

-- Finite plus infinity, either way round, is that signed infinity.
pub plus_infinity : (t : Bool) (v : Value) → is_finite v ≡ true → exact_value 1 v (Infinity t) ≡ Infinity t
unfolding exact_value exact_of sum_of operand_of is_nan
plus_infinity t = by_finite (λ v. exact_value 1 v (Infinity t) ≡ Infinity t) (λ p. refl) (λ s. refl)

pub infinity_plus : (s : Bool) (v : Value) → is_finite v ≡ true → exact_value 1 (Infinity s) v ≡ Infinity s
unfolding exact_value exact_of sum_of operand_of is_nan
infinity_plus s = by_finite (λ v. exact_value 1 (Infinity s) v ≡ Infinity s) (λ p. refl) (λ t. refl)

-- Infinity plus an equal sign is infinity, opposite signs not-a-number.
pub infinity_plus_equal : (s : Bool) → exact_value 1 (Infinity s) (Infinity s) ≡ Infinity s
unfolding exact_value exact_of sum_of operand_of is_nan
infinity_plus_equal true = refl
infinity_plus_equal false = refl

pub infinity_plus_opposite : (s : Bool) → exact_value 1 (Infinity s) (Infinity (not s)) ≡ NotANumber
unfolding exact_value exact_of sum_of operand_of is_nan
infinity_plus_opposite true = refl
infinity_plus_opposite false = refl

-- a sum of 0 has sign 0
abbrev Unsigned : Value → Type 0
Unsigned v = (parts_of v).numerator ≡ 0 → sign v ≡ false

zero_unsigned : (x y : Operand) → Unsigned (sum_of x y)
unfolding sum_of sum_parts
zero_unsigned (Finite p) (Finite q) z = sym (sign_zero _ _ _ _ _ z)
zero_unsigned (Finite p) (Infinite t) z = absurd (omega arith)
zero_unsigned (Infinite s) (Finite q) z = absurd (omega arith)
zero_unsigned (Infinite s) (Infinite t) z = if_case Unsigned (differ s t) NotANumber (Infinity s) (λ e g. refl) (λ e g. absurd (omega arith)) z

module _ (v w : Value) where
  -- An exact sum or difference of 0 has sign 0.
  pub sum_zero_sign : (parts_of (exact_value 1 v w)).numerator ≡ 0 → sign (exact_value 1 v w) ≡ false
  unfolding exact_value exact_of
  sum_zero_sign = if_case Unsigned (is_nan v || is_nan w) NotANumber _ (λ e z. refl) (λ e. zero_unsigned (operand_of v) (operand_of w))

  pub difference_zero_sign : (parts_of (exact_value 2 v w)).numerator ≡ 0 → sign (exact_value 2 v w) ≡ false
  unfolding exact_value exact_of
  difference_zero_sign = if_case Unsigned (is_nan v || is_nan w) NotANumber _ (λ e z. refl) (λ e. zero_unsigned (operand_of v) (turned (operand_of w)))

-- ---- multiplying and dividing

module _ (s t : Bool) where
  -- Zero × infinity, 0 ÷ 0 and infinity ÷ infinity are not-a-number.
  pub zero_times_infinity : exact_value 3 (Zero s) (Infinity t) ≡ NotANumber
  unfolding exact_value exact_of product_of times_infinity operand_of is_nan
  zero_times_infinity = refl

  pub infinity_times_zero : exact_value 3 (Infinity s) (Zero t) ≡ NotANumber
  unfolding exact_value exact_of product_of times_infinity operand_of is_nan
  infinity_times_zero = refl

  pub zero_by_zero : exact_value 4 (Zero s) (Zero t) ≡ NotANumber
  unfolding exact_value exact_of quotient_of divided_by operand_of is_nan
  zero_by_zero = refl

  pub infinity_by_infinity : exact_value 4 (Infinity s) (Infinity t) ≡ NotANumber
  unfolding exact_value exact_of quotient_of operand_of is_nan
  infinity_by_infinity = refl

  -- Other products with infinity are infinity; products multiply signs.
  pub infinity_times_infinity : exact_value 3 (Infinity s) (Infinity t) ≡ Infinity (differ s t)
  unfolding exact_value exact_of product_of operand_of sign_of is_nan
  infinity_times_infinity = refl

module _ (p : Parts) (some : 1 ≤ p.numerator) (t : Bool) where
  -- Other products with infinity are infinity.
  pub fraction_times_infinity : exact_value 3 (Fraction p) (Infinity t) ≡ Infinity (differ p.negative t)
  unfolding exact_value exact_of product_of times_infinity operand_of sign_of is_nan
  fraction_times_infinity = rw (some_not _ some) refl

  pub infinity_times_fraction : exact_value 3 (Infinity t) (Fraction p) ≡ Infinity (differ t p.negative)
  unfolding exact_value exact_of product_of times_infinity operand_of sign_of is_nan
  infinity_times_fraction = rw (some_not _ some) refl

  -- Nonzero finite ÷ zero is infinity; quotients multiply signs.
  pub fraction_by_zero : exact_value 4 (Fraction p) (Zero t) ≡ Infinity (differ p.negative t)
  unfolding exact_value exact_of quotient_of divided_by operand_of sign_of is_nan
  fraction_by_zero = rw (some_not _ some) refl

-- Infinity ÷ finite is infinity.
pub infinity_by : (s : Bool) (v : Value) → is_finite v ≡ true → exact_value 4 (Infinity s) v ≡ Infinity (differ s (sign v))
unfolding exact_value exact_of quotient_of operand_of sign_of is_nan
infinity_by s = by_finite (λ v. exact_value 4 (Infinity s) v ≡ Infinity (differ s (sign v))) (λ p. refl) (λ t. refl)

-- Finite ÷ infinity is zero.
pub by_infinity : (t : Bool) (v : Value) → is_finite v ≡ true → exact_value 4 v (Infinity t) ≡ Zero (differ (sign v) t)
unfolding exact_value exact_of quotient_of operand_of sign_of is_nan
by_infinity t = by_finite (λ v. exact_value 4 v (Infinity t) ≡ Zero (differ (sign v) t)) (λ p. refl) (λ s. refl)

-- ---- the signs of products and quotients

-- a value, but not-a-number, has this sign
abbrev Signed : Bool → Value → Type 0
Signed s v = is_nan v ≡ false → sign v ≡ s

infinity_signed : (s c : Bool) → Signed s (if c then NotANumber else Infinity s)
unfolding is_nan
infinity_signed s true i = absurd (true≢false i)
infinity_signed s false i = refl

product_signed : (s : Bool) (x y : Operand) → Signed s (product_of s x y)
unfolding product_of product_parts times_infinity
product_signed s (Finite p) (Finite q) i = refl
product_signed s (Finite p) (Infinite t) i = infinity_signed s (eqb p.numerator 0) i
product_signed s (Infinite u) (Finite q) i = infinity_signed s (eqb q.numerator 0) i
product_signed s (Infinite u) (Infinite t) i = refl

quotient_signed : (s : Bool) (x y : Operand) → Signed s (quotient_of s x y)
unfolding quotient_of divided_by is_nan
quotient_signed s (Finite p) (Finite q) i =
    if_case (Signed s) (eqb q.numerator 0) _ _ (λ e. infinity_signed s (eqb p.numerator 0)) (λ e j. refl) i
quotient_signed s (Finite p) (Infinite t) i = refl
quotient_signed s (Infinite u) (Finite q) i = refl
quotient_signed s (Infinite u) (Infinite t) i = absurd (true≢false i)

operand_sign : (v : Value) → sign_of (operand_of v) ≡ sign v
unfolding sign_of operand_of
operand_sign (Fraction p) = refl
operand_sign (Zero s) = refl
operand_sign (Infinity s) = refl
operand_sign NotANumber = refl

module _ (v w : Value) where
  both_signs : differ (sign_of (operand_of v)) (sign_of (operand_of w)) ≡ differ (sign v) (sign w)
  both_signs = ap₂ (λ (s t : Bool). differ s t) (operand_sign v) (operand_sign w)

  abbrev SignedSo : Value → Type 0
  SignedSo u = Signed (differ (sign v) (sign w)) u

  -- Products and quotients multiply signs.
  pub product_sign : is_nan (exact_value 3 v w) ≡ false → sign (exact_value 3 v w) ≡ differ (sign v) (sign w)
  unfolding exact_value exact_of is_nan
  product_sign = if_case SignedSo (is_nan v || is_nan w) NotANumber _ (λ e i. absurd (true≢false i)) (λ e i. product_signed _ _ _ i ∙ both_signs)

  pub quotient_sign : is_nan (exact_value 4 v w) ≡ false → sign (exact_value 4 v w) ≡ differ (sign v) (sign w)
  unfolding exact_value exact_of is_nan
  quotient_sign = if_case SignedSo (is_nan v || is_nan w) NotANumber _ (λ e i. absurd (true≢false i)) (λ e i. quotient_signed _ _ _ i ∙ both_signs)
