-- Operands. Assumes nothing.
-- `read_small`: what a word says has parts below 2^31. `products`: so no product of two leaves 62 bits. `same_operand`: a value and its parts
-- are the same operand.
use mathlib.Core.Path.{◌≡◌, refl, sym, ap, ◌∙◌, subst, subst⁻¹}
use mathlib.Core.Bool.{true}
use borrow.Author.Tests.{ne_eqb}
use Prim.Native.Nat.{ℕ, ◌*◌, ◌^◌, ◌≤◌, ◌<◌}
use native.Mathlib.Omega.{arith}
use native.Mathlib.Nat.{mul-le-mul}
use Rattle.slash.specs.Answers.{done}
use Rattle.slash.specs.Formats.{known}
use Rattle.slash.specs.Reading.{number_of, number_in, check_word, read_word}
use Rattle.slash.specs.Numbers.{is_nan, parts_of}
use Rattle.slash.specs.Steps.{HeldValue}
use Rattle.slash.proofs.ReadingLaws.{checked_number, checked_read}
use Rattle.slash.proofs.CanonicalLaws.{held_small, read_known, read_held}
use Rattle.slash.specs.declared.format.Format.{Format}
use Rattle.slash.specs.declared.number.Parts.{Parts}
use Rattle.slash.specs.declared.number.Value.{Value}
use Rattle.slash.specs.declared.number.Value.TheVariants.{Fraction, Zero, Infinity, NotANumber}
use Rattle.slash.specs.declared.number.Number.{Number}
use Rattle.arithmetic.specs.Operands.{operand_of, turned}
use Rattle.arithmetic.specs.Steps.{Small, value_from}
use Rattle.arithmetic.specs.declared.operand.Operand.{Operand}
use Rattle.arithmetic.specs.declared.operand.Operand.TheVariants.{Finite, Infinite}

-- ---- sizes

product_lt : {a b : ℕ} → a < 2 ^ 31 → b < 2 ^ 31 → a * b < 2 ^ 62
product_lt {a} {b} h k =
    let i : a ≤ 2147483647 = omega arith in
    let j : b ≤ 2147483647 = omega arith in
    omega (arith, mul-le-mul i j)

-- the products of the parts of two small operands
pub record Products (p q : Parts) : Type 0 where
  pub ad : p.numerator * q.denominator < 2 ^ 62
  pub bc : p.denominator * q.numerator < 2 ^ 62
  pub ac : p.numerator * q.numerator < 2 ^ 62
  pub bd : p.denominator * q.denominator < 2 ^ 62

pub products : {p q : Parts} → Small (Finite p) → Small (Finite q) → Products p q
unfolding Small
products s t =
    record {
      ad = product_lt s.small_numerator t.small_denominator;
      bc = product_lt s.small_denominator t.small_numerator;
      ac = product_lt s.small_numerator t.small_numerator;
      bd = product_lt s.small_denominator t.small_denominator;
    }

pub small_turned : (x : Operand) → Small x → Small (turned x)
unfolding turned Small
small_turned (Finite p) s =
    record { some_denominator = s.some_denominator; small_numerator = s.small_numerator; small_denominator = s.small_denominator }
small_turned (Infinite t) s = tt

held_operand : (f : Format) → known f ≡ true → (v : Value) → HeldValue f v → Small (operand_of v)
unfolding HeldValue Small operand_of
held_operand f h (Fraction p) q = held_small f h p q
held_operand f h (Zero s) q = record { some_denominator = omega arith; small_numerator = omega arith; small_denominator = omega arith }
held_operand f h (Infinity s) q = tt
held_operand f h NotANumber q = tt

-- what a word says is small
pub read_small : (f : Format) (w : ℕ) (x : Number) → read_word f w ≡ done x → Small (operand_of x.value)
read_small f w x r = let h = read_known f w x r in held_operand f h x.value (read_held f h w x r)

pub checked_small : (f : Format) (w : ℕ) → check_word f w ≡ done tt → Small (operand_of (number_of f w).value)
checked_small f w c = read_small f w _ (checked_read f w c)

-- and so is its value, as the code has it
pub checked_operand : (f : Format) (w : ℕ) → check_word f w ≡ done tt → (v : Value) → v ≡ (number_in f w).value → Small (operand_of v)
checked_operand f w c v e =
    subst (λ (u : Value). Small (operand_of u)) (sym (e ∙ ap (λ (x : Number). x.value) (checked_number f w c))) (checked_small f w c)

-- ---- a value from its parts

abbrev pub back : Parts → Value
back p = value_from p.negative p.numerator p.denominator

-- it is the same operand, and not-a-number where that was
pub same_operand : (v : Value) → Small (operand_of v) → (operand_of (back (parts_of v)) ≡ operand_of v) × (is_nan (back (parts_of v)) ≡ is_nan v)
unfolding operand_of Small value_from is_nan
same_operand (Fraction p) s = let n : p.denominator ≡ 0 → ⊥ = λ e. omega (arith, s.some_denominator) in (rw (ne_eqb _ _ n) refl, rw (ne_eqb _ _ n) refl)
same_operand (Zero s) t = (refl, refl)
same_operand (Infinity s) t = (refl, refl)
same_operand NotANumber t = (refl, refl)

pub small_back : (v : Value) → Small (operand_of v) → (p : Parts) → p ≡ parts_of v → Small (operand_of (back p))
small_back v s p e = subst⁻¹ (λ (q : Parts). Small (operand_of (back q))) e (subst⁻¹ Small (same_operand v s).0 s)
