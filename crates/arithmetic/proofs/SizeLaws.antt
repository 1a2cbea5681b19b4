-- Demand 3's N over D is the size of the exact value that is rounded: two definitions that say one thing. Assumes nothing.
-- `size_exact`: for every two values and each of the four codes.
use mathlib.Core.Path.{◌≡◌, refl, ap, subst⁻¹}
use mathlib.Core.Bool.{Bool, true, false, not}
use Prim.Native.Nat.{ℕ, ◌*◌, ◌≤◌}
use native.Mathlib.Omega.{arith}
use native.Mathlib.Decide.{ℕ_discrete}
use lib.Dec.{leb, eqb}
use borrow.Author.Tests.{leb-true}
use Rattle.std.specs.Prelude.{if◌then◌else◌}
use Rattle.slash.specs.Best.{ExactSize, ◌over◌, none, size_of}
use Rattle.slash.specs.Numbers.{is_nan, parts_of}
use Rattle.slash.proofs.AnswerLaws.{and_parts}
use Rattle.slash.specs.declared.number.Value.{Value}
use Rattle.slash.specs.declared.number.Value.TheVariants.{Fraction, Zero, Infinity, NotANumber}
use Rattle.arithmetic.specs.Operands.{operand_of, sign_of, differ, turned}
use Rattle.arithmetic.specs.Operations.{sum_size, sum_parts, sum_of, product_parts, times_infinity, product_of, divided_by, quotient_of, exact_of, exact_value, is_binary}
use Rattle.arithmetic.specs.Sizes.{is_finite, is_infinite, size_of_sum, finite_size, binary_size}
use Rattle.arithmetic.specs.declared.operand.Operand.{Operand}
use Rattle.arithmetic.specs.declared.operand.Operand.TheVariants.{Finite, Infinite}

-- what holds of each of the four codes holds of a binary one
by_binary : (P : ℕ → Type 0) → P 1 → P 2 → P 3 → P 4 → (code : ℕ) → is_binary code ≡ true → P code
unfolding is_binary
by_binary P a b c d code i = go (ℕ_discrete code 1) (ℕ_discrete code 2) (ℕ_discrete code 3)
  where
    bounds : (leb 1 code ≡ true) × (leb code 4 ≡ true)
    bounds = and_parts (leb 1 code) (leb code 4) i

    go : Dec (code ≡ 1) → Dec (code ≡ 2) → Dec (code ≡ 3) → P code
    go (yes e) f g = subst⁻¹ P e a
    go (no e) (yes f) g = subst⁻¹ P f b
    go (no e) (no f) (yes g) = subst⁻¹ P g c
    go (no e) (no f) (no g) =
        let low : 1 ≤ code = leb-true _ _ bounds.0 in
        let high : code ≤ 4 = leb-true _ _ bounds.1 in
        let h : code ≡ 4 = omega arith in
        subst⁻¹ P h d

-- ---- by the operands

same_size : (s t : Bool) (ad bc : ℕ) → sum_size (differ s t) ad bc ≡ size_of_sum s t ad bc
unfolding sum_size size_of_sum
same_size true true ad bc = refl
same_size true false ad bc = refl
same_size false true ad bc = refl
same_size false false ad bc = refl

no_size : (b s : Bool) → size_of (if b then NotANumber else Infinity s) ≡ none
no_size true s = refl
no_size false s = refl

operand_size : ℕ → Operand → Operand → ExactSize
operand_size code (Finite p) (Finite q) = finite_size code p.negative p.numerator p.denominator q.negative q.numerator q.denominator
operand_size code (Finite p) (Infinite t) = if eqb code 4 then 0 over 1 else none
operand_size code (Infinite s) y = none

quotient_size : (s b z : Bool) (n d : ℕ) → size_of (if b then (if z then NotANumber else Infinity s) else Fraction (record { negative = s; numerator = n; denominator = d })) ≡ (if b then none else (n over d))
quotient_size s true z n d = no_size z s
quotient_size s false z n d = refl

operand_size_lem : (x y : Operand) (code : ℕ) → is_binary code ≡ true → size_of (exact_of code x y) ≡ operand_size code x y
unfolding exact_of sum_of sum_parts product_of product_parts times_infinity divided_by quotient_of turned sign_of finite_size operand_size
operand_size_lem (Finite p) (Finite q) =
    let ad : ℕ = p.numerator * q.denominator in
    let bc : ℕ = p.denominator * q.numerator in
    let bd : ℕ = p.denominator * q.denominator in
    by_binary (λ n. size_of (exact_of n (Finite p) (Finite q)) ≡ operand_size n (Finite p) (Finite q))
    (ap (λ (n : ℕ). n over bd) (same_size p.negative q.negative ad bc))
    (ap (λ (n : ℕ). n over bd) (same_size p.negative (not q.negative) ad bc))
    refl
    (quotient_size (differ p.negative q.negative) (eqb q.numerator 0) (eqb p.numerator 0) ad bc)
operand_size_lem (Finite p) (Infinite t) =
    by_binary (λ n. size_of (exact_of n (Finite p) (Infinite t)) ≡ operand_size n (Finite p) (Infinite t))
    refl refl (no_size (eqb p.numerator 0) (differ p.negative t)) refl
operand_size_lem (Infinite s) (Finite q) =
    by_binary (λ n. size_of (exact_of n (Infinite s) (Finite q)) ≡ none)
    refl refl (no_size (eqb q.numerator 0) (differ s q.negative)) refl
operand_size_lem (Infinite s) (Infinite t) =
    by_binary (λ n. size_of (exact_of n (Infinite s) (Infinite t)) ≡ none)
    (no_size (differ s t) s) (no_size (differ s (not t)) s) refl refl

-- ---- by the values

-- The exact value of a binary operation has the size that 01 gives.
pub size_exact : (code : ℕ) → is_binary code ≡ true → (v w : Value) → size_of (exact_value code v w) ≡ binary_size code v w
unfolding exact_value binary_size operand_size is_nan operand_of is_finite is_infinite
size_exact code i (Fraction p) (Fraction q) = operand_size_lem (Finite p) (Finite q) code i
size_exact code i (Fraction p) (Zero t) = operand_size_lem (Finite p) (Finite (parts_of (Zero t))) code i
size_exact code i (Fraction p) (Infinity t) = operand_size_lem (Finite p) (Infinite t) code i
size_exact code i (Fraction p) NotANumber = refl
size_exact code i (Zero s) (Fraction q) = operand_size_lem (Finite (parts_of (Zero s))) (Finite q) code i
size_exact code i (Zero s) (Zero t) = operand_size_lem (Finite (parts_of (Zero s))) (Finite (parts_of (Zero t))) code i
size_exact code i (Zero s) (Infinity t) = operand_size_lem (Finite (parts_of (Zero s))) (Infinite t) code i
size_exact code i (Zero s) NotANumber = refl
size_exact code i (Infinity s) (Fraction q) = operand_size_lem (Infinite s) (Finite q) code i
size_exact code i (Infinity s) (Zero t) = operand_size_lem (Infinite s) (Finite (parts_of (Zero t))) code i
size_exact code i (Infinity s) (Infinity t) = operand_size_lem (Infinite s) (Infinite t) code i
size_exact code i (Infinity s) NotANumber = refl
size_exact code i NotANumber w = refl
