-- Numbers by their bits, for the code. Assumes nothing.
-- `nan_free`, `no_nan`: bits in range are no NaN's. `bits_back`: a float that was made has the bits that it was made of. `shifted`: no bit of a
-- denominator is lost. `ratio_of_is`: the answer of `ratio_of`.
use mathlib.Core.Path.{◌≡◌, sym, ap, ◌∙◌, subst}
use mathlib.Core.Bool.{Bool, not}
use Prim.Native.Nat.{ℕ, ◌-◌, ◌*◌, ◌%◌, ◌^◌, ◌≤◌, ◌<◌}
use native.Mathlib.Omega.{arith}
use native.Mathlib.Nat.{mul-le-mul_left}
use lib.Dec.{T}
use lib.Pow.{pow_pos, shl_exact}
use lib.Ieee.{Float, nan, inf, fin, binary32, of_bits, to_bits, nan_bits, is_nan}
use lib.Ieee.Bits.{nan_bits_above, nan_bits_is, to_bits-of_bits}
use borrow.Author.Tests.{le-ltb}
use Rattle.breaths.specs.Ratios.{parts_ratio}
use Rattle.breaths.specs.declared.ratio.Ratio.{Ratio}
use Rattle.importing.specs.Floats.{significand, exponent, least, beyond, float_ratio}
use Rattle.importing.specs.Steps.{bits_of, InOrder, rounded_ratio}
use Rattle.importing.proofs.ValueLaws.{significand_some}

-- ---- NaNs

pub nan_free : (n : ℕ) → n < beyond → T (not (nan_bits binary32 n))
nan_free n h =
    let l : n % 2147483648 ≤ 2139095040 = omega arith in
    subst (λ (t : Bool). T (not t)) (sym (nan_bits_above binary32 n ∙ le-ltb _ _ l)) tt

pub no_nan : (x : Float) → bits_of x < beyond → T (not (is_nan x))
unfolding is_nan to_bits
no_nan nan h = omega (arith, h)
no_nan (inf s) h = tt
no_nan (fin s m e) h = tt

pub bits_back : (n : ℕ) → n < beyond → bits_of (of_bits binary32 n) ≡ n
bits_back n h =
    let l : n < 4294967296 = omega arith in
    to_bits-of_bits binary32 n l (subst (λ (t : Bool). T (not t)) (nan_bits_is binary32 n) (nan_free n h))

-- ---- the fields

significand_small : (a : ℕ) → significand a < 2 ^ 24
unfolding significand
significand_small a = omega arith

-- the exponents of numbers in order: the second's isn't the smaller, nor larger by 20 or more
pub exponents : (a b : ℕ) → InOrder a b → (exponent a ≤ exponent b) × (exponent b - exponent a < 20)
unfolding exponent
exponents a b o =
    let l : least ≤ a = o.from in
    let h : b < beyond = o.below in
    let m : a ≤ b = o.order in
    (omega arith, omega arith)

pub shifted : (a b : ℕ) → InOrder a b → significand b * 2 ^ (exponent b - exponent a) % 2 ^ 64 ≡ significand b * 2 ^ (exponent b - exponent a)
shifted a b o = shl_exact 24 (exponent b - exponent a) 64 (significand_small b) (omega (arith, (exponents a b o).1))

-- a denominator is never 0
pub some_denominator : (a b : ℕ) → 1 ≤ (float_ratio a b).denominator
unfolding float_ratio
some_denominator a b =
    let p : significand b * 1 ≤ significand b * 2 ^ (exponent b - exponent a) = mul-le-mul_left (significand b) (pow_pos (exponent b - exponent a)) in
    omega (arith, significand_some b, p)

-- ---- the answer of `ratio_of`

module _ (a b : ℕ) (o : InOrder a b) where
  pub ratio_of_is : {n m e f : ℕ} {r : Ratio} → n ≡ significand a → m ≡ significand b → e ≡ exponent a → f ≡ exponent b
      → r ≡ parts_ratio n (m * 2 ^ (f - e) % 2 ^ 64) → r ≡ rounded_ratio (float_ratio a b)
  unfolding rounded_ratio float_ratio
  ratio_of_is hn hm he hf h = h ∙ (λ i. parts_ratio (hn i) (hm i * 2 ^ (hf i - he i) % 2 ^ 64)) ∙ ap (parts_ratio (significand a)) (shifted a b o)
