-- The numbers that bits say, by IEEE 754 as the toolchain's account of f32 has it. Assumes nothing.
-- `value_is`: the value of every number of normal size without the sign, by its significand and exponent. `ratio_exact`, `number_exact`: N over
-- D is the ratio of the two values, and of a number over 1 its own; `some_value`: that isn't 0. `order_is`: numbers without the sign are in the
-- order of their bits. `timings_are`, `ratio_is`: whatever the bits, the tests on them are the paper's rules for the numbers, by IEEE 754's
-- comparisons.
use mathlib.Core.Path.{◌≡◌, refl, sym, ap, ap₂, ◌∙◌, subst}
use mathlib.Core.Bool.{Bool, true, false, ◌&&◌, ◌||◌, cond, and-false, true≢false}
use mathlib.Core.Logic.{◌⊎◌, inl, inr, ⊎_map}
use Prim.Native.Nat.{ℕ, zero, suc, ◌+◌, ◌-◌, ◌*◌, ◌/◌, ◌%◌, ◌^◌, ◌≤◌, ◌<◌}
use native.Mathlib.Omega.{arith}
use native.Mathlib.Decide.{dec_le, dec_lt, ℕ_discrete}
use native.Mathlib.Nat.{mul-one, mul_comm, mul_assoc, mul_right_comm, mul-pos, mul-le-mul_left, mul-le-mul_right, le_of_mul-le-mul_right, eq_of_mul-eq-mul_right, mod-lt, pow-suc}
use lib.Dec.{ltb, leb, eqb}
use lib.IntN.{pos, negsuc}
use lib.Pow.{pow-add, pow_pos}
use lib.Ieee.{Float, nan, inf, fin, binary32, up, down, of_bits, of_fields, odd, lt, eq, le}
use lib.Ieee.Exact.{HasValue, odd_sign}
use lib.Ieee.Fits.{down_pos}
use lib.Ieee.Positive.{num, den, den_pos, value→cross, first_pos}
use borrow.Author.Tests.{lt-ltb, le-ltb, le-leb, lt-leb, eq-eqb, ne_eqb, ltb-true, ltb-false}
use Rattle.slash.proofs.AnswerLaws.{and_parts}
use Rattle.importing.specs.Floats.{significand, exponent, least, one, beyond, is_timing, are_timings, is_ratio, float_ratio}
use Rattle.importing.specs.Steps.{InOrder}

-- The float of some bits.
abbrev float : ℕ → Float
float bits = of_bits binary32 bits

-- The first bits that are no number: those of infinity.
abbrev infinite : ℕ
infinite = 255 * 2 ^ 23

-- ---- the value of bits, in units of the smallest number, 2^-149

-- by an exponent and the digits below the leading one; an exponent of 0 has no leading 1, and counts as 1
unfoldable fields_value : (e digits : ℕ) → ℕ
fields_value zero digits = digits
fields_value (suc x) digits = (2 ^ 23 + digits) * 2 ^ x

unfoldable value_of : ℕ → ℕ
value_of bits = fields_value (bits / 2 ^ 23) (bits % 2 ^ 23)

fields_value_lem : (e t : ℕ) → e < 255 → HasValue (of_fields binary32 false e t) false (fields_value e t) (2 ^ 149)
unfolding of_fields fields_value
fields_value_lem zero t h = subst (λ (a : ℕ). HasValue (odd 24 false t 0 149) false a (2 ^ 149)) (mul-one t) (odd_sign 24 false t 0 149)
fields_value_lem (suc x) t h =
    let n : suc x ≡ 255 → ⊥ = λ e. omega arith in
    subst (λ (c : Bool). HasValue (cond c (cond (eqb t 0) (inf false) nan) (odd 24 false (2 ^ 23 + t) x 149)) false ((2 ^ 23 + t) * 2 ^ x) (2 ^ 149)) (sym (ne_eqb (suc x) 255 n))
    (odd_sign 24 false (2 ^ 23 + t) x 149)

-- the fields of bits without a sign
unsigned : (b : ℕ) → b < 2 ^ 31 → float b ≡ of_fields binary32 false (b / 2 ^ 23) (b % 2 ^ 23)
unfolding of_bits
unsigned b h =
    let s : leb 2147483648 b ≡ false = lt-leb 2147483648 b h in
    let e : b % 2147483648 / 8388608 ≡ b / 8388608 = omega arith in
    λ i. of_fields binary32 (s i) (e i) (b % 8388608)

value : (b : ℕ) → b < infinite → HasValue (float b) false (value_of b) (2 ^ 149)
unfolding value_of
value b h =
    let l : b < 2 ^ 31 = omega arith in
    let e : b / 2 ^ 23 < 255 = omega arith in
    subst (λ (x : Float). HasValue x false (fields_value (b / 2 ^ 23) (b % 2 ^ 23)) (2 ^ 149)) (sym (unsigned b l)) (fields_value_lem (b / 2 ^ 23) (b % 2 ^ 23) e)

-- of normal size: the significand times a power of two
normal_value : (b : ℕ) → 1 ≤ exponent b → value_of b ≡ significand b * 2 ^ (exponent b - 1)
unfolding value_of significand exponent fields_value
normal_value b h =
    let e : b / 2 ^ 23 ≡ suc (b / 2 ^ 23 - 1) = omega arith in
    ap (λ (x : ℕ). fields_value x (b % 2 ^ 23)) e

pub value_is : (b : ℕ) → 1 ≤ exponent b → b < infinite → HasValue (float b) false (significand b * 2 ^ (exponent b - 1)) (2 ^ 149)
value_is b h l = subst (λ (a : ℕ). HasValue (float b) false a (2 ^ 149)) (normal_value b h) (value b l)

-- ---- the exact ratio

-- two values over one unit, and their ratio
cross : (N D A B n m d e c : ℕ) → 0 < c → n * c ≡ A * d → m * c ≡ B * e → N * B ≡ D * A → N * (m * d) ≡ D * (n * e)
cross N D A B n m d e c p hn hm h =
    eq_of_mul-eq-mul_right c p (N * (m * d)) (D * (n * e))
    (rearranged N m d c ∙ ap (λ (x : ℕ). N * (x * d)) hm ∙ gathered N B e d
    ∙ ap (λ (x : ℕ). x * (d * e)) h
    ∙ sym (gathered' D A d e) ∙ ap (λ (x : ℕ). D * (x * e)) (sym hn) ∙ sym (rearranged D n e c))
  where
    rearranged : (a b f g : ℕ) → a * (b * f) * g ≡ a * (b * g * f)
    rearranged a b f g = mul_assoc a (b * f) g ∙ ap (λ (x : ℕ). a * x) (mul_right_comm b f g)

    gathered' : (a b f g : ℕ) → a * (b * f * g) ≡ a * b * (f * g)
    gathered' a b f g = ap (λ (x : ℕ). a * x) (mul_assoc b f g) ∙ sym (mul_assoc a b (f * g))

    gathered : (a b f g : ℕ) → a * (b * f * g) ≡ a * b * (g * f)
    gathered a b f g = gathered' a b f g ∙ ap (λ (x : ℕ). a * b * x) (mul_comm f g)

pub significand_some : (b : ℕ) → 1 ≤ significand b
unfolding significand
significand_some b = omega arith

normal : (c : ℕ) → least ≤ c → 1 ≤ exponent c
unfolding exponent
normal c l = omega arith

in_line : (c d : ℕ) → c ≤ d → 1 ≤ exponent c → exponent d - exponent c + (exponent c - 1) ≡ exponent d - 1
unfolding exponent
in_line c d l h = omega arith

powers : (s t i j k : ℕ) → i + j ≡ k → s * (t * 2 ^ k) ≡ t * 2 ^ i * (s * 2 ^ j)
powers s t i j k e =
    let p : 2 ^ k ≡ 2 ^ i * 2 ^ j = ap (λ (x : ℕ). 2 ^ x) (sym e) ∙ pow-add 2 i j in
    omega (arith, ap (λ (x : ℕ). s * (t * x)) p)

-- a number in range isn't 0
pub some_value : (b : ℕ) → least ≤ b → b < beyond → 1 ≤ num (float b)
some_value b l h =
    let e : num (float b) * 2 ^ 149 ≡ significand b * 2 ^ (exponent b - 1) * den (float b) = value→cross (float b) _ _ (value_is b (normal b l) (omega arith)) in
    let p : 0 < significand b * 2 ^ (exponent b - 1) * den (float b) = mul-pos (mul-pos (significand_some b) (pow_pos (exponent b - 1))) (den_pos (float b)) in
    first_pos (num (float b)) (2 ^ 149) (subst (λ (n : ℕ). 0 < n) (sym e) p)

-- N over D of two numbers is the ratio of their values: num x / den x is the value of x.
pub ratio_exact : (a b : ℕ) → InOrder a b
    → (float_ratio a b).numerator * (num (float b) * den (float a)) ≡ (float_ratio a b).denominator * (num (float a) * den (float b))
unfolding float_ratio
ratio_exact a b o =
    let ea : 1 ≤ exponent a = normal a o.from in
    let m : least ≤ b = omega (arith, o.from, o.order) in
    let eb : 1 ≤ exponent b = normal b m in
    let e : exponent b - exponent a + (exponent a - 1) ≡ exponent b - 1 = in_line a b o.order ea in
    let x : num (float a) * 2 ^ 149 ≡ significand a * 2 ^ (exponent a - 1) * den (float a) = value→cross (float a) _ _ (value_is a ea (omega (arith, o.order, o.below))) in
    let y : num (float b) * 2 ^ 149 ≡ significand b * 2 ^ (exponent b - 1) * den (float b) = value→cross (float b) _ _ (value_is b eb (omega (arith, o.below))) in
    cross (significand a) (significand b * 2 ^ (exponent b - exponent a)) (significand a * 2 ^ (exponent a - 1)) (significand b * 2 ^ (exponent b - 1))
    (num (float a)) (num (float b)) (den (float a)) (den (float b)) (2 ^ 149) (pow_pos 149) x y
    (powers (significand a) (significand b) (exponent b - exponent a) (exponent a - 1) (exponent b - 1) e)

-- ---- numbers that aren't negative are in the order of their bits

same_exponent : (m n p : ℕ) → 0 < p → m < n → m * p < n * p
same_exponent m n p s h = omega (arith, mul-le-mul_right p h)

larger_exponent : (m n j d : ℕ) → m < 2 ^ 24 → 2 ^ 23 ≤ n → m * 2 ^ j < n * 2 ^ (j + suc d)
larger_exponent m n j d h l =
    let s : 2 ^ (j + suc d) ≡ 2 ^ j * (2 * 2 ^ d) = pow-add 2 j (suc d) ∙ ap (λ (x : ℕ). 2 ^ j * x) (pow-suc 2 d ∙ mul_comm (2 ^ d) 2) in
    let a : m * 2 ^ j < 16777216 * 2 ^ j = same_exponent m 16777216 (2 ^ j) (pow_pos j) h in
    let b : 8388608 * (2 ^ j * (2 * 2 ^ d)) ≤ n * (2 ^ j * (2 * 2 ^ d)) = mul-le-mul_right (2 ^ j * (2 * 2 ^ d)) l in
    let c : 2 ^ j * 1 ≤ 2 ^ j * 2 ^ d = mul-le-mul_left (2 ^ j) (pow_pos d) in
    subst (λ (x : ℕ). m * 2 ^ j < n * x) (sym s) (omega arith)

fields_grow : (e f s t : ℕ) → s < 2 ^ 23 → t < 2 ^ 23 → e * 2 ^ 23 + s < f * 2 ^ 23 + t → fields_value e s < fields_value f t
unfolding fields_value
fields_grow zero zero s t hs ht h = omega arith
fields_grow zero (suc y) s t hs ht h =
    let p : (2 ^ 23 + t) * 1 ≤ (2 ^ 23 + t) * 2 ^ y = mul-le-mul_left (2 ^ 23 + t) (pow_pos y) in
    omega (arith, p)
fields_grow (suc x) zero s t hs ht h = absurd (omega arith)
fields_grow (suc x) (suc y) s t hs ht h = go (dec_le y x)
  where
    go : Dec (y ≤ x) → (2 ^ 23 + s) * 2 ^ x < (2 ^ 23 + t) * 2 ^ y
    go (yes l) =
        let e : x ≡ y = omega arith in
        let m : 2 ^ 23 + s < 2 ^ 23 + t = omega arith in
        subst (λ (k : ℕ). (2 ^ 23 + s) * 2 ^ x < (2 ^ 23 + t) * 2 ^ k) e (same_exponent _ _ (2 ^ x) (pow_pos x) m)
    go (no n) =
        let e : y ≡ x + suc (y - suc x) = omega arith in
        let m : 2 ^ 23 + s < 2 ^ 24 = omega arith in
        let l : 2 ^ 23 ≤ 2 ^ 23 + t = omega arith in
        subst (λ (k : ℕ). (2 ^ 23 + s) * 2 ^ x < (2 ^ 23 + t) * 2 ^ k) (sym e) (larger_exponent _ _ x _ m l)

value_grows : (a b : ℕ) → a < b → value_of a < value_of b
unfolding value_of
value_grows a b h = fields_grow _ _ _ _ (mod-lt a (omega arith)) (mod-lt b (omega arith)) (omega arith)

-- the tests of two numbers are those of their sizes in one unit
module _ (u v A B c k : ℕ) (p : 0 < c) (q : 0 < k) (eu : u * c ≡ A * k) (ev : v * c ≡ B * k) where
  sizes_up : B ≤ A → v ≤ u
  sizes_up h = let l : v * c ≤ u * c = omega (arith, eu, ev, mul-le-mul_right k h) in le_of_mul-le-mul_right l p

  sizes_down : v ≤ u → B ≤ A
  sizes_down h = let l : B * k ≤ A * k = omega (arith, eu, ev, mul-le-mul_right c h) in le_of_mul-le-mul_right l q

module _ (a b : ℕ) (u v : ℕ) (up_is : value_of b ≤ value_of a → v ≤ u) (down_is : v ≤ u → value_of b ≤ value_of a) where
  bits_below : ltb u v ≡ ltb a b
  bits_below = go (dec_le b a)
    where
      go : Dec (b ≤ a) → ltb u v ≡ ltb a b
      go (yes l) = le-ltb u v (up_is (grown (ℕ_discrete a b))) ∙ sym (le-ltb a b l)
        where
          grown : Dec (a ≡ b) → value_of b ≤ value_of a
          grown (yes e) = subst (λ (x : ℕ). value_of b ≤ value_of x) (sym e) (omega arith)
          grown (no n) = let s : b < a = omega arith in omega (arith, value_grows b a s)
      go (no n) =
          let s : a < b = omega arith in
          let t : v ≤ u → ⊥ = λ h. omega (arith, down_is h, value_grows a b s) in
          let w : u < v = omega arith in
          lt-ltb u v w ∙ sym (lt-ltb a b s)

-- IEEE 754's tests as numbers' tests
equal_or_below : (u v : ℕ) → (ltb u v || (eqb u v && true)) ≡ leb u v
equal_or_below u v = go (dec_le v u) (ℕ_discrete u v)
  where
    go : Dec (v ≤ u) → Dec (u ≡ v) → (ltb u v || (eqb u v && true)) ≡ leb u v
    go (yes l) (yes e) = let h : u ≤ v = omega arith in rw (le-ltb u v l, eq-eqb u v e, le-leb u v h) refl
    go (yes l) (no n) = let h : v < u = omega arith in rw (le-ltb u v l, ne_eqb u v n, lt-leb u v h) refl
    go (no m) e = let h : u < v = omega arith in let g : u ≤ v = omega arith in rw (lt-ltb u v h, le-leb u v g) refl

not_above : (u v a b : ℕ) → ltb v u ≡ ltb b a → leb u v ≡ leb a b
not_above u v a b e = go (dec_le a b)
  where
    go : Dec (a ≤ b) → leb u v ≡ leb a b
    go (yes l) = le-leb u v (ltb-false v u (e ∙ le-ltb b a l)) ∙ sym (le-leb a b l)
    go (no n) = let h : b < a = omega arith in lt-leb u v (ltb-true v u (e ∙ lt-ltb b a h)) ∙ sym (lt-leb a b h)

-- two numbers that aren't negative
module _ (a b : ℕ) (ha : a < infinite) (hb : b < infinite) where
  module _ (m d e f : ℕ) (pd : 0 < d) (pf : 0 < f) (hx : m * 2 ^ 149 ≡ value_of a * d) (hy : e * 2 ^ 149 ≡ value_of b * f) where
    first_size : m * f * 2 ^ 149 ≡ value_of a * (d * f)
    first_size = mul_right_comm m f (2 ^ 149) ∙ ap (λ (x : ℕ). x * f) hx ∙ mul_assoc (value_of a) d f

    second_size : e * d * 2 ^ 149 ≡ value_of b * (d * f)
    second_size = mul_right_comm e d (2 ^ 149) ∙ ap (λ (x : ℕ). x * d) hy ∙ mul_assoc (value_of b) f d ∙ ap (λ (x : ℕ). value_of b * x) (mul_comm f d)

    fractions_below : ltb (m * f) (e * d) ≡ ltb a b
    fractions_below =
        bits_below a b (m * f) (e * d)
        (sizes_up (m * f) (e * d) (value_of a) (value_of b) (2 ^ 149) (d * f) (pow_pos 149) (mul-pos pd pf) first_size second_size)
        (sizes_down (m * f) (e * d) (value_of a) (value_of b) (2 ^ 149) (d * f) (pow_pos 149) (mul-pos pd pf) first_size second_size)

    fractions_above : ltb (e * d) (m * f) ≡ ltb b a
    fractions_above =
        bits_below b a (e * d) (m * f)
        (sizes_up (e * d) (m * f) (value_of b) (value_of a) (2 ^ 149) (d * f) (pow_pos 149) (mul-pos pd pf) second_size first_size)
        (sizes_down (e * d) (m * f) (value_of b) (value_of a) (2 ^ 149) (d * f) (pow_pos 149) (mul-pos pd pf) second_size first_size)

  pub order_is : (lt (float a) (float b) ≡ ltb a b) × (le (float a) (float b) ≡ leb a b)
  unfolding lt eq le
  order_is = go (float a) (float b) (value a ha) (value b hb)
    where
      go : (x y : Float) → HasValue x false (value_of a) (2 ^ 149) → HasValue y false (value_of b) (2 ^ 149) → (lt x y ≡ ltb a b) × (le x y ≡ leb a b)
      go nan y hx hy = absurd hx
      go (inf s) y hx hy = absurd hx
      go (fin s m e) nan hx hy = absurd hy
      go (fin s m e) (inf t) hx hy = absurd hy
      go (fin true m e) (fin t n d) hx hy = absurd (true≢false hx.0)
      go (fin false m e) (fin true n d) hx hy = absurd (true≢false hy.0)
      go (fin false m e) (fin false n d) hx hy = (
        fractions_below (m * up e) (down e) (n * up d) (down d) (down_pos e) (down_pos d) hx.1 hy.1,
        equal_or_below (m * up e * down d) (n * up d * down e)
            ∙ not_above (m * up e * down d) (n * up d * down e) a b (fractions_above (m * up e) (down e) (n * up d) (down d) (down_pos e) (down_pos d) hx.1 hy.1),
      )

-- ---- the ends of the ranges: 2^-10, 1 and 2^10 are 1 times a power of two

abbrev smallest : Float
smallest = fin false 1 (negsuc 9)

abbrev unit : Float
unit = fin false 1 (pos 0)

abbrev end : Float
end = fin false 1 (pos 10)

ends : (float least ≡ smallest) × (float one ≡ unit) × (float beyond ≡ end)
unfolding of_bits of_fields odd
ends = (refl, refl, refl)

-- A number over 1 is the number's own value.
pub number_exact : (a : ℕ) → InOrder a one → (float_ratio a one).numerator * den (float a) ≡ (float_ratio a one).denominator * num (float a)
number_exact a o =
    let x : num (float one) ≡ 1 = ap num ends.1 in
    let y : den (float one) ≡ 1 = ap den ends.1 in
    let e = ratio_exact a one o in
    omega (arith, ap (λ (n : ℕ). (float_ratio a one).numerator * (n * den (float a))) x, ap (λ (n : ℕ). (float_ratio a one).denominator * (num (float a) * n)) y, e)

-- ---- all other bits: infinities, NaNs, and what is negative

-- above every range, or below
abbrev Outside : Float → Type 0
Outside x = ((lt x end ≡ false) × (le x unit ≡ false)) ⊎ (le smallest x ≡ false)

negative : (m : ℕ) (e : _) → le smallest (fin true m e) ≡ false
unfolding lt eq le
negative m e =
    let z : 1 * 1 * down e ≡ 0 → ⊥ = λ h. omega (arith, down_pos e) in
    rw (ne_eqb (1 * 1 * down e) 0 z, and-false (eqb (1 * 1 * down e) (m * up e * 1024))) refl

negative_odd : (q k : ℕ) → le smallest (odd 24 true q k 149) ≡ false
unfolding odd
negative_odd zero k = negative 0 (pos 0)
negative_odd (suc q) k = negative _ _

signed : (e t : ℕ) → le smallest (of_fields binary32 true e t) ≡ false
unfolding of_fields lt eq le
signed zero t = negative_odd t 0
signed (suc x) t = go (eqb (suc x) 255) (eqb t 0)
  where
    go : (b c : Bool) → le smallest (cond b (cond c (inf true) nan) (odd 24 true (2 ^ 23 + t) x 149)) ≡ false
    go true true = refl
    go true false = refl
    go false c = negative_odd (2 ^ 23 + t) x

topmost : (t : ℕ) → (lt (of_fields binary32 false 255 t) end ≡ false) × (le (of_fields binary32 false 255 t) unit ≡ false)
unfolding of_fields lt eq le
topmost t = go (eqb t 0)
  where
    go : (c : Bool) → (lt (cond c (inf false) nan) end ≡ false) × (le (cond c (inf false) nan) unit ≡ false)
    go true = (refl, refl)
    go false = (refl, refl)

outside : (b : ℕ) → infinite ≤ b → b < 2 ^ 32 → Outside (float b)
unfolding of_bits
outside b h l = go (dec_lt b (2 ^ 31))
  where
    go : Dec (b < 2 ^ 31) → Outside (float b)
    go (yes s) =
        let e : b / 2 ^ 23 ≡ 255 = omega arith in
        let x : float b ≡ of_fields binary32 false 255 (b % 2 ^ 23) = unsigned b s ∙ ap (λ (n : ℕ). of_fields binary32 false n (b % 2 ^ 23)) e in
        inl (subst (λ (y : Float). (lt y end ≡ false) × (le y unit ≡ false)) (sym x) (topmost (b % 2 ^ 23)))
    go (no n) =
        let s : leb 2147483648 b ≡ true = le-leb 2147483648 b (omega arith) in
        inr (subst (λ (t : Bool). le smallest (of_fields binary32 t (b % 2147483648 / 8388608) (b % 8388608)) ≡ false) (sym s) (signed (b % 2147483648 / 8388608) (b % 8388608)))

-- ---- the rules, whatever the bits

both_false : (s t : Bool) → ((t ≡ false) ⊎ (s ≡ false)) → (s && t) ≡ false
both_false s t (inl e) = rw (e, and-false s) refl
both_false s t (inr e) = rw e refl

module _ (x : ℕ) (h : x < 2 ^ 32) where
  -- from 2^-10 to below 2^10
  pub timing_is : is_timing x ≡ (le smallest (float x) && lt (float x) end)
  unfolding is_timing
  timing_is = go (dec_lt x infinite)
    where
      go : Dec (x < infinite) → (leb least x && ltb x beyond) ≡ (le smallest (float x) && lt (float x) end)
      go (yes l) =
          ap₂ (λ (s t : Bool). s && t)
          (sym (ap (λ (y : Float). le y (float x)) (sym ends.0) ∙ (order_is least x (omega arith) l).1))
          (sym (ap (lt (float x)) (sym ends.2) ∙ (order_is x beyond l (omega arith)).0))
      go (no n) =
          let m : infinite ≤ x = omega arith in
          let t : ltb x beyond ≡ false = le-ltb x beyond (omega arith) in
          both_false (leb least x) (ltb x beyond) (inl t) ∙ sym (both_false (le smallest (float x)) (lt (float x) end) (⊎_map (λ e. e.0) (λ e. e) (outside x m h)))

  -- from 2^-10 to 1
  pub ratio_is : is_ratio x ≡ (le smallest (float x) && le (float x) unit)
  unfolding is_ratio
  ratio_is = go (dec_lt x infinite)
    where
      go : Dec (x < infinite) → (leb least x && leb x one) ≡ (le smallest (float x) && le (float x) unit)
      go (yes l) =
          ap₂ (λ (s t : Bool). s && t)
          (sym (ap (λ (y : Float). le y (float x)) (sym ends.0) ∙ (order_is least x (omega arith) l).1))
          (sym (ap (le (float x)) (sym ends.1) ∙ (order_is x one l (omega arith)).1))
      go (no n) =
          let m : infinite ≤ x = omega arith in
          let t : leb x one ≡ false = lt-leb x one (omega arith) in
          both_false (leb least x) (leb x one) (inl t) ∙ sym (both_false (le smallest (float x)) (le (float x) unit) (⊎_map (λ e. e.1) (λ e. e) (outside x m h)))

timing_below : (x : ℕ) → is_timing x ≡ true → x < infinite
unfolding is_timing
timing_below x e = omega (arith, ltb-true x beyond (and_parts (leb least x) (ltb x beyond) e).1)

-- Kind 1: both numbers run from 2^-10 to below 2^10, and the first is no larger than the second.
pub timings_are : (a b : ℕ) → a < 2 ^ 32 → b < 2 ^ 32
    → are_timings a b ≡ ((le smallest (float a) && lt (float a) end) && ((le smallest (float b) && lt (float b) end) && le (float a) (float b)))
unfolding are_timings
timings_are a b h l = ap₂ (λ (s t : Bool). s && (t && leb a b)) (timing_is a h) (timing_is b l) ∙ ordered (is_timing a) refl (is_timing b) refl
  where
    ordered : (s : Bool) → is_timing a ≡ s → (t : Bool) → is_timing b ≡ t
        → ((le smallest (float a) && lt (float a) end) && ((le smallest (float b) && lt (float b) end) && leb a b))
        ≡ ((le smallest (float a) && lt (float a) end) && ((le smallest (float b) && lt (float b) end) && le (float a) (float b)))
    ordered false e t f = rw (sym (timing_is a h) ∙ e) refl
    ordered true e false f = rw (sym (timing_is b l) ∙ f) refl
    ordered true e true f = rw (order_is a b (timing_below a e) (timing_below b f)).1 refl
