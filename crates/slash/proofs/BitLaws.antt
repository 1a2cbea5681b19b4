-- The bits of a number. Assumes nothing.
-- `least_power_lem`: `least_power` is the least whole number whose power of two is enough. `bit_count_lt`, `bit_count_le`, `bit_count_zero`: a bit
-- count is the least number of bits, and 0 counts one. `fields_s` to `fields_z`, `fields_lt`: a word from its fields has these fields, and no
-- bit above them.
use mathlib.Core.Path.{◌≡◌, refl, sym, ap, ◌∙◌, subst}
use mathlib.Core.Bool.{Bool, true, false, ◌&&◌, and-false}
use Prim.Native.Nat.{ℕ, zero, suc, ◌+◌, ◌-◌, ◌*◌, ◌/◌, ◌%◌, ◌^◌, ◌≤◌, ◌<◌}
use native.Mathlib.Omega.{arith}
use native.Mathlib.Decide.{dec_le}
use native.Mathlib.Numerals.{add-one}
use native.Mathlib.Nat.{add-zero, zero-add, one-mul, mod-eq_of_lt, mod-lt, div-add-mod', le_antisymm, le-mul_of_pos_right, pow-suc, div-one, div-lt_iff_lt-mul}
use lib.Dec.{leb, eqb}
use lib.Arith.{digits_lt, digits_div, digits_mod}
use lib.Pow.{pow_pos, pow_mono, pow-lt, pow-add, shr-shr}
use lib.Bits.{bit_and, bit_or, and_mask, and_le_l, and_le_r, or_lt, or_add_and}
use lib.Count.{count_leading_zeros, leading_length}
use borrow.Author.Tests.{leb-true, leb-false, le-leb, lt-leb}
use Rattle.slash.specs.Bits.{least_from, least_power, bit_count, bits, bit, bit_of, word_of_fields}
use Rattle.slash.proofs.AnswerLaws.{some_not}

-- ---- powers of two

pub one_shl : (k : ℕ) → k < 64 → (1 * 2 ^ k) % 2 ^ 64 ≡ 2 ^ k
one_shl k h = ap (λ (n : ℕ). n % 2 ^ 64) (one-mul (2 ^ k)) ∙ mod-eq_of_lt (pow-lt h)

pub pow_next : (k : ℕ) → 2 ^ (k + 1) ≡ 2 * 2 ^ k
pow_next k = ap (λ (j : ℕ). 2 ^ j) (add-one k) ∙ pow-suc 2 k ∙ omega arith

pub pow_before : (k : ℕ) → 1 ≤ k → 2 ^ k ≡ 2 * 2 ^ (k - 1)
pow_before k h =
    let e : k ≡ k - 1 + 1 = omega arith in
    ap (λ (j : ℕ). 2 ^ j) e ∙ pow_next (k - 1)

below_pow : (m : ℕ) → m < 2 ^ m
below_pow zero = omega arith
below_pow (suc m) = omega (arith, below_pow m, pow-suc 2 m)

-- the bits of two numbers together are within k bits just where those of each are
pub or_most : (k r s : ℕ) → leb (bit_or r s) (2 ^ k - 1) ≡ (leb r (2 ^ k - 1) && leb s (2 ^ k - 1))
or_most k r s = go (dec_le r (2 ^ k - 1)) (dec_le s (2 ^ k - 1))
  where
    go : Dec (r ≤ 2 ^ k - 1) → Dec (s ≤ 2 ^ k - 1) → leb (bit_or r s) (2 ^ k - 1) ≡ (leb r (2 ^ k - 1) && leb s (2 ^ k - 1))
    go (yes a) (yes b) =
        let m : r < 2 ^ k = omega (arith, pow_pos k) in
        let n : s < 2 ^ k = omega (arith, pow_pos k) in
        let l : bit_or r s ≤ 2 ^ k - 1 = omega (arith, or_lt k r s m n) in
        rw (le-leb _ _ l, le-leb _ _ a, le-leb _ _ b) refl
    go (yes a) (no b) =
        let n : 2 ^ k - 1 < s = omega arith in
        let l : 2 ^ k - 1 < bit_or r s = omega (arith, or_add_and r s, and_le_l r s) in
        rw (lt-leb _ _ l, lt-leb _ _ n, and-false) refl
    go (no a) b =
        let m : 2 ^ k - 1 < r = omega arith in
        let l : 2 ^ k - 1 < bit_or r s = omega (arith, or_add_and r s, and_le_r r s) in
        rw (lt-leb _ _ l, lt-leb _ _ m) refl

-- ---- the least power

-- L is the least whole number with 2^L ≥ m
pub record Least (m L : ℕ) : Type 0 where
  pub enough : m ≤ 2 ^ L
  pub least : (j : ℕ) → m ≤ 2 ^ j → L ≤ j

pub least_unique : {m L M : ℕ} → Least m L → Least m M → L ≡ M
least_unique a b = le_antisymm (a.least _ b.enough) (b.least _ a.enough)

least_from_lem : (g L m : ℕ) → ((j : ℕ) → m ≤ 2 ^ j → L ≤ j) → m ≤ 2 ^ (L + g) → Least m (least_from g L m)
unfolding least_from
least_from_lem zero L m h l = record { enough = subst (λ (j : ℕ). m ≤ 2 ^ j) (add-zero L) l; least = h }
least_from_lem (suc g) L m h l =
    pick (leb m (2 ^ L)) refl
    (λ t. least_from_lem g (suc L) m (past t) (subst (λ (j : ℕ). m ≤ 2 ^ j) (omega arith) l))
  where
    past : leb m (2 ^ L) ≡ false → (j : ℕ) → m ≤ 2 ^ j → suc L ≤ j
    past t j k = go (dec_le j L)
      where
        go : Dec (j ≤ L) → suc L ≤ j
        go (yes i) = absurd (omega (arith, leb-false m (2 ^ L) t, pow_mono i))
        go (no i) = omega arith

    pick : (b : Bool) → leb m (2 ^ L) ≡ b → (b ≡ false → Least m (least_from g (suc L) m))
        → Least m (elim b [ true ↦ L | false ↦ least_from g (suc L) m ])
    pick true t f = record { enough = leb-true m (2 ^ L) t; least = h }
    pick false t f = f refl

pub least_power_lem : (m : ℕ) → Least m (least_power m)
unfolding least_power
least_power_lem m =
    let h : m ≤ 2 ^ (0 + m) = rw (zero-add m) (omega (arith, below_pow m)) in
    least_from_lem m 0 m (λ j h. omega arith) h

-- ---- bit counts

bit_count_some : (n : ℕ) → 1 ≤ n → Least (n + 1) (bit_count n)
unfolding bit_count
bit_count_some n h = rw (some_not n h) (least_power_lem (n + 1))

pub bit_count_zero : bit_count 0 ≡ 1
unfolding bit_count
bit_count_zero = refl

-- n is below 2^b for b its bit count, and its bit count is the least such number of at least 1
pub bit_count_lt : (n : ℕ) → n < 2 ^ bit_count n
bit_count_lt zero = rw bit_count_zero (omega arith)
bit_count_lt (suc n) = omega (arith, (bit_count_some (suc n) (omega arith)).enough)

pub bit_count_le : (n j : ℕ) → 1 ≤ j → n < 2 ^ j → bit_count n ≤ j
bit_count_le zero j l h = rw bit_count_zero l
bit_count_le (suc n) j l h = (bit_count_some (suc n) (omega arith)).least j (omega arith)

pub bit_count_pos : (n : ℕ) → 1 ≤ bit_count n
bit_count_pos zero = rw bit_count_zero (omega arith)
bit_count_pos (suc n) = go (bit_count (suc n)) refl
  where
    go : (b : ℕ) → bit_count (suc n) ≡ b → 1 ≤ bit_count (suc n)
    go zero e = absurd (omega (arith, subst (λ (b : ℕ). suc n < 2 ^ b) e (bit_count_lt (suc n))))
    go (suc b) e = omega arith

pub bit_count_mono : {m n : ℕ} → m ≤ n → bit_count m ≤ bit_count n
bit_count_mono {m} {n} h = bit_count_le m (bit_count n) (bit_count_pos n) (omega (arith, bit_count_lt n))

-- the leading bit of a number that isn't 0
pub bit_count_top : (n : ℕ) → 1 ≤ n → 2 ^ (bit_count n - 1) ≤ n
bit_count_top n h = go (dec_le (2 ^ (bit_count n - 1)) n) (dec_le 2 (bit_count n))
  where
    go : Dec (2 ^ (bit_count n - 1) ≤ n) → Dec (2 ≤ bit_count n) → 2 ^ (bit_count n - 1) ≤ n
    go (yes l) k = l
    go (no l) (yes k) = absurd (omega (arith, bit_count_le n (bit_count n - 1) (omega arith) (omega arith)))
    go (no l) (no k) =
        let e : bit_count n - 1 ≡ 0 = omega (arith, bit_count_pos n) in
        rw e h

-- and what the bits after it say
pub bit_count_rest : (n : ℕ) → 1 ≤ n → n - 2 ^ (bit_count n - 1) < 2 ^ (bit_count n - 1)
bit_count_rest n h = omega (arith, bit_count_top n h, bit_count_lt n, pow_before (bit_count n) (bit_count_pos n))

-- what has the leading bit at b - 1 has the bit count b
pub bit_count_is : (n b : ℕ) → 1 ≤ b → n < 2 ^ b → 2 ^ (b - 1) ≤ n → bit_count n ≡ b
bit_count_is n b l h k = le_antisymm (bit_count_le n b l h) (go (dec_le b (bit_count n)))
  where
    go : Dec (b ≤ bit_count n) → b ≤ bit_count n
    go (yes i) = i
    go (no i) =
        let m : bit_count n ≤ b - 1 = omega arith in
        absurd (omega (arith, bit_count_lt n, pow_mono m))

bit_count_leading : (n : ℕ) → 1 ≤ n → n < 2 ^ 64 → 64 - count_leading_zeros 64 n ≡ bit_count n
bit_count_leading n l h =
    let s = leading_length 64 n h in
    let e : 64 - count_leading_zeros 64 n ≡ s.0 = omega (arith, s.1) in
    e ∙ sym (bit_count_is n s.0 (pos s.0 s.2) s.2 (half s.0 s.2 s.3))
  where
    pos : (m : ℕ) → n < 2 ^ m → 1 ≤ m
    pos zero k = absurd (omega arith)
    pos (suc m) k = omega arith

    half : (m : ℕ) → n < 2 ^ m → 2 ^ m ≤ 2 * n + 1 → 2 ^ (m - 1) ≤ n
    half zero k i = absurd (omega arith)
    half (suc m) k i =
        let e : suc m - 1 ≡ m = omega arith in
        rw e (omega (arith, pow-suc 2 m))

-- n with its lowest bit set takes as many bits as n
odd_count : (n : ℕ) → bit_count (n / 2 * 2 + 1) ≡ bit_count n
odd_count zero = rw bit_count_zero (bit_count_is 1 1 (omega arith) (omega arith) (omega arith))
odd_count (suc n) =
    let m : ℕ = suc n in
    let b : ℕ = bit_count m in
    bit_count_is (m / 2 * 2 + 1) b (bit_count_pos m) (omega (arith, pow_before b (bit_count_pos m), bit_count_lt m)) (omega (arith, bit_count_top m (omega arith)))

pub count_odd : (n : ℕ) → n < 2 ^ 64 → 64 - count_leading_zeros 64 (n / 2 * 2 + 1) ≡ bit_count n
count_odd n h = bit_count_leading (n / 2 * 2 + 1) (omega arith) (omega arith) ∙ odd_count n

-- L for k is the bit count of k - 1
pub least_count : (k : ℕ) → 2 ≤ k → bit_count (k - 1) ≡ least_power k
least_count k h =
    let e : k - 1 + 1 ≡ k = omega arith in
    least_unique (subst (λ (m : ℕ). Least m (bit_count (k - 1))) e (bit_count_some (k - 1) (omega arith))) (least_power_lem k)

-- ---- a word's fields

pub bit_lt : (b : Bool) → bit_of b < 2
unfolding bit_of
bit_lt true = omega arith
bit_lt false = omega arith

pub bit_true : (b : Bool) → b ≡ true → 1 ≡ bit_of b
unfolding bit_of
bit_true b h = rw h refl

pub bit_false : (b : Bool) → b ≡ false → 0 ≡ bit_of b
unfolding bit_of
bit_false b h = rw h refl

pub field_is : (from count w p : ℕ) → p ≡ 2 ^ count → bit_and (w / 2 ^ from) (p - 1) ≡ bits from count w
unfolding bits
field_is from count w p e = rw e (and_mask (w / 2 ^ from) count)

-- the code takes what stands from bit count on away
module _ (count w : ℕ) (l : w < 2 ^ 64) where
  shifted : w / 2 ^ count * 2 ^ count % 2 ^ 64 ≡ w / 2 ^ count * 2 ^ count
  shifted = mod-eq_of_lt (omega (arith, div-add-mod' w (2 ^ count)))

  pub below_most : w / 2 ^ count * 2 ^ count % 2 ^ 64 ≤ w
  below_most = omega (arith, shifted, div-add-mod' w (2 ^ count))

  pub below_is : w - w / 2 ^ count * 2 ^ count % 2 ^ 64 ≡ bits 0 count w
  unfolding bits
  below_is = omega (arith, shifted, div-add-mod' w (2 ^ count)) ∙ ap (λ (n : ℕ). n % 2 ^ count) (sym (div-one w))

pub flag_is : (from w r : ℕ) → r ≡ bits from 1 w → eqb r 1 ≡ bit from w
unfolding bit
flag_is from w r e = rw e refl

pub bits_lt : (from count w : ℕ) → bits from count w < 2 ^ count
unfolding bits
bits_lt from count w = mod-lt (w / 2 ^ from) (pow_pos count)

-- no step of the packing leaves the bits of the word
pub pack_bounds : (i j k s x y z P Q R : ℕ) → P ≡ 2 ^ i → Q ≡ 2 ^ j → R ≡ 2 ^ k → i + j + k < 64
    → s < 2 → x < P → y < Q → z < R
    → (s * P + x < 2 ^ 64) × ((s * P + x) * Q + y < 2 ^ 64) × (((s * P + x) * Q + y) * R + z < 2 ^ 64)
pack_bounds i j k s x y z P Q R eP eQ eR h hs hx hy hz =
    let pP : 1 ≤ P = omega (arith, pow_pos i) in
    let pQ : 1 ≤ Q = omega (arith, pow_pos j) in
    let pR : 1 ≤ R = omega (arith, pow_pos k) in
    let h1 : s * P + x < 2 * P = digits_lt hs hx in
    let h2 : (s * P + x) * Q + y < (2 * P) * Q = digits_lt h1 hy in
    let h3 : ((s * P + x) * Q + y) * R + z < ((2 * P) * Q) * R = digits_lt h2 hz in
    let l : i + j + k + 1 ≤ 64 = omega arith in
    let e : 2 ^ (i + j + k + 1) ≡ 2 * ((P * Q) * R) =
    pow_next (i + j + k)
    ∙ ap (λ (m : ℕ). 2 * m) (pow-add 2 (i + j) k ∙ rw (pow-add 2 i j, ← eP, ← eQ, ← eR) refl)
    in
    let w : 2 * ((P * Q) * R) ≤ 2 ^ 64 = subst (λ (m : ℕ). m ≤ 2 ^ 64) e (pow_mono l) in
    let v : (2 * P) * Q ≤ ((2 * P) * Q) * R = le-mul_of_pos_right ((2 * P) * Q) pR in
    let u : 2 * P ≤ (2 * P) * Q = le-mul_of_pos_right (2 * P) pQ in
    (omega arith, omega arith, omega arith)

pub pack_is : (i j k s x y z P Q R : ℕ) → P ≡ 2 ^ i → Q ≡ 2 ^ j → R ≡ 2 ^ k
    → ((s * P + x) * Q + y) * R + z ≡ word_of_fields s x i y j z k
unfolding word_of_fields
pack_is i j k s x y z P Q R eP eQ eR = rw (eP, eQ, eR) refl

-- the fields of a packed word
module _ (s x i y j z k : ℕ) (hs : s < 2) (hx : x < 2 ^ i) (hy : y < 2 ^ j) (hz : z < 2 ^ k) where
  above_z : word_of_fields s x i y j z k / 2 ^ k ≡ (s * 2 ^ i + x) * 2 ^ j + y
  unfolding word_of_fields
  above_z = digits_div _ hz

  above_y : word_of_fields s x i y j z k / 2 ^ (k + j) ≡ s * 2 ^ i + x
  above_y = sym (shr-shr _ k j) ∙ ap (λ (w : ℕ). w / 2 ^ j) above_z ∙ digits_div _ hy

  above_x : word_of_fields s x i y j z k / 2 ^ (k + j + i) ≡ s
  above_x = sym (shr-shr _ (k + j) i) ∙ ap (λ (w : ℕ). w / 2 ^ i) above_y ∙ digits_div _ hx

  pub fields_z : bits 0 k (word_of_fields s x i y j z k) ≡ z
  unfolding bits word_of_fields
  fields_z = ap (λ (w : ℕ). w % 2 ^ k) (div-one _) ∙ digits_mod _ hz

  pub fields_y : bits k j (word_of_fields s x i y j z k) ≡ y
  unfolding bits
  fields_y = ap (λ (w : ℕ). w % 2 ^ j) above_z ∙ digits_mod _ hy

  -- the places above these are sums, however they are written
  pub fields_x : (p : ℕ) → p ≡ k + j → bits p i (word_of_fields s x i y j z k) ≡ x
  unfolding bits
  fields_x p e = rw e (ap (λ (w : ℕ). w % 2 ^ i) above_y ∙ digits_mod _ hx)

  pub fields_s : (p : ℕ) → p ≡ k + j + i → bits p 1 (word_of_fields s x i y j z k) ≡ s
  unfolding bits
  fields_s p e = rw e (ap (λ (w : ℕ). w % 2 ^ 1) above_x ∙ mod-eq_of_lt hs)

  pub fields_lt : (p : ℕ) → p ≡ k + j + i + 1 → word_of_fields s x i y j z k < 2 ^ p
  fields_lt p e =
      let g : word_of_fields s x i y j z k / 2 ^ (k + j + i) < 2 = rw above_x hs in
      rw e
      (omega (arith, pow_next (k + j + i), (div-lt_iff_lt-mul {k = 2 ^ (k + j + i)} {x = word_of_fields s x i y j z k} {y = 2} (pow_pos (k + j + i))).0 g))

pub bit_back : (b : Bool) (from w : ℕ) → bits from 1 w ≡ bit_of b → bit from w ≡ b
unfolding bit bit_of
bit_back true from w e = rw e refl
bit_back false from w e = rw e refl
