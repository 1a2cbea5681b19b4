-- The bits of a number turned round. Assumes nothing.
-- `turned_bit`: bit i is the bit that stood as far from the other end. `turned_twice`: turned again they are as they were. `turned_split`: of two
-- runs of bits each is turned, and they change places. `reversed_bits`: std's `reverse_bits` turns so.
use mathlib.Core.Path.{◌≡◌, refl, sym, ap, ap₂, ◌∙◌}
use Prim.Native.Nat.{ℕ, zero, suc, ◌+◌, ◌*◌, ◌/◌, ◌%◌, ◌^◌, ◌<◌}
use native.Mathlib.Omega.{arith}
use native.Mathlib.Numerals.{add-one}
use native.Mathlib.Nat.{zero-add, suc-add, div-one, mod-lt, pow-suc}
use lib.Arith.{digits_lt, digits_div, digits_mod}
use lib.Pow.{pow-add, split, high, shr-shr, mod-pow-add}
use lib.Bits.{block_half, block_odd}
use Rattle.std.specs.Int.{reverse_bits_onto}
use Rattle.twisting.specs.Twisting.{turned}

-- ---- what turning does

pub turned_lt : (n d : ℕ) → turned n d < 2 ^ n
unfolding turned
turned_lt zero d = omega arith
turned_lt (suc n) d =
    let t : turned n (d / 2) < 2 ^ n = turned_lt n (d / 2) in
    let b : d % 2 < 2 = mod-lt d (omega arith) in
    let all : d % 2 * 2 ^ n + turned n (d / 2) < 2 * 2 ^ n = digits_lt b t in
    omega (arith, pow-suc 2 n)

pub turned_zero : (n : ℕ) → turned n 0 ≡ 0
unfolding turned
turned_zero zero = refl
turned_zero (suc n) = omega (arith, turned_zero n)

-- only the lowest bits are turned
pub turned_low : (n q r : ℕ) → turned n (q * 2 ^ n + r) ≡ turned n r
unfolding turned
turned_low zero q r = refl
turned_low (suc n) q r = ap₂ (λ (x y : ℕ). x * 2 ^ n + y) (block_odd q n r) (ap (turned n) (block_half q n r) ∙ turned_low n q (r / 2))

pub turned_mod : (n d : ℕ) → turned n (d % 2 ^ n) ≡ turned n d
turned_mod n d = sym (turned_low n (d / 2 ^ n) (d % 2 ^ n)) ∙ ap (turned n) (split d n)

half_of : (d a : ℕ) → d / 2 / 2 ^ a ≡ d / 2 ^ suc a
half_of d a = shr-shr d 1 a ∙ ap (λ (j : ℕ). d / 2 ^ j) (omega arith)

pub turned_split : (a b d : ℕ) → turned (a + b) d ≡ turned a d * 2 ^ b + turned b (d / 2 ^ a)
unfolding turned
turned_split zero b d =
    let e : turned (0 + b) d ≡ turned b (d / 2 ^ 0) = ap (λ (j : ℕ). turned j d) (zero-add b) ∙ ap (turned b) (sym (div-one d)) in
    omega (arith, e)
turned_split (suc a) b d =
    let start : turned (suc a + b) d ≡ d % 2 * 2 ^ (a + b) + turned (a + b) (d / 2) = ap (λ (j : ℕ). turned j d) (suc-add a b) in
    let ih : turned (a + b) (d / 2) ≡ turned a (d / 2) * 2 ^ b + turned b (d / 2 ^ suc a) = turned_split a b (d / 2) ∙ ap (λ (x : ℕ). turned a (d / 2) * 2 ^ b + turned b x) (half_of d a) in
    let p : d % 2 * 2 ^ (a + b) ≡ d % 2 * (2 ^ a * 2 ^ b) = ap (λ (x : ℕ). d % 2 * x) (pow-add 2 a b) in
    omega (arith, start, ih, p)

first_bit : (n d : ℕ) → turned (n + 1) d ≡ d % 2 * 2 ^ n + turned n (d / 2)
unfolding turned
first_bit n d = ap (λ (j : ℕ). turned j d) (add-one n)

-- from the other end
last_bit : (n d : ℕ) → turned (suc n) d ≡ turned n d * 2 + d / 2 ^ n % 2
unfolding turned
last_bit n d =
    let s : turned (n + 1) d ≡ turned n d * 2 + turned 1 (d / 2 ^ n) = turned_split n 1 d in
    let o : turned 1 (d / 2 ^ n) ≡ d / 2 ^ n % 2 = omega arith in
    ap (λ (j : ℕ). turned j d) (sym (add-one n)) ∙ s ∙ ap (λ (x : ℕ). turned n d * 2 + x) o

pub turned_twice : (n d : ℕ) → turned n (turned n d) ≡ d % 2 ^ n
unfolding turned
turned_twice zero d = omega arith
turned_twice (suc n) d =
    let b : d / 2 ^ n % 2 < 2 = mod-lt (d / 2 ^ n) (omega arith) in
    let odd : turned (suc n) d % 2 ≡ d / 2 ^ n % 2 = ap (λ (x : ℕ). x % 2) (last_bit n d) ∙ digits_mod (turned n d) b in
    let half : turned (suc n) d / 2 ≡ turned n d = ap (λ (x : ℕ). x / 2) (last_bit n d) ∙ digits_div (turned n d) b in
    let all : turned (suc n) (turned (suc n) d) ≡ d / 2 ^ n % 2 * 2 ^ n + turned n (turned n d) = ap₂ (λ (x y : ℕ). x * 2 ^ n + turned n y) odd half in
    let m : d % 2 ^ suc n ≡ d / 2 ^ n % 2 * 2 ^ n + d % 2 ^ n = ap (λ (j : ℕ). d % 2 ^ j) (omega arith) ∙ mod-pow-add d 1 n in
    all ∙ ap (λ (x : ℕ). d / 2 ^ n % 2 * 2 ^ n + x) (turned_twice n d) ∙ sym m

-- bit i, of n, is bit n - 1 - i
pub turned_bit : (n i j d : ℕ) → i + j + 1 ≡ n → turned n d / 2 ^ i % 2 ≡ d / 2 ^ j % 2
turned_bit n i j d e =
    let t : turned n d ≡ turned j d * 2 ^ (i + 1) + turned (i + 1) (d / 2 ^ j) = ap (λ (m : ℕ). turned m d) (omega arith) ∙ turned_split j (i + 1) d in
    let u : turned (i + 1) (d / 2 ^ j) ≡ d / 2 ^ j % 2 * 2 ^ i + turned i (d / 2 ^ j / 2) = first_bit i (d / 2 ^ j) in
    let p : turned j d * 2 ^ (i + 1) ≡ turned j d * (2 ^ i * 2) = ap (λ (x : ℕ). turned j d * x) (pow-add 2 i 1) in
    let all : turned n d ≡ (turned j d * 2 + d / 2 ^ j % 2) * 2 ^ i + turned i (d / 2 ^ j / 2) = omega (arith, t, u, p) in
    let b : d / 2 ^ j % 2 < 2 = mod-lt (d / 2 ^ j) (omega arith) in
    ap (λ (x : ℕ). x / 2 ^ i % 2) all ∙ ap (λ (x : ℕ). x % 2) (high (turned j d * 2 + d / 2 ^ j % 2) i (turned_lt i (d / 2 ^ j / 2))) ∙ digits_mod (turned j d) b

-- ---- std's turning

reversed : (n d a : ℕ) → reverse_bits_onto n d a ≡ a * 2 ^ n + turned n d
unfolding turned reverse_bits_onto
reversed zero d a = omega arith
reversed (suc n) d a =
    let ih : reverse_bits_onto n (d / 2) (a * 2 + d % 2) ≡ (a * 2 + d % 2) * 2 ^ n + turned n (d / 2) = reversed n (d / 2) (a * 2 + d % 2) in
    let p : a * 2 ^ suc n ≡ a * (2 ^ n * 2) = ap (λ (x : ℕ). a * x) (pow-suc 2 n) in
    omega (arith, ih, p)

pub reversed_bits : (n d : ℕ) → reverse_bits_onto n d 0 ≡ turned n d
reversed_bits n d = omega (arith, reversed n d 0)
