-- The bits of a number turned by halves, which says the definition in another way. Assumes nothing.
-- `halved`: where neighbouring runs change places, turning the runs of half the length turns those of the whole. `by_halves`: so halves swapped,
-- then their halves, down to single bits, turn all 32.
use mathlib.Core.Path.{◌≡◌, refl, sym, ap, ◌∙◌}
use Prim.Native.Nat.{ℕ, zero, suc, ◌+◌, ◌*◌, ◌/◌, ◌%◌, ◌^◌, ◌<◌}
use native.Mathlib.Omega.{arith}
use native.Mathlib.Numerals.{add-one}
use native.Mathlib.Nat.{mod-lt, mod-eq_of_lt}
use lib.Arith.{digits_lt}
use lib.Pow.{pow_pos, pow-add, high, mod-pow-add}
use Rattle.twisting.specs.Twisting.{turned}
use Rattle.twisting.specs.Steps.{swapped, runs_turned}
use Rattle.twisting.proofs.TurningLaws.{turned_low, turned_mod, turned_split}

none_lt : (n : ℕ) → 0 < 2 ^ ((n + n) * 0)
none_lt n = pow_pos ((n + n) * 0)

two_more : (n : ℕ) → suc n + suc n ≡ suc (suc (n + n))
two_more n = omega arith

-- two runs, the upper one in place of the lower
module _ (n x : ℕ) where
  pair_lt : x % 2 ^ n * 2 ^ n + x / 2 ^ n % 2 ^ n < 2 ^ (n + n)
  pair_lt =
      let all : x % 2 ^ n * 2 ^ n + x / 2 ^ n % 2 ^ n < 2 ^ n * 2 ^ n = digits_lt (mod-lt x (pow_pos n)) (mod-lt (x / 2 ^ n) (pow_pos n)) in
      omega (arith, pow-add 2 n n)

swapped_lt : (n pairs x : ℕ) → swapped n pairs x < 2 ^ ((n + n) * pairs)
unfolding swapped
swapped_lt n zero x = none_lt n
swapped_lt n (suc pairs) x =
    let all : swapped n pairs (x / 2 ^ (n + n)) * 2 ^ (n + n) + (x % 2 ^ n * 2 ^ n + x / 2 ^ n % 2 ^ n) < 2 ^ ((n + n) * pairs) * 2 ^ (n + n) =
    digits_lt (swapped_lt n pairs (x / 2 ^ (n + n))) (pair_lt n x) in
    let p : 2 ^ ((n + n) * suc pairs) ≡ 2 ^ ((n + n) * pairs) * 2 ^ (n + n) = ap (λ (j : ℕ). 2 ^ j) (omega arith) ∙ pow-add 2 ((n + n) * pairs) (n + n) in
    omega (arith, p)

-- runs of twice the length turned are the runs turned of what has them swapped
pub halved : (n pairs x : ℕ) → runs_turned (n + n) pairs x ≡ runs_turned n (pairs + pairs) (swapped n pairs x)
unfolding runs_turned swapped
halved n zero x = refl
halved n (suc pairs) x =
    let s : ℕ = swapped n pairs (x / 2 ^ (n + n)) in
    let y : ℕ = s * 2 ^ (n + n) + (x % 2 ^ n * 2 ^ n + x / 2 ^ n % 2 ^ n) in
    let lo : x % 2 ^ n < 2 ^ n = mod-lt x (pow_pos n) in
    let hi : x / 2 ^ n % 2 ^ n < 2 ^ n = mod-lt (x / 2 ^ n) (pow_pos n) in
    let p : s * 2 ^ (n + n) ≡ s * (2 ^ n * 2 ^ n) = ap (λ (z : ℕ). s * z) (pow-add 2 n n) in
    let ye : y ≡ (s * 2 ^ n + x % 2 ^ n) * 2 ^ n + x / 2 ^ n % 2 ^ n = omega (arith, p) in
    let up : y / 2 ^ n ≡ s * 2 ^ n + x % 2 ^ n = ap (λ (z : ℕ). z / 2 ^ n) ye ∙ high (s * 2 ^ n + x % 2 ^ n) n hi in
    let top : y / 2 ^ n / 2 ^ n ≡ s = ap (λ (z : ℕ). z / 2 ^ n) up ∙ high s n lo in
    let first : turned n y ≡ turned n (x / 2 ^ n) = ap (turned n) ye ∙ turned_low n (s * 2 ^ n + x % 2 ^ n) (x / 2 ^ n % 2 ^ n) ∙ turned_mod n (x / 2 ^ n) in
    let second : turned n (y / 2 ^ n) ≡ turned n x = ap (turned n) up ∙ turned_low n s (x % 2 ^ n) ∙ turned_mod n x in
    let ih : runs_turned (n + n) pairs (x / 2 ^ (n + n)) ≡ runs_turned n (pairs + pairs) s = halved n pairs (x / 2 ^ (n + n)) in
    let rest : runs_turned n (pairs + pairs) (y / 2 ^ n / 2 ^ n) ≡ runs_turned (n + n) pairs (x / 2 ^ (n + n)) = ap (runs_turned n (pairs + pairs)) top ∙ sym ih in
    let count : runs_turned n (suc pairs + suc pairs) y ≡ (runs_turned n (pairs + pairs) (y / 2 ^ n / 2 ^ n) * 2 ^ n + turned n (y / 2 ^ n)) * 2 ^ n + turned n y =
    ap (λ (j : ℕ). runs_turned n j y) (two_more pairs) in
    let all : runs_turned n (suc pairs + suc pairs) y ≡ (runs_turned (n + n) pairs (x / 2 ^ (n + n)) * 2 ^ n + turned n x) * 2 ^ n + turned n (x / 2 ^ n) =
    count ∙ rw (rest, second, first) refl in
    let t : turned (n + n) x ≡ turned n x * 2 ^ n + turned n (x / 2 ^ n) = turned_split n n x in
    let q : runs_turned (n + n) pairs (x / 2 ^ (n + n)) * 2 ^ (n + n) ≡ runs_turned (n + n) pairs (x / 2 ^ (n + n)) * (2 ^ n * 2 ^ n) = ap (λ (z : ℕ). runs_turned (n + n) pairs (x / 2 ^ (n + n)) * z) (pow-add 2 n n) in
    omega (arith, all, t, q)

one_run : (n x : ℕ) → runs_turned n 1 x ≡ turned n x
unfolding runs_turned
one_run n x = omega arith

-- runs of one bit are as they were
single_bits : (count x : ℕ) → runs_turned 1 count x ≡ x % 2 ^ count
unfolding runs_turned turned
single_bits zero x = omega arith
single_bits (suc count) x =
    let ih : runs_turned 1 count (x / 2) ≡ x / 2 % 2 ^ count = single_bits count (x / 2) in
    let m : x % 2 ^ (count + 1) ≡ x / 2 % 2 ^ count * 2 + x % 2 = mod-pow-add x count 1 in
    let j : x % 2 ^ suc count ≡ x % 2 ^ (count + 1) = ap (λ (i : ℕ). x % 2 ^ i) (sym (add-one count)) in
    omega (arith, ih, m, j)

pub by_halves : (x a b c d r : ℕ) → a ≡ swapped 16 1 x → b ≡ swapped 8 2 a → c ≡ swapped 4 4 b → d ≡ swapped 2 8 c → r ≡ swapped 1 16 d → r ≡ turned 32 x
by_halves x a b c d r ae be ce de re =
    let small : r < 2 ^ 32 = rw re (swapped_lt 1 16 d) in
    sym (mod-eq_of_lt small)
    ∙ sym (single_bits 32 r)
    ∙ ap (runs_turned 1 32) re
    ∙ sym (halved 1 16 d) ∙ ap (runs_turned 2 16) de
    ∙ sym (halved 2 8 c) ∙ ap (runs_turned 4 8) ce
    ∙ sym (halved 4 4 b) ∙ ap (runs_turned 8 4) be
    ∙ sym (halved 8 2 a) ∙ ap (runs_turned 16 2) ae
    ∙ sym (halved 16 1 x) ∙ one_run 32 x
