-- A word from its fields, one law for each way through the code: the fields of a fixed word, of a floating fraction, and of infinity make the
-- word that writing defines; the field and the slash position of a held pair fit their bits (`Parted`). Assumes nothing.
use mathlib.Core.Path.{◌≡◌, refl, ap, ◌∙◌}
use Prim.Native.Nat.{ℕ, ◌+◌, ◌-◌, ◌*◌, ◌^◌, ◌≤◌, ◌<◌}
use native.Mathlib.Omega.{arith}
use lib.Arith.{digits_lt}
use lib.Pow.{pow_pos, pow_mono, pow-add}
use borrow.Author.Tests.{eq-eqb, ne_eqb}
use Rattle.slash.specs.Bits.{bit_count, word_of_fields}
use Rattle.slash.specs.Formats.{slash_bits}
use Rattle.slash.specs.Writing.{fixed_word, floating_word, floating_pair}
use Rattle.slash.proofs.BitLaws.{bit_count_lt, bit_count_pos, bit_count_top, bit_count_rest}
use Rattle.slash.proofs.FormatLaws.{slash_bits_enough}

-- ---- fixed

pub fixed_word_lem : (k s t n a b d r : ℕ) → t ≡ s → b ≡ a → r ≡ word_of_fields t n k b 1 d k → r ≡ fixed_word k s n a d
unfolding fixed_word
fixed_word_lem k s t n a b d r te be e = e ∙ rw (te, be) refl

-- ---- floating

-- the special slash position fits
pub special_lt : (k r : ℕ) → r ≡ 2 ^ slash_bits k - 1 → r < 2 ^ slash_bits k
special_lt k r e = omega (arith, pow_pos (slash_bits k))

pub floating_fields_lem : (k s a e f l r : ℕ) → l ≡ slash_bits k → r ≡ word_of_fields s a 1 e l f (k - 1) → r ≡ floating_word k s a e f
unfolding floating_word
floating_fields_lem k s a e f l r le re = re ∙ rw le refl

module _ (k s a n d : ℕ) where
  pub pair_infinity : d ≡ 0 → (t b e r : ℕ) → t ≡ s → b ≡ a → e ≡ 2 ^ slash_bits k - 1 → r ≡ floating_word k t b e 0 → r ≡ floating_pair k s a n d
  unfolding floating_pair
  pair_infinity z t b e r te be ee re = rw (eq-eqb _ _ z, re, te, be, ee) refl

  pub pair_fraction : (d ≡ 0 → ⊥) → (t b c p r : ℕ) → t ≡ s → b ≡ a → c ≡ bit_count d → p ≡ 2 ^ (c - 1)
      → r ≡ floating_word k t b (c - 1) (n * p + (d - p)) → r ≡ floating_pair k s a n d
  unfolding floating_pair
  pair_fraction z t b c p r te be ce pe re = rw (ne_eqb _ _ z, re, te, be, pe, ce) refl

-- the field of n/d fits k - 1 bits, and the slash position L bits
module _ (k n d : ℕ) (pos : 1 ≤ d) (h : bit_count n + bit_count d ≤ k) where
  pub pair_field : n * 2 ^ (bit_count d - 1) + (d - 2 ^ (bit_count d - 1)) < 2 ^ (k - 1)
  pair_field =
      let e : ℕ = bit_count d - 1 in
      let all : n * 2 ^ e + (d - 2 ^ e) < 2 ^ bit_count n * 2 ^ e = digits_lt (bit_count_lt n) (bit_count_rest d pos) in
      let g : bit_count n + e ≤ k - 1 = omega (arith, bit_count_pos d) in
      omega (arith, pow-add 2 (bit_count n) e, pow_mono g)

  pub pair_slash : bit_count d - 1 < 2 ^ slash_bits k
  pair_slash = omega (arith, bit_count_pos n, bit_count_pos d, slash_bits_enough k)

-- the same, of what the code has: the bit count c of d, and the power p of the slash position
pub record Parted (k n d c p : ℕ) : Type 0 where
  pub low : 1 ≤ c
  pub high : c ≤ 32
  pub leading : p ≤ d
  pub position : c - 1 < 2 ^ slash_bits k
  pub fits : n * p + (d - p) < 2 ^ (k - 1)
  pub small : n * p + (d - p) < 2 ^ 32

pub parted : (k n d c p : ℕ) → k ≤ 32 → 1 ≤ d → bit_count n + bit_count d ≤ k → c ≡ bit_count d → p ≡ 2 ^ (c - 1) → Parted k n d c p
parted k n d c p hk pos h ce pe =
    let e : p ≡ 2 ^ (bit_count d - 1) = pe ∙ ap (λ (j : ℕ). 2 ^ (j - 1)) ce in
    let f : n * p + (d - p) < 2 ^ (k - 1) = rw e (pair_field k n d pos h) in
    let i : k - 1 ≤ 32 = omega arith in
    record {
      low = omega (arith, bit_count_pos d);
      high = omega (arith, bit_count_pos n);
      leading = rw e (bit_count_top d pos);
      position = rw ce (pair_slash k n d pos h);
      fits = f;
      small = omega (arith, pow_mono i);
    }
