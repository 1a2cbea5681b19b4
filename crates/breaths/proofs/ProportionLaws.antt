-- A ratio from 0 to 1, rounded from its second convergent on. Assumes nothing.
-- `proper_start`, `proper_next`: the states of Euclid's algorithm behind 0/1. `packed_start`, `packed_next`: the same with both parts of a
-- convergent in one number. `zero_word`, `packed_marked`, `packed_exact`: the ways out of the loop.
use Rattle.std.proofs.Common.{◌≡◌, ℕ, ◌+◌, ◌*◌, ◌/◌, ◌%◌, ◌^◌, ◌<◌, ◌≤◌, Bool, true, false, leb, refl, ap, ◌∙◌, inl, inr, mul-le-mul_right, mod-lt, mul-le-mul_left, div-add-mod', le-div_iff_mul-le, div-le_self, arith, le-leb}
use mathlib.Core.Bool.{and-false}
use borrow.Author.Tests.{lt-leb}
use Rattle.convergents.specs.Pairs.{pair}
use Rattle.convergents.proofs.ConvergentLaws.{up, up_den}
use Rattle.convergents.proofs.Optimal.{held_is, zero_held}
use Rattle.convergents.proofs.RoundingLaws.{Going, Rounds, going_next, going_end, going_stop}
use Rattle.slash.specs.Bits.{bit_of, word_of_fields}
use Rattle.slash.specs.Formats.{known, k_fits, holds}
use Rattle.slash.specs.Writing.{fixed_word, pair_word, word_for}
use Rattle.slash.specs.declared.rounding.Rounded.{Rounded}
use Rattle.slash.proofs.FormatLaws.{format_limit}
use Rattle.slash.proofs.RoundingLaws.{rounds_is}
use Rattle.breaths.specs.Ratios.{ratio_format, ratio_word}

pub known_format : known ratio_format ≡ true
unfolding known k_fits
known_format = refl

-- which pairs the word holds, where the numerator isn't above the denominator
holds_small : (r s : ℕ) → r ≤ s → s ≤ 32767 → holds ratio_format r s ≡ true
unfolding holds
holds_small r s l h =
    let g : r ≤ 32767 = omega arith in
    rw (le-leb r 32767 g, le-leb s 32767 h) refl

holds_not : (r s : ℕ) → 32767 < s → holds ratio_format r s ≡ false
unfolding holds
holds_not r s h = rw (lt-leb s 32767 h, and-false (leb r 32767)) refl

-- the loop's invariant: no numerator is above its denominator, and the word holds the pair
pub record Proper (N D p₀ q₀ p q u v : ℕ) : Type 0 where
  pub going : Going (holds ratio_format) N D p₀ q₀ p q u v
  pub before : p₀ ≤ q₀
  pub before_small : q₀ ≤ 32767
  pub some : 1 ≤ q
  pub here : p ≤ q
  pub small : q ≤ 32767

module _ (N D : ℕ) (pos : 1 ≤ N) (l : N ≤ D) where
  some_denominator : 1 ≤ D
  some_denominator = omega arith

  -- the word of what a loop comes to
  rounds_word : (p q : ℕ) (a : Bool) → Rounds (holds ratio_format) N D (pair p q) a → p * 65536 + bit_of a * 32768 + q ≡ ratio_word N D
  unfolding ratio_word word_for pair_word fixed_word word_of_fields bit_of
  rounds_word p q a w =
      let e : p * 65536 + bit_of a * 32768 + q ≡ ((0 * 2 ^ 15 + p) * 2 ^ 1 + bit_of a) * 2 ^ 15 + q = omega arith in
      e ∙ ap (λ (x : Rounded). ((0 * 2 ^ 15 + x.numerator) * 2 ^ 1 + bit_of x.approximate) * 2 ^ 15 + x.denominator) (rounds_is ratio_format N D p q a w).0

  -- ---- behind 1/0 comes 0/1

  quotient_some : 1 ≤ D / N
  quotient_some = (le-div_iff_mul-le pos).1 (omega arith)

  zero_going : N < D → Going (holds ratio_format) N D 1 0 0 1 D N
  zero_going h = record {
    inv = record { numer = omega arith; denom = omega arith; det = inr refl; phase = inr (omega arith, h) };
    here = zero_held (holds ratio_format) (format_limit ratio_format known_format);
  }

  pub zero_word : 32767 < D / N → 32769 ≡ ratio_word N D
  unfolding bit_of
  zero_word h =
      let m : 32768 * N ≤ D / N * N = mul-le-mul_right N h in
      let less : N < D = omega (arith, m, div-add-mod' D N) in
      let g : 32767 < D / N * 1 + 0 = omega (arith, h) in
      rounds_word 0 1 true (going_stop (zero_going less) (format_limit ratio_format known_format) some_denominator pos (holds_not _ _ g))

  -- ---- and then 1 over the first quotient

  proper_start : D / N ≤ 32767 → Proper N D 0 1 1 (D / N) N (D % N)
  proper_start h = record {
    going = record {
      inv = record { numer = omega arith; denom = omega (arith, div-add-mod' D N); det = inl (omega arith); phase = inr (quotient_some, mod-lt D pos) };
      here = held_is (holds ratio_format) 1 (D / N) quotient_some ∙ holds_small 1 (D / N) quotient_some h;
    };
    before = omega arith;
    before_small = omega arith;
    some = quotient_some;
    here = quotient_some;
    small = h;
  }

  module _ {p₀ q₀ p q u v : ℕ} (g : Proper N D p₀ q₀ p q u v) where
    proper_next : 1 ≤ v → up q₀ q u v ≤ 32767 → Proper N D p q (up p₀ p u v) (up q₀ q u v) v (u % v)
    proper_next s h =
        let m : u / v * p ≤ u / v * q = mul-le-mul_left (u / v) g.here in
        let k : up p₀ p u v ≤ up q₀ q u v = omega (arith, m, g.before) in
        record { going = going_next g.going s (holds_small _ _ k h); before = g.here; before_small = g.small; some = up_den g.going.inv s; here = k; small = h }

    marked_word : 1 ≤ v → 32767 < up q₀ q u v → p * 65536 + 32768 + q ≡ ratio_word N D
    unfolding bit_of
    marked_word s h = rounds_word p q true (going_stop g.going (format_limit ratio_format known_format) some_denominator s (holds_not _ _ h))

    exact_word : v ≡ 0 → p * 65536 + q ≡ ratio_word N D
    unfolding bit_of
    exact_word z =
        let e : p * 65536 + q ≡ p * 65536 + 0 * 32768 + q = omega arith in
        e ∙ rounds_word p q false (going_end g.going (format_limit ratio_format known_format) some_denominator z)

-- ---- both parts of a convergent in one number

abbrev packed : ℕ → ℕ → ℕ
packed p q = q * 65536 + p

-- the loop's invariant: the pairs p₀/q₀ and p/q, each in one number, and numbers of 32 bits
pub record Packed (N D before last u v : ℕ) : Type 0 where
  pub p₀ : ℕ
  pub q₀ : ℕ
  pub p : ℕ
  pub q : ℕ
  pub proper : Proper N D p₀ q₀ p q u v
  pub before_is : before ≡ packed p₀ q₀
  pub last_is : last ≡ packed p q
  pub short : u < 2 ^ 32
  pub shorter : v < 2 ^ 32

module _ {N D before last u v : ℕ} (g : Packed N D before last u v) where
  pub packed_small : last < 2147483648
  packed_small = omega (arith, g.last_is, g.proper.here, g.proper.small)

  pub quotient_short : u / v < 2 ^ 32
  quotient_short = omega (arith, div-le_self u v, g.short)

  -- the next pair in one number, and that it fits
  next_is : u / v * last + before ≡ packed (up g.p₀ g.p u v) (up g.q₀ g.q u v)
  next_is =
      let e : u / v * last ≡ u / v * (g.q * 65536 + g.p) = ap (λ (x : ℕ). u / v * x) g.last_is in
      omega (arith, e, g.before_is)

  pub next_fits : (u / v * last < 2 ^ 64) × (u / v * last + before < 2 ^ 64)
  next_fits =
      let s : last ≤ 2147483647 = omega (arith, packed_small) in
      let m : u / v * last ≤ u / v * 2147483647 = mul-le-mul_left (u / v) s in
      let k : before ≤ 4294967295 = omega (arith, g.before_is, g.proper.before, g.proper.before_small) in
      (omega (arith, m, quotient_short), omega (arith, m, quotient_short, k))

  -- its denominator isn't the smaller one
  next_proper : up g.p₀ g.p u v ≤ up g.q₀ g.q u v
  next_proper =
      let m : u / v * g.p ≤ u / v * g.q = mul-le-mul_left (u / v) g.proper.here in
      omega (arith, m, g.proper.before)

module _ (N D : ℕ) (pos : 1 ≤ N) (l : N ≤ D) where
  pub packed_start : N < 2 ^ 32 → D / N ≤ 32767 → Packed N D 65536 (D / N * 65536 + 1) N (D % N)
  packed_start h s = record {
    p₀ = 0;
    q₀ = 1;
    p = 1;
    q = D / N;
    proper = proper_start N D pos l s;
    before_is = refl;
    last_is = refl;
    short = h;
    shorter = omega (arith, mod-lt D pos, h);
  }

  module _ {before last u v : ℕ} (g : Packed N D before last u v) (s : 1 ≤ v) where
    pub packed_next : u / v * last + before < 2147483648 → Packed N D last (u / v * last + before) v (u % v)
    packed_next h =
        let k : up g.q₀ g.q u v ≤ 32767 = omega (arith, next_is g, h) in
        record {
          p₀ = g.p;
          q₀ = g.q;
          p = up g.p₀ g.p u v;
          q = up g.q₀ g.q u v;
          proper = proper_next N D pos l g.proper s k;
          before_is = g.last_is;
          last_is = next_is g;
          short = g.shorter;
          shorter = omega (arith, mod-lt u s, g.shorter);
        }

    pub packed_marked : 2147483648 ≤ u / v * last + before → (w : ℕ) → w ≡ last % 65536 * 65536 + last / 65536 → w + 32768 ≡ ratio_word N D
    packed_marked h w e =
        let k : 32767 < up g.q₀ g.q u v = omega (arith, next_is g, next_proper g, h) in
        let x : w + 32768 ≡ g.p * 65536 + 32768 + g.q = omega (arith, e, g.last_is, g.proper.here, g.proper.small) in
        x ∙ marked_word N D pos l g.proper s k

  pub packed_exact : {before last u v : ℕ} → Packed N D before last u v → v ≡ 0 → (w : ℕ) → w ≡ last % 65536 * 65536 + last / 65536 → w ≡ ratio_word N D
  packed_exact g z w e =
      let x : w ≡ g.p * 65536 + g.q = omega (arith, e, g.last_is, g.proper.here, g.proper.small) in
      x ∙ exact_word N D pos l g.proper z
