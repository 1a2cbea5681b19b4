-- Formats. Assumes nothing.
-- `format_limit`: every known format is a limit: it holds 1/1, and with a pair every pair with no larger numerator and no larger nonzero
-- denominator. `largest_held`, `largest_most`: its largest part is held on each side, and no held pair has a larger one.
-- `width_range`: a word has from 1 to 64 bits. `known_k`, `fixed_k`: the bounds of k.
use mathlib.Core.Path.{◌≡◌, refl, sym, ap, ap₂, ◌∙◌}
use mathlib.Core.Bool.{Bool, true, false, ◌&&◌, ◌||◌}
use Prim.Native.Nat.{ℕ, zero, suc, ◌+◌, ◌-◌, ◌*◌, ◌^◌, ◌≤◌, ◌<◌}
use native.Mathlib.Omega.{arith}
use native.Mathlib.Decide.{ℕ_discrete}
use lib.Bits.{bit_or}
use lib.Dec.{leb}
use lib.Pow.{pow_pos, pow_mono}
use borrow.Author.Tests.{leb-true, eqb-true, le-leb, eq-eqb, ne_eqb}
use Rattle.convergents.specs.Pairs.{pair}
use Rattle.convergents.specs.Rounding.{Limit, held}
use Rattle.convergents.proofs.Optimal.{held_is}
use Rattle.std.specs.Prelude.{Ok, Err}
use Rattle.slash.specs.declared.answer.Stop.{Stop}
use Rattle.slash.specs.Answers.{Outcome, stop, done}
use Rattle.slash.specs.Bits.{bit_count}
use Rattle.slash.specs.Formats.{is_fixed, is_floating, k_fits, known, check_format, of_known, format_of, make_format, slash_bits, width_of, holds, largest_part}
use Rattle.slash.specs.declared.format.Format.{Format}
use Rattle.slash.proofs.AnswerLaws.{no_stop, then_stop, and_parts}
use Rattle.slash.proofs.BitLaws.{or_most, least_power_lem, least_count, bit_count_lt, bit_count_le, bit_count_pos, bit_count_mono}

-- ---- the check of a format

module _ (f : Format) where
  pub format_good : known f ≡ true → check_format f ≡ done tt
  unfolding check_format
  format_good h = rw h refl

  pub format_refused : known f ≡ false → stop 1 0 ≡ check_format f
  unfolding check_format
  format_refused h = rw h refl

  -- what it leaves is known
  pub good_known : done tt ≡ check_format f → known f ≡ true
  good_known e = go (known f) refl
    where
      go : (b : Bool) → known f ≡ b → known f ≡ true
      go true h = h
      go false h = absurd (no_stop (format_refused h ∙ sym e))

  pub check_known : {a : Outcome (Unit {0})} → a ≡ check_format f → a ≡ Ok tt → known f ≡ true
  check_known h e = good_known (sym e ∙ h)

-- and what it stops is stopped so
module _ {A : Type 0} (f : Format) (x : A) where
  pub of_known_lem : known f ≡ true → done x ≡ of_known f x
  unfolding of_known
  of_known_lem h = rw (format_good f h) refl

  pub of_refused : {s : Stop} → Err s ≡ check_format f → Err s ≡ of_known f x
  unfolding of_known
  of_refused e = then_stop (λ _. done x) e

module _ (kind k : ℕ) where
  pub make_known : known (format_of kind k) ≡ true → done (format_of kind k) ≡ make_format kind k
  unfolding make_format
  make_known h = of_known_lem _ _ h

  pub make_refused : {s : Stop} → Err s ≡ check_format (format_of kind k) → Err s ≡ make_format kind k
  unfolding make_format
  make_refused e = of_refused _ _ e

-- ---- what a known format says of its k

-- the answers of `k_fits` and `is_known`
module _ (f : Format) where
  pub fits_fixed : f.kind ≡ 1 → (leb 2 f.k && leb f.k 31) ≡ k_fits f
  unfolding k_fits
  fits_fixed e = rw (eq-eqb _ _ e) refl

  pub fits_floating : (f.kind ≡ 1 → ⊥) → (leb 2 f.k && leb f.k 32) ≡ k_fits f
  unfolding k_fits
  fits_floating n = rw (ne_eqb _ _ n) refl

  pub known_is : (b : Bool) → b ≡ k_fits f → ((is_fixed f || is_floating f) && b) ≡ known f
  unfolding known
  known_is b e = rw e refl

  pub known_fits : known f ≡ true → k_fits f ≡ true
  unfolding known
  known_fits h = (and_parts (is_fixed f || is_floating f) (k_fits f) h).1

-- a k that fits
module _ (f : Format) (h : k_fits f ≡ true) where
  pub fixed_fit : f.kind ≡ 1 → f.k ≤ 31
  fixed_fit e = leb-true _ _ (and_parts (leb 2 f.k) (leb f.k 31) (fits_fixed f e ∙ h)).1

  pub fit_k : (2 ≤ f.k) × (f.k ≤ 32)
  fit_k = go (ℕ_discrete f.kind 1)
    where
      go : Dec (f.kind ≡ 1) → (2 ≤ f.k) × (f.k ≤ 32)
      go (yes e) =
          let low = leb-true _ _ (and_parts (leb 2 f.k) (leb f.k 31) (fits_fixed f e ∙ h)).0 in
          (low, omega (arith, fixed_fit e))
      go (no n) =
          let both = and_parts (leb 2 f.k) (leb f.k 32) (fits_floating f n ∙ h) in
          (leb-true _ _ both.0, leb-true _ _ both.1)

module _ (f : Format) (h : known f ≡ true) where
  pub known_k : (2 ≤ f.k) × (f.k ≤ 32)
  known_k = fit_k f (known_fits f h)

  pub fixed_k : f.kind ≡ 1 → f.k ≤ 31
  fixed_k = fixed_fit f (known_fits f h)

-- ---- widths and parts

pub slash_bits_is : (k b : ℕ) → 2 ≤ k → b ≡ bit_count (k - 1) → b ≡ slash_bits k
unfolding slash_bits
slash_bits_is k b h e = e ∙ least_count k h

-- k ≤ 2^L, and for k from 2 to 32 L is from 1 to 5
pub slash_bits_enough : (k : ℕ) → k ≤ 2 ^ slash_bits k
unfolding slash_bits
slash_bits_enough k = (least_power_lem k).enough

pub slash_bits_le : (k : ℕ) → k ≤ 32 → slash_bits k ≤ 5
unfolding slash_bits
slash_bits_le k h = (least_power_lem k).least 5 h

pub slash_bits_pos : (k : ℕ) → 2 ≤ k → 1 ≤ slash_bits k
slash_bits_pos k h = go (slash_bits k) refl
  where
    go : (b : ℕ) → slash_bits k ≡ b → 1 ≤ slash_bits k
    go zero e = let l : k ≤ 2 ^ 0 = rw e at (slash_bits_enough k) in absurd (omega arith)
    go (suc b) e = omega arith

module _ (f : Format) where
  pub width_fixed : f.kind ≡ 1 → 2 * f.k + 2 ≡ width_of f
  unfolding width_of
  width_fixed e = rw (eq-eqb _ _ e) refl

  pub width_floating : (f.kind ≡ 1 → ⊥) → (b : ℕ) → b ≡ slash_bits f.k → f.k + b + 1 ≡ width_of f
  unfolding width_of
  width_floating n b e = rw (ne_eqb _ _ n, e) refl

  pub largest_fixed : f.kind ≡ 1 → (p : ℕ) → p ≡ 2 ^ f.k → p - 1 ≡ largest_part f
  unfolding largest_part
  largest_fixed e p h = rw (eq-eqb _ _ e, h) refl

  pub largest_floating : (f.kind ≡ 1 → ⊥) → (p : ℕ) → p ≡ 2 ^ (f.k - 1) → p - 1 ≡ largest_part f
  unfolding largest_part
  largest_floating n p h = rw (ne_eqb _ _ n, h) refl

  -- a word has from 1 to 64 bits
  pub width_range : known f ≡ true → (0 < width_of f) × (width_of f < 65)
  width_range h = go (ℕ_discrete f.kind 1)
    where
      go : Dec (f.kind ≡ 1) → (0 < width_of f) × (width_of f < 65)
      go (yes e) = omega (arith, width_fixed e, fixed_k f h e)
      go (no n) = omega (arith, width_floating n _ refl, known_k f h, slash_bits_le f.k (known_k f h).1)

-- ---- what a format holds

module _ (f : Format) (r s : ℕ) where
  holds_fixed : f.kind ≡ 1 → (p : ℕ) → p ≡ 2 ^ f.k → (leb r (p - 1) && leb s (p - 1)) ≡ holds f r s
  unfolding holds
  holds_fixed e p h = rw (eq-eqb _ _ e, h) refl

  -- the answers of `is_held`
  pub holds_or : f.kind ≡ 1 → (p : ℕ) → p ≡ 2 ^ f.k → leb (bit_or r s) (p - 1) ≡ holds f r s
  holds_or e p h = ap (λ (q : ℕ). leb (bit_or r s) (q - 1)) h ∙ or_most f.k r s ∙ holds_fixed e _ refl

  pub holds_floating : (f.kind ≡ 1 → ⊥) → (a b : ℕ) → a ≡ bit_count r → b ≡ bit_count s → leb (a + b) f.k ≡ holds f r s
  unfolding holds
  holds_floating n a b ae be = rw (ne_eqb _ _ n, ae, be) refl

  pub fixed_holds : f.kind ≡ 1 → holds f r s ≡ true → (r < 2 ^ f.k) × (s < 2 ^ f.k)
  unfolding holds
  fixed_holds e h =
      let g : (leb r (2 ^ f.k - 1) && leb s (2 ^ f.k - 1)) ≡ true = holds_fixed e _ refl ∙ h in
      let w = and_parts (leb r (2 ^ f.k - 1)) (leb s (2 ^ f.k - 1)) g in
      let a : r ≤ 2 ^ f.k - 1 = leb-true _ _ w.0 in
      let b : s ≤ 2 ^ f.k - 1 = leb-true _ _ w.1 in
      (omega (arith, pow_pos f.k), omega (arith, pow_pos f.k))

  -- and back
  pub holds_both : f.kind ≡ 1 → r ≤ 2 ^ f.k - 1 → s ≤ 2 ^ f.k - 1 → holds f r s ≡ true
  holds_both e i j = sym (holds_fixed e _ refl) ∙ ap₂ ◌&&◌ (le-leb _ _ i) (le-leb _ _ j)

  pub floating_holds : (f.kind ≡ 1 → ⊥) → holds f r s ≡ true → bit_count r + bit_count s ≤ f.k
  floating_holds n h = leb-true _ _ (holds_floating n _ _ refl refl ∙ h)

  pub holds_sum : (f.kind ≡ 1 → ⊥) → bit_count r + bit_count s ≤ f.k → holds f r s ≡ true
  holds_sum n h = sym (holds_floating n _ _ refl refl) ∙ le-leb _ _ h

-- Each known format is a limit: it holds 1/1, and is closed downward.
pub format_limit : (f : Format) → known f ≡ true → Limit (holds f)
format_limit f h = go (ℕ_discrete f.kind 1)
  where
    k : (2 ≤ f.k) × (f.k ≤ 32)
    k = known_k f h

    fixed : f.kind ≡ 1 → Limit (holds f)
    fixed e = record {
      one =
          let l : 1 ≤ 2 ^ f.k - 1 = omega (arith, pow_mono k.0) in
          holds_both f 1 1 e l l;
      downward =
          λ r s r' s' t i j l.
          let w = fixed_holds f r s e t in
          let a : r' ≤ 2 ^ f.k - 1 = omega arith in
          let b : s' ≤ 2 ^ f.k - 1 = omega arith in
          holds_both f r' s' e a b;
    }

    floating : (f.kind ≡ 1 → ⊥) → Limit (holds f)
    floating n = record {
      one =
          let l : bit_count 1 + bit_count 1 ≤ f.k = omega (arith, k.0, bit_count_le 1 1 (omega arith) (omega arith)) in
          holds_sum f 1 1 n l;
      downward =
          λ r s r' s' t i j l.
          let w = floating_holds f r s n t in
          let a : bit_count r' + bit_count s' ≤ f.k = omega (arith, w, bit_count_mono i, bit_count_mono l) in
          holds_sum f r' s' n a;
    }

    go : Dec (f.kind ≡ 1) → Limit (holds f)
    go (yes e) = fixed e
    go (no n) = floating n

-- ---- the parts of a held pair, 1/0 included

module _ (f : Format) (n d : ℕ) (h : known f ≡ true) (l : held (holds f) (pair n d) ≡ true) where
  held_zero : d ≡ 0 → n ≡ 1
  unfolding held
  held_zero e = eqb-true n 1 (rw e at l)

  held_some : 1 ≤ d → holds f n d ≡ true
  held_some g = sym (held_is (holds f) n d g) ∙ l

  pub fixed_parts : f.kind ≡ 1 → (n < 2 ^ f.k) × (d < 2 ^ f.k)
  fixed_parts e = go (ℕ_discrete d 0)
    where
      go : Dec (d ≡ 0) → (n < 2 ^ f.k) × (d < 2 ^ f.k)
      go (yes z) = (omega (arith, held_zero z, pow_mono (known_k f h).0), omega (arith, pow_pos f.k))
      go (no z) = fixed_holds f n d e (held_some (omega arith))

  pub floating_parts : (f.kind ≡ 1 → ⊥) → 1 ≤ d → bit_count n + bit_count d ≤ f.k
  floating_parts e g = floating_holds f n d e (held_some g)

-- ---- the largest part is held on each side, and no held pair has a larger one

module _ (f : Format) (h : known f ≡ true) where
  pub largest_held : (holds f (largest_part f) 1 ≡ true) × (holds f 1 (largest_part f) ≡ true)
  largest_held = go (ℕ_discrete f.kind 1)
    where
      m : ℕ
      m = largest_part f

      go : Dec (f.kind ≡ 1) → (holds f m 1 ≡ true) × (holds f 1 m ≡ true)
      go (yes e) =
          let l : 1 ≤ 2 ^ f.k - 1 = omega (arith, pow_mono (known_k f h).0) in
          let i : m ≤ 2 ^ f.k - 1 = omega (arith, largest_fixed f e _ refl) in
          (holds_both f m 1 e i l, holds_both f 1 m e l i)
      go (no n) =
          let a : bit_count m ≤ f.k - 1 =
          bit_count_le m (f.k - 1) (omega (arith, known_k f h)) (omega (arith, largest_floating f n _ refl, pow_pos (f.k - 1)))
          in
          let b : bit_count 1 ≤ 1 = bit_count_le 1 1 (omega arith) (omega arith) in
          let i : bit_count m + bit_count 1 ≤ f.k = omega (arith, known_k f h) in
          let j : bit_count 1 + bit_count m ≤ f.k = omega arith in
          (holds_sum f m 1 n i, holds_sum f 1 m n j)

  pub largest_most : (r s : ℕ) → holds f r s ≡ true → (r ≤ largest_part f) × (s ≤ largest_part f)
  largest_most r s l = go (ℕ_discrete f.kind 1)
    where
      below : (m n : ℕ) → bit_count m + bit_count n ≤ f.k → m ≤ 2 ^ (f.k - 1) - 1
      below m n i =
          let j : bit_count m ≤ f.k - 1 = omega (arith, bit_count_pos n) in
          omega (arith, bit_count_lt m, pow_mono j)

      go : Dec (f.kind ≡ 1) → (r ≤ largest_part f) × (s ≤ largest_part f)
      go (yes e) = omega (arith, fixed_holds f r s e l, largest_fixed f e _ refl)
      go (no n) =
          let b = floating_holds f r s n l in
          let c : bit_count s + bit_count r ≤ f.k = omega arith in
          omega (arith, below r s b, below s r c, largest_floating f n _ refl)

  pub largest_some : 1 ≤ largest_part f
  largest_some = (largest_most 1 1 (format_limit f h).one).0

  -- it takes at most k bits, and at most 31
  pub largest_below : (largest_part f < 2 ^ f.k) × (largest_part f < 2 ^ 31)
  largest_below = go (ℕ_discrete f.kind 1)
    where
      go : Dec (f.kind ≡ 1) → (largest_part f < 2 ^ f.k) × (largest_part f < 2 ^ 31)
      go (yes e) = omega (arith, largest_fixed f e _ refl, pow_pos f.k, pow_mono (fixed_k f h e))
      go (no n) =
          let i : f.k - 1 ≤ 31 = omega (arith, known_k f h) in
          let j : f.k - 1 ≤ f.k = omega arith in
          omega (arith, largest_floating f n _ refl, pow_pos (f.k - 1), pow_mono i, pow_mono j)
