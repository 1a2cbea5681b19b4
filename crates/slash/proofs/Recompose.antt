-- A word is made of its fields. Assumes nothing.
-- `fixed_whole`, `floating_whole`: a good word is made of its fields. `fractional`: what a word says as a fraction is held, and its parts make
-- that word again.
use mathlib.Core.Path.{◌≡◌, refl, sym, ap, ◌∙◌, subst}
use mathlib.Core.Logic.{◌⊎◌, inl, inr}
use mathlib.Core.Bool.{Bool, true}
use Prim.Native.Nat.{ℕ, zero, suc, ◌+◌, ◌-◌, ◌*◌, ◌/◌, ◌%◌, ◌^◌, ◌≤◌, ◌<◌}
use native.Mathlib.Omega.{arith}
use native.Mathlib.Decide.{ℕ_discrete, dec_le}
use native.Mathlib.Nat.{div-one, div-add-mod', mod-lt, mod-eq_of_lt, div-lt_iff_lt-mul}
use lib.Dec.{leb, eqb}
use lib.Pow.{pow_pos, pow-add, shr-shr}
use borrow.Author.Tests.{le-leb, lt-leb, leb-false, ne_eqb}
use Rattle.std.specs.Prelude.{if◌then◌else◌}
use Rattle.convergents.specs.Pairs.{pair}
use Rattle.slash.specs.Answers.{done}
use Rattle.slash.specs.Bits.{bit_count, bits, bit, bit_of, word_of_fields}
use Rattle.slash.specs.Formats.{known, slash_bits, width_of}
use Rattle.slash.specs.Reading.{fixed_value, fixed_number, slash_position, floating_fraction, floating_special, floating_number, number_of, is_above, check_word}
use Rattle.slash.specs.Writing.{fixed_word, floating_word, floating_pair, pair_word}
use Rattle.slash.specs.Steps.{HeldParts}
use Rattle.slash.specs.declared.format.Format.{Format}
use Rattle.slash.specs.declared.number.Parts.{Parts}
use Rattle.slash.specs.declared.number.Value.{Value}
use Rattle.slash.specs.declared.number.Value.TheVariants.{Fraction, Zero, Infinity, NotANumber}
use Rattle.slash.specs.declared.number.Number.{Number}
use Rattle.slash.proofs.BitLaws.{pow_next, bits_lt, bit_count_is, bit_count_le}
use Rattle.slash.proofs.FormatLaws.{known_k, width_fixed, width_floating, holds_both, holds_sum}
use Rattle.slash.proofs.ReadingLaws.{fixed_zero, fixed_nan_zero, fixed_infinity, fixed_nan_infinity, fixed_fraction, floating_zero, floating_fraction_lem, special_infinity, special_nan, number_fixed, number_floating, checked_below}
use Rattle.slash.proofs.RoundTrip.{word_fixed, word_floating}

-- a word of no more bits than its fields is its fields
pub recompose : (i j k w : ℕ) → w < 2 ^ (k + j + i + 1)
    → word_of_fields (bits (k + j + i) 1 w) (bits (k + j) i w) i (bits k j w) j (bits 0 k w) k ≡ w
unfolding word_of_fields bits
recompose i j k w h =
    let low : w / 2 ^ 0 ≡ w = div-one w in
    let top : w / 2 ^ (k + j + i) < 2 = (div-lt_iff_lt-mul {k = 2 ^ (k + j + i)} {x = w} {y = 2} (pow_pos (k + j + i))).1 (omega (arith, pow_next (k + j + i))) in
    let a : w / 2 ^ (k + j + i) % 2 ^ 1 ≡ w / 2 ^ (k + j) / 2 ^ i = mod-eq_of_lt top ∙ sym (shr-shr w (k + j) i) in
    let b : w / 2 ^ (k + j) ≡ w / 2 ^ k / 2 ^ j = sym (shr-shr w k j) in
    rw (low, a, b)
    (ap (λ (x : ℕ). (x * 2 ^ j + w / 2 ^ k % 2 ^ j) * 2 ^ k + w % 2 ^ k) (div-add-mod' (w / 2 ^ k / 2 ^ j) (2 ^ i))
    ∙ ap (λ (x : ℕ). x * 2 ^ k + w % 2 ^ k) (div-add-mod' (w / 2 ^ k) (2 ^ j))
    ∙ div-add-mod' w (2 ^ k))

pub bit_of_lem : (from w : ℕ) → bit_of (bit from w) ≡ bits from 1 w
unfolding bit bit_of
bit_of_lem from w = go (bits from 1 w) (bits_lt from 1 w)
  where
    go : (b : ℕ) → b < 2 → bit_of (eqb b 1) ≡ b
    go zero h = refl
    go (suc zero) h = refl
    go (suc (suc b)) h = absurd (omega arith)

-- a fraction is no other value
not_fraction : {v : Value} {p : Parts} (s : Bool) → v ≡ Fraction p → v ≡ Zero s ⊎ (v ≡ Infinity s ⊎ v ≡ NotANumber) → ⊥
not_fraction s e (inl g) = let z : ◌≡◌ {A = ℕ} 0 1 = cc in omega arith
not_fraction s e (inr (inl g)) = let z : ◌≡◌ {A = ℕ} 0 1 = cc in omega arith
not_fraction s e (inr (inr g)) = let z : ◌≡◌ {A = ℕ} 0 1 = cc in omega arith

-- ---- a fixed word that is read as a fraction

module _ (s : Bool) (n d : ℕ) (p : Parts) (h : fixed_value s n d ≡ Fraction p) where
  fixed_some : (1 ≤ n) × (1 ≤ d)
  fixed_some = go (ℕ_discrete n 0) (ℕ_discrete d 0) (ℕ_discrete (d % 2) 1) (ℕ_discrete (n % 2) 1)
    where
      clash : {v : Value} → v ≡ fixed_value s n d → v ≡ Zero s ⊎ (v ≡ Infinity s ⊎ v ≡ NotANumber) → (1 ≤ n) × (1 ≤ d)
      clash e g = absurd (not_fraction s (e ∙ h) g)

      go : Dec (n ≡ 0) → Dec (d ≡ 0) → Dec (d % 2 ≡ 1) → Dec (n % 2 ≡ 1) → (1 ≤ n) × (1 ≤ d)
      go (yes a) b (yes e) g = clash (fixed_zero s n d a e) (inl refl)
      go (yes a) b (no e) g = clash (fixed_nan_zero s n d a e) (inr (inr refl))
      go (no a) (yes b) e (yes g) = clash (fixed_infinity s n d a b g) (inr (inl refl))
      go (no a) (yes b) e (no g) = clash (fixed_nan_infinity s n d a b g) (inr (inr refl))
      go (no a) (no b) e g = (omega arith, omega arith)

  fixed_parts_are : Fraction (record { negative = s; numerator = n; denominator = d }) ≡ Fraction p
  fixed_parts_are = fixed_fraction s n d (λ e. omega (arith, fixed_some)) (λ e. omega (arith, fixed_some)) ∙ h

-- ---- a floating word that is read as a fraction

-- the value is a fraction only at a slash position that parts the field, and with a numerator that isn't 0
module _ (k : ℕ) (s : Bool) (e f : ℕ) (p : Parts)
    (h : (if leb e (k - 2) then floating_fraction s e f else floating_special s f) ≡ Fraction p) where
  floating_parted : e ≤ k - 2
  floating_parted = go (dec_le e (k - 2)) (ℕ_discrete (f % 2) 0)
    where
      go : Dec (e ≤ k - 2) → Dec (f % 2 ≡ 0) → e ≤ k - 2
      go (yes l) g = l
      go (no l) (yes g) =
          let m : k - 2 < e = omega arith in
          absurd (not_fraction s (special_infinity s f g ∙ (rw (lt-leb _ _ m) at h)) (inr (inl refl)))
      go (no l) (no g) =
          let m : k - 2 < e = omega arith in
          absurd (not_fraction s (special_nan s f g ∙ (rw (lt-leb _ _ m) at h)) (inr (inr refl)))

  floating_is : floating_fraction s e f ≡ Fraction p
  floating_is = rw (le-leb _ _ floating_parted) at h

  floating_some : 1 ≤ f / 2 ^ e
  floating_some = go (ℕ_discrete (f / 2 ^ e) 0)
    where
      go : Dec (f / 2 ^ e ≡ 0) → 1 ≤ f / 2 ^ e
      go (yes z) = absurd (not_fraction s (floating_zero s e f z ∙ floating_is) (inl refl))
      go (no z) = omega arith

  floating_parts_are : Fraction (record { negative = s; numerator = f / 2 ^ e; denominator = f % 2 ^ e + 2 ^ e }) ≡ Fraction p
  floating_parts_are = floating_fraction_lem s e f (λ z. omega (arith, floating_some)) ∙ floating_is

-- the numerator and the denominator at slash position e of a field f
module _ (k e f : ℕ) (l : e ≤ k - 2) (hk : 2 ≤ k) (hf : f < 2 ^ (k - 1)) where
  denominator_count : bit_count (f % 2 ^ e + 2 ^ e) ≡ e + 1
  denominator_count =
      let m : f % 2 ^ e < 2 ^ e = mod-lt f (pow_pos e) in
      let g : e + 1 - 1 ≡ e = omega arith in
      let b : 2 ^ (e + 1 - 1) ≤ f % 2 ^ e + 2 ^ e = rw g (omega arith) in
      bit_count_is (f % 2 ^ e + 2 ^ e) (e + 1) (omega arith) (omega (arith, pow_next e)) b

  numerator_count : bit_count (f / 2 ^ e) ≤ k - 1 - e
  numerator_count =
      let g : k - 1 ≡ k - 1 - e + e = omega arith in
      let m : f < 2 ^ (k - 1 - e) * 2 ^ e = subst (λ (x : ℕ). f < x) (ap (λ (j : ℕ). 2 ^ j) g ∙ pow-add 2 (k - 1 - e) e) hf in
      bit_count_le (f / 2 ^ e) (k - 1 - e) (omega arith) ((div-lt_iff_lt-mul {k = 2 ^ e} {x = f} {y = 2 ^ (k - 1 - e)} (pow_pos e)).1 m)

-- ---- either

-- A word that is checked is made of its fields.
module _ (f : Format) (w : ℕ) (h : known f ≡ true) (c : check_word f w ≡ done tt) where
  -- it is below its width
  clear_below : w < 2 ^ width_of f
  unfolding is_above
  clear_below = leb-false _ _ (checked_below f w c)

  pub fixed_whole : f.kind ≡ 1 → fixed_word f.k (bit_of (bit (2 * f.k + 1) w)) (bits (f.k + 1) f.k w) (bit_of (bit f.k w)) (bits 0 f.k w) ≡ w
  unfolding fixed_word
  fixed_whole e =
      let k : ℕ = f.k in
      let g : 2 * k + 1 ≡ k + 1 + k = omega arith in
      let l : w < 2 ^ (k + 1 + k + 1) = subst (λ (j : ℕ). w < 2 ^ j) (sym (width_fixed f e) ∙ omega arith) clear_below in
      rw (bit_of_lem (2 * k + 1) w, bit_of_lem k w, g) (recompose k 1 k w l)

  pub floating_whole : (f.kind ≡ 1 → ⊥)
      → floating_word f.k (bit_of (bit (f.k + slash_bits f.k) w)) (bit_of (bit (f.k + slash_bits f.k - 1) w)) (slash_position f.k w) (bits 0 (f.k - 1) w) ≡ w
  unfolding floating_word slash_position
  floating_whole e =
      let k : ℕ = f.k in
      let L : ℕ = slash_bits k in
      let hk = (known_k f h).0 in
      let a : k + L ≡ k - 1 + L + 1 = omega arith in
      let b : k + L - 1 ≡ k - 1 + L = omega arith in
      let l : w < 2 ^ (k - 1 + L + 1 + 1) = subst (λ (j : ℕ). w < 2 ^ j) (sym (width_floating f e _ refl) ∙ omega arith) clear_below in
      rw (bit_of_lem (k + L) w, bit_of_lem (k + L - 1) w, b, a) (recompose 1 L (k - 1) w l)

module _ (f : Format) (w : ℕ) (h : known f ≡ true) (c : check_word f w ≡ done tt) (p : Parts) where
  -- What a word says as a fraction is held, and its parts make that word.
  pub record Fractional : Type 0 where
    pub parts : HeldParts f p
    pub again : pair_word f p.negative (number_of f w).approximate (pair p.numerator p.denominator) ≡ w

  module _ (e : f.kind ≡ 1) where
    fixed_again : pair_word f (bit (2 * f.k + 1) w) (bit f.k w) (pair (bits (f.k + 1) f.k w) (bits 0 f.k w)) ≡ w
    fixed_again = sym (word_fixed f _ _ _ _ e) ∙ fixed_whole f w h c e

    fixed_fractional : (number_of f w).value ≡ Fraction p → Fractional
    unfolding fixed_number
    fixed_fractional v =
        let k : ℕ = f.k in
        let n : ℕ = bits (k + 1) k w in
        let d : ℕ = bits 0 k w in
        let s : Bool = bit (2 * k + 1) w in
        let x : fixed_value s n d ≡ Fraction p = ap (λ (y : Number). y.value) (number_fixed f w e) ∙ v in
        let some = fixed_some s n d p x in
        let same : record { negative = s; numerator = n; denominator = d } ≡ p = cc (fixed_parts_are s n d p x) in
        let a : bit k w ≡ (number_of f w).approximate = ap (λ (y : Number). y.approximate) (number_fixed f w e) in
        let i : n ≤ 2 ^ k - 1 = omega (arith, bits_lt (k + 1) k w) in
        let j : d ≤ 2 ^ k - 1 = omega (arith, bits_lt 0 k w) in
        rw (← same)
        (record {
          parts = record { some_numerator = some.0; some_denominator = some.1; holds_it = holds_both f n d e i j };
          again = rw (← a) fixed_again;
        })

  module _ (e : f.kind ≡ 1 → ⊥) where
    abbrev L : ℕ
    L = slash_bits f.k

    abbrev S : Bool
    S = bit (f.k + L) w

    abbrev E : ℕ
    E = slash_position f.k w

    abbrev F : ℕ
    F = bits 0 (f.k - 1) w

    floating_fractional : (number_of f w).value ≡ Fraction p → Fractional
    unfolding floating_number floating_pair
    floating_fractional v =
        let k : ℕ = f.k in
        let hk = (known_k f h).0 in
        let A : Bool = bit (k + L - 1) w in
        let x : (if leb E (k - 2) then floating_fraction S E F else floating_special S F) ≡ Fraction p = ap (λ (y : Number). y.value) (number_floating f w e) ∙ v in
        let l = floating_parted k S E F p x in
        let some = floating_some k S E F p x in
        let hf = bits_lt 0 (k - 1) w in
        let n : ℕ = F / 2 ^ E in
        let d : ℕ = F % 2 ^ E + 2 ^ E in
        let same : record { negative = S; numerator = n; denominator = d } ≡ p = cc (floating_parts_are k S E F p x) in
        let a : A ≡ (number_of f w).approximate = ap (λ (y : Number). y.approximate) (number_floating f w e) in
        let z : d ≡ 0 → ⊥ = λ q. omega (arith, pow_pos E) in
        let dc = denominator_count k E F l hk hf in
        let i : bit_count n + bit_count d ≤ k = omega (arith, numerator_count k E F l hk hf) in
        let d-count : bit_count d - 1 ≡ E = omega arith in
        let g : n * 2 ^ E + (d - 2 ^ E) ≡ F = omega (arith, div-add-mod' F (2 ^ E)) in
        rw (← same)
        (record {
          parts = record { some_numerator = some; some_denominator = omega (arith, pow_pos E); holds_it = holds_sum f n d e i };
          again = rw (← a) (sym (word_floating f S A n d e) ∙ rw (ne_eqb _ _ z, d-count, g) (floating_whole f w h c e));
        })

  pub fractional : (number_of f w).value ≡ Fraction p → Fractional
  fractional v = go (ℕ_discrete f.kind 1)
    where
      go : Dec (f.kind ≡ 1) → Fractional
      go (yes e) = fixed_fractional e v
      go (no e) = floating_fractional e v
