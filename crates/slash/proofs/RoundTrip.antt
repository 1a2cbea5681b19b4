-- Reading what was written. Assumes nothing.
-- `pair_says`: the word of a held pair earns no stop and is read as that pair, with its sign and mark. `nan_says`: the word of not-a-number is
-- read as not-a-number.
use mathlib.Core.Path.{◌≡◌, refl, sym, ap, ◌∙◌, subst}
use mathlib.Core.Bool.{Bool, true, false}
use Prim.Native.Nat.{ℕ, ◌+◌, ◌-◌, ◌*◌, ◌/◌, ◌%◌, ◌^◌, ◌≤◌, ◌<◌}
use native.Mathlib.Omega.{arith}
use native.Mathlib.Decide.{ℕ_discrete}
use native.Mathlib.Nat.{zero-mul}
use lib.Arith.{digits_div, digits_mod}
use lib.Pow.{pow_pos, pow_mono, ones_lt}
use borrow.Author.Tests.{le-leb, lt-leb, eq-eqb, ne_eqb}
use Rattle.convergents.specs.Pairs.{pair}
use Rattle.convergents.specs.Rounding.{held}
use Rattle.slash.specs.Answers.{done}
use Rattle.slash.specs.Bits.{bit_count, bits, bit, bit_of, word_of_fields}
use Rattle.slash.specs.Formats.{known, slash_bits, width_of, holds}
use Rattle.slash.specs.Reading.{fixed_value, fixed_number, slash_position, slash_undefined, floating_fraction, floating_special, floating_number, number_of, is_above, check_word, read_word}
use Rattle.slash.specs.Writing.{fixed_word, floating_word, floating_pair, floating_nan, pair_word, nan_word}
use Rattle.slash.specs.Steps.{value_of}
use Rattle.slash.specs.Numbers.{pair_of}
use Rattle.slash.specs.declared.format.Format.{Format}
use Rattle.slash.specs.declared.number.Value.TheVariants.{Fraction, Zero, Infinity, NotANumber}
use Rattle.slash.specs.declared.number.Number.{Number}
use Rattle.slash.proofs.BitLaws.{bit_lt, bit_back, bit_count_pos, bit_count_top, bit_count_rest, fields_z, fields_y, fields_x, fields_s, fields_lt}
use Rattle.slash.proofs.FormatLaws.{known_k, fixed_parts, floating_parts, slash_bits_enough, slash_bits_pos, width_fixed, width_floating}
use Rattle.slash.proofs.ReadingLaws.{fixed_zero, fixed_nan_zero, fixed_infinity, fixed_fraction, floating_zero, floating_fraction_lem, special_infinity, special_nan, undefined_below, check_fixed, check_floating_lem, number_fixed, number_floating, checked_read}
use Rattle.slash.proofs.FieldLaws.{pair_field, pair_slash}

-- ---- the value of a pair

-- a pair that stands for a value: its zero is 0/1, and its infinity 1/0
pub record Proper (n d : ℕ) : Type 0 where
  pub zero_is : n ≡ 0 → d ≡ 1
  pub infinity_is : d ≡ 0 → n ≡ 1

pub zero_proper : Proper 0 1
zero_proper = record { zero_is = λ e. refl; infinity_is = λ e. absurd (omega arith) }

pub infinity_proper : Proper 1 0
infinity_proper = record { zero_is = λ e. absurd (omega arith); infinity_is = λ e. refl }

module _ (s : Bool) (n d : ℕ) where
  pub value_infinity : d ≡ 0 → Infinity s ≡ value_of s (pair n d)
  unfolding value_of
  value_infinity e = rw (eq-eqb _ _ e) refl

  pub value_zero : (d ≡ 0 → ⊥) → n ≡ 0 → Zero s ≡ value_of s (pair n d)
  unfolding value_of
  value_zero h e = rw (ne_eqb _ _ h, eq-eqb _ _ e) refl

  pub value_fraction : (d ≡ 0 → ⊥) → (n ≡ 0 → ⊥) → Fraction (record { negative = s; numerator = n; denominator = d }) ≡ value_of s (pair n d)
  unfolding value_of
  value_fraction h g = rw (ne_eqb _ _ h, ne_eqb _ _ g) refl

  -- the pair of the value of a pair is that pair
  pub pair_value : Proper n d → pair_of (value_of s (pair n d)) ≡ pair n d
  unfolding pair_of
  pair_value p = go (ℕ_discrete d 0) (ℕ_discrete n 0)
    where
      go : Dec (d ≡ 0) → Dec (n ≡ 0) → pair_of (value_of s (pair n d)) ≡ pair n d
      go (yes e) g = rw (← value_infinity e) (rw (e, p.infinity_is e) refl)
      go (no h) (yes e) = rw (← value_zero h e) (rw (p.zero_is e, e) refl)
      go (no h) (no g) = rw (← value_fraction h g) refl

  fixed_value_lem : Proper n d → fixed_value s n d ≡ value_of s (pair n d)
  fixed_value_lem p = go (ℕ_discrete d 0) (ℕ_discrete n 0)
    where
      go : Dec (d ≡ 0) → Dec (n ≡ 0) → fixed_value s n d ≡ value_of s (pair n d)
      go (yes e) g =
          let one : n ≡ 1 = p.infinity_is e in
          let h : n ≡ 0 → ⊥ = λ z. omega arith in
          let odd : n % 2 ≡ 1 = rw one refl in
          sym (fixed_infinity s n d h e odd) ∙ value_infinity e
      go (no h) (yes e) =
          let odd : d % 2 ≡ 1 = rw (p.zero_is e) refl in
          sym (fixed_zero s n d e odd) ∙ value_zero h e
      go (no h) (no g) = sym (fixed_fraction s n d g h) ∙ value_fraction h g

  -- n and d are taken out of the field that they were put in
  floating_value : (d ≡ 0 → ⊥) → floating_fraction s (bit_count d - 1) (n * 2 ^ (bit_count d - 1) + (d - 2 ^ (bit_count d - 1))) ≡ value_of s (pair n d)
  floating_value z = go (ℕ_discrete n 0)
    where
      p : ℕ
      p = 2 ^ (bit_count d - 1)

      f : ℕ
      f = n * p + (d - p)

      low : d - p < p
      low = bit_count_rest d (omega arith)

      quotient : f / p ≡ n
      quotient = digits_div n low

      denominator : f % p + p ≡ d
      denominator =
          let pos : 1 ≤ d = omega arith in
          omega (arith, digits_mod n low, bit_count_top d pos)

      go : Dec (n ≡ 0) → floating_fraction s (bit_count d - 1) f ≡ value_of s (pair n d)
      go (yes e) = sym (floating_zero s (bit_count d - 1) f (quotient ∙ e)) ∙ value_zero z e
      go (no g) =
          sym (floating_fraction_lem s (bit_count d - 1) f (λ e. g (sym quotient ∙ e)))
          ∙ rw (quotient, denominator) (value_fraction z g)

-- ---- words within the width

below : (width w : ℕ) → w < 2 ^ width → is_above width w ≡ false
unfolding is_above
below width w l = lt-leb _ _ l

-- ---- fixed words

module _ (k : ℕ) (s a : Bool) (n d : ℕ) (hn : n < 2 ^ k) (hd : d < 2 ^ k) where
  abbrev fixed : ℕ
  fixed = fixed_word k (bit_of s) n (bit_of a) d

  fixed_below : fixed < 2 ^ (2 * k + 2)
  unfolding fixed_word
  fixed_below = fields_lt (bit_of s) n k (bit_of a) 1 d k (bit_lt s) hn (bit_lt a) hd (2 * k + 2) (omega arith)

  fixed_back : fixed_number k fixed ≡ record { value = fixed_value s n d; approximate = a }
  unfolding fixed_number fixed_word
  fixed_back =
      rw (
        bit_back s _ fixed (fields_s (bit_of s) n k (bit_of a) 1 d k (bit_lt s) hn (bit_lt a) hd (2 * k + 1) (omega arith)),
        bit_back a _ fixed (fields_y (bit_of s) n k (bit_of a) 1 d k (bit_lt s) hn (bit_lt a) hd),
        fields_x (bit_of s) n k (bit_of a) 1 d k (bit_lt s) hn (bit_lt a) hd (k + 1) refl,
        fields_z (bit_of s) n k (bit_of a) 1 d k (bit_lt s) hn (bit_lt a) hd,
      ) refl

-- ---- floating words

module _ (k : ℕ) (s a : Bool) (e f : ℕ) (hk : 2 ≤ k) (he : e < 2 ^ slash_bits k) (hf : f < 2 ^ (k - 1)) where
  abbrev floating : ℕ
  floating = floating_word k (bit_of s) (bit_of a) e f

  floating_below : floating < 2 ^ (k + slash_bits k + 1)
  unfolding floating_word
  floating_below = fields_lt (bit_of s) (bit_of a) 1 e (slash_bits k) f (k - 1) (bit_lt s) (bit_lt a) he hf (k + slash_bits k + 1) (omega arith)

  sign_back : bit (k + slash_bits k) floating ≡ s
  unfolding floating_word
  sign_back = bit_back s _ floating (fields_s (bit_of s) (bit_of a) 1 e (slash_bits k) f (k - 1) (bit_lt s) (bit_lt a) he hf (k + slash_bits k) (omega arith))

  mark_back : bit (k + slash_bits k - 1) floating ≡ a
  unfolding floating_word
  mark_back = bit_back a _ floating (fields_x (bit_of s) (bit_of a) 1 e (slash_bits k) f (k - 1) (bit_lt s) (bit_lt a) he hf (k + slash_bits k - 1) (omega arith))

  slash_back : slash_position k floating ≡ e
  unfolding slash_position floating_word
  slash_back = fields_y (bit_of s) (bit_of a) 1 e (slash_bits k) f (k - 1) (bit_lt s) (bit_lt a) he hf

  field_back : bits 0 (k - 1) floating ≡ f
  unfolding floating_word
  field_back = fields_z (bit_of s) (bit_of a) 1 e (slash_bits k) f (k - 1) (bit_lt s) (bit_lt a) he hf

  -- a slash position that parts the field, and the one past all undefined ones
  fraction_back : e ≤ k - 2 → floating_number k floating ≡ record { value = floating_fraction s e f; approximate = a }
  unfolding floating_number
  fraction_back h = rw (sign_back, mark_back, slash_back, field_back, le-leb _ _ h) refl

  fraction_defined : e ≤ k - 2 → slash_undefined k floating ≡ false
  fraction_defined h = sym (undefined_below k floating e (sym slash_back) (omega arith))

  special_back : e ≡ 2 ^ slash_bits k - 1 → floating_number k floating ≡ record { value = floating_special s f; approximate = a }
  unfolding floating_number
  special_back h =
      let g : k - 2 < e = omega (arith, slash_bits_enough k) in
      rw (sign_back, mark_back, slash_back, field_back, lt-leb _ _ g) refl

  special_defined : e ≡ 2 ^ slash_bits k - 1 → slash_undefined k floating ≡ false
  unfolding slash_undefined
  special_defined h =
      let g : k - 1 ≤ e = omega (arith, slash_bits_enough k) in
      let l : 2 ^ slash_bits k - 2 < e = omega (arith, pow_mono (slash_bits_pos k hk)) in
      rw (slash_back, le-leb _ _ g, lt-leb _ _ l) refl

-- ---- what is within the width, and at a defined slash position, earns no stop

module _ (f : Format) (w : ℕ) (h : known f ≡ true) where
  fixed_clear : f.kind ≡ 1 → w < 2 ^ (2 * f.k + 2) → check_word f w ≡ done tt
  fixed_clear e l = sym (check_fixed f w h (below (width_of f) w (subst (λ (j : ℕ). w < 2 ^ j) (width_fixed f e) l)) e)

  floating_clear : (f.kind ≡ 1 → ⊥) → w < 2 ^ (f.k + slash_bits f.k + 1) → slash_undefined f.k w ≡ false → check_word f w ≡ done tt
  floating_clear n l u =
      sym (check_floating_lem f w h (below (width_of f) w (subst (λ (j : ℕ). w < 2 ^ j) (width_floating f n _ refl) l)) n u)

-- a word earns no stop, and says x
pub record Says (f : Format) (w : ℕ) (x : Number) : Type 0 where
  pub clear : check_word f w ≡ done tt
  pub number : number_of f w ≡ x

-- so it is read as x
pub says_read : {f : Format} {w : ℕ} {x : Number} → Says f w x → read_word f w ≡ done x
says_read {f} {w} {x} r = checked_read f w r.clear ∙ ap done r.number

-- ---- the word of a pair

module _ (f : Format) (s a : Bool) (n d : ℕ) where
  pub word_fixed : f.kind ≡ 1 → fixed_word f.k (bit_of s) n (bit_of a) d ≡ pair_word f s a (pair n d)
  unfolding pair_word
  word_fixed e = rw (eq-eqb _ _ e) refl

  pub word_floating : (f.kind ≡ 1 → ⊥) → floating_pair f.k (bit_of s) (bit_of a) n d ≡ pair_word f s a (pair n d)
  unfolding pair_word
  word_floating e = rw (ne_eqb _ _ e) refl

  module _ (h : known f ≡ true) (l : held (holds f) (pair n d) ≡ true) (p : Proper n d) where
    abbrev Back : ℕ → Type 0
    Back w = Says f w (record { value = value_of s (pair n d); approximate = a })

    fixed_pair : f.kind ≡ 1 → Back (fixed_word f.k (bit_of s) n (bit_of a) d)
    fixed_pair e =
        let w : ℕ = fixed_word f.k (bit_of s) n (bit_of a) d in
        let b = fixed_parts f n d h l e in
        record {
          clear = fixed_clear f w h e (fixed_below f.k s a n d b.0 b.1);
          number = sym (number_fixed f w e) ∙ fixed_back f.k s a n d b.0 b.1 ∙ rw (fixed_value_lem s n d p) refl;
        }

    floating_infinity : (f.kind ≡ 1 → ⊥) → d ≡ 0 → Back (floating_pair f.k (bit_of s) (bit_of a) n d)
    unfolding floating_pair
    floating_infinity e z =
        let k : ℕ = f.k in
        let hk = (known_k f h).0 in
        let b = ones_lt (slash_bits k) in
        let w : ℕ = floating_word k (bit_of s) (bit_of a) (2 ^ slash_bits k - 1) 0 in
        rw (eq-eqb _ _ z)
        (record {
          clear =
              floating_clear f w h e (floating_below k s a _ 0 hk b (pow_pos (k - 1)))
              (special_defined k s a _ 0 hk b (pow_pos (k - 1)) refl);
          number =
              sym (number_floating f w e) ∙ special_back k s a _ 0 hk b (pow_pos (k - 1)) refl
              ∙ rw (← special_infinity s 0 refl, value_infinity s n d z) refl;
        })

    floating_some : (f.kind ≡ 1 → ⊥) → (d ≡ 0 → ⊥) → Back (floating_pair f.k (bit_of s) (bit_of a) n d)
    unfolding floating_pair
    floating_some e z =
        let k : ℕ = f.k in
        let hk = (known_k f h).0 in
        let pos : 1 ≤ d = omega arith in
        let c = floating_parts f n d h l e pos in
        let E : ℕ = bit_count d - 1 in
        let F : ℕ = n * 2 ^ E + (d - 2 ^ E) in
        let he = pair_slash k n d pos c in
        let hf = pair_field k n d pos c in
        let g : E ≤ k - 2 = omega (arith, bit_count_pos n, bit_count_pos d) in
        let w : ℕ = floating_word k (bit_of s) (bit_of a) E F in
        rw (ne_eqb _ _ z)
        (record {
          clear = floating_clear f w h e (floating_below k s a E F hk he hf) (fraction_defined k s a E F hk he hf g);
          number = sym (number_floating f w e) ∙ fraction_back k s a E F hk he hf g ∙ rw (floating_value s n d z) refl;
        })

    pub pair_says : Back (pair_word f s a (pair n d))
    pair_says = go (ℕ_discrete f.kind 1) (ℕ_discrete d 0)
      where
        go : Dec (f.kind ≡ 1) → Dec (d ≡ 0) → Back (pair_word f s a (pair n d))
        go (yes e) z = subst (λ (w : ℕ). Back w) (word_fixed e) (fixed_pair e)
        go (no e) (yes z) = subst (λ (w : ℕ). Back w) (word_floating e) (floating_infinity e z)
        go (no e) (no z) = subst (λ (w : ℕ). Back w) (word_floating e) (floating_some e z)

-- ---- the word of not-a-number

module _ (f : Format) where
  pub nan_fixed : f.kind ≡ 1 → 0 ≡ nan_word f
  unfolding nan_word
  nan_fixed e = rw (eq-eqb _ _ e) refl

  pub nan_floating : (f.kind ≡ 1 → ⊥) → floating_nan f.k ≡ nan_word f
  unfolding nan_word
  nan_floating e = rw (ne_eqb _ _ e) refl

  module _ (h : known f ≡ true) where
    abbrev Nan : ℕ → Type 0
    Nan w = Says f w (record { value = NotANumber; approximate = false })

    fixed_nan : f.kind ≡ 1 → Nan 0
    unfolding fixed_word word_of_fields bit_of
    fixed_nan e =
        let z : fixed_word f.k 0 0 0 0 ≡ 0 = omega (arith, zero-mul (2 ^ f.k)) in
        let b = pow_pos f.k in
        subst (λ (w : ℕ). Nan w) z
        (record {
          clear = fixed_clear f (fixed_word f.k 0 0 0 0) h e (fixed_below f.k false false 0 0 b b);
          number =
              sym (number_fixed f (fixed_word f.k 0 0 0 0) e) ∙ fixed_back f.k false false 0 0 b b
              ∙ rw (← fixed_nan_zero false 0 0 refl (λ q. omega arith)) refl;
        })

    floating_nan_lem : (f.kind ≡ 1 → ⊥) → Nan (floating_nan f.k)
    unfolding floating_nan bit_of
    floating_nan_lem e =
        let k : ℕ = f.k in
        let hk = (known_k f h).0 in
        let i : 1 ≤ k - 1 = omega arith in
        let b = ones_lt (slash_bits k) in
        let c : 1 < 2 ^ (k - 1) = omega (arith, pow_mono i) in
        let w : ℕ = floating_word k 0 0 (2 ^ slash_bits k - 1) 1 in
        record {
          clear = floating_clear f w h e (floating_below k false false _ 1 hk b c) (special_defined k false false _ 1 hk b c refl);
          number =
              sym (number_floating f w e) ∙ special_back k false false _ 1 hk b c refl
              ∙ rw (← special_nan false 1 (λ q. omega arith)) refl;
        }

    pub nan_says : Nan (nan_word f)
    nan_says = go (ℕ_discrete f.kind 1)
      where
        go : Dec (f.kind ≡ 1) → Nan (nan_word f)
        go (yes e) = subst (λ (w : ℕ). Nan w) (nan_fixed e) (fixed_nan e)
        go (no e) = subst (λ (w : ℕ). Nan w) (nan_floating e) (floating_nan_lem e)
