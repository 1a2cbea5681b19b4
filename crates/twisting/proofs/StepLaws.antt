-- What the code computes, one law for each way through it. Assumes nothing.
-- `field_turned`: 32 bits turned, and shifted, are a field's turned. `twist_code`, `untwist_code`: a field either way. `code_special`, `code_field`: a
-- word. `wide_refused`, `position_refused`, `position_done`: what the tests of a word tell. `joined_good`: what that of a vector's words does.
use mathlib.Core.Path.{◌≡◌, refl, sym, ap, ap₂, ◌∙◌, subst}
use mathlib.Core.Bool.{Bool, true, false, ◌&&◌, and-false, false≢true}
use mathlib.Core.List.{List}
use Prim.Native.Nat.{ℕ, suc, ◌+◌, ◌-◌, ◌*◌, ◌/◌, ◌%◌, ◌^◌, ◌≤◌, ◌<◌}
use native.Mathlib.Omega.{arith}
use native.Mathlib.Decide.{dec_le}
use native.Mathlib.Nat.{add-zero, one-mul, div-one, le_trans, mod-lt, mod-eq_of_lt, mul-mod_left, div-lt_iff_lt-mul, le-div_iff_mul-le, pow-suc}
use lib.Arith.{digits_lt}
use lib.Dec.{leb, eqb}
use lib.ListN.{length, get_or}
use lib.Pow.{pow_pos, pow_mono, pow-add, high, low, shl-shr, shr-shr, shr_le, mod-pow-add, ones_split, ones_lt}
use lib.Count.{count_leading_zeros, leading_top, leading_length}
use lib.Bits.{bit_and, bit_or, and_mask, and_high, and_le_l, and_le_r, or_add_and}
use borrow.Author.Tests.{leb-true, le-leb, lt-leb, eq-eqb, ne_eqb, eqb-true, eqb-false}
use Rattle.slash.specs.Bits.{bits}
use Rattle.slash.specs.Answers.{stop, done}
use Rattle.slash.specs.Formats.{slash_bits, known, is_fixed, width_of}
use Rattle.slash.specs.Reading.{slash_position, slash_undefined, is_above, check_word}
use Rattle.slash.specs.declared.format.Format.{Format}
use Rattle.slash.proofs.AnswerLaws.{and_parts}
use Rattle.slash.proofs.BitLaws.{least_unique, least_power_lem}
use Rattle.slash.proofs.FormatLaws.{slash_bits_le, slash_bits_enough, known_k}
use Rattle.slash.proofs.ReadingLaws.{above_is, check_above, check_undefined, check_floating_lem, undefined_below}
use Rattle.twisting.specs.Twisting.{turned, twisted_field, untwisted_field, with_field, rearranged, check_floating, rearrange}
use Rattle.twisting.specs.Steps.{way_of, parting_at, Good, AllGood, raised_next, Joined}
use Rattle.twisting.specs.declared.layout.Way.{Way}
use Rattle.twisting.proofs.TurningLaws.{turned_lt, turned_zero, turned_mod, turned_split}
use Rattle.twisting.proofs.TwistingLaws.{width, twisted_lt, untwisted_lt, Fits, rearranged_field, rearranged_special, with_is, field_lt, whole, floating_width, rearrange_word, rearrange_done}

-- ---- numbers of 64 bits

pub one_shifted : (e : ℕ) → e ≤ 63 → 1 * 2 ^ e % 2 ^ 64 ≡ 2 ^ e
one_shifted e h = ap (λ (x : ℕ). x % 2 ^ 64) (one-mul (2 ^ e)) ∙ mod-eq_of_lt (omega (arith, pow_mono h))

pub one_some : (e : ℕ) → e ≤ 63 → 1 ≤ 1 * 2 ^ e % 2 ^ 64
one_some e h = rw (one_shifted e h) (pow_pos e)

-- ---- a field

-- nothing is left of x below 2^i from bit i on
none_left_lem : (i x : ℕ) → x < 2 ^ i → x / 2 ^ i ≡ 0
none_left_lem i x l = ap (λ (y : ℕ). y / 2 ^ i) (omega arith) ∙ high 0 i l

-- a few bits turned among more
turned_among : (a b x : ℕ) → x < 2 ^ a → turned (a + b) x ≡ turned a x * 2 ^ b
turned_among a b x l =
    let z : turned b (x / 2 ^ a) ≡ 0 = ap (turned b) (none_left_lem a x l) ∙ turned_zero b in
    omega (arith, turned_split a b x, z)

module _ (k x : ℕ) (h : 2 ≤ k) (m : k ≤ 32) (l : x < 2 ^ (k - 1)) where
  pub field_small : x < 2 ^ 32
  field_small = let i : k - 1 ≤ 32 = omega arith in omega (arith, pow_mono i)

  pub field_turned : (r : ℕ) → r ≡ turned 32 x → r / 2 ^ (33 - k) ≡ turned (k - 1) x
  field_turned r re =
      let j : k - 1 + (33 - k) ≡ 32 = omega arith in
      let t : turned 32 x ≡ turned (k - 1) x * 2 ^ (33 - k) = ap (λ (i : ℕ). turned i x) (sym j) ∙ turned_among (k - 1) (33 - k) x l in
      ap (λ (y : ℕ). y / 2 ^ (33 - k)) (re ∙ t) ∙ shl-shr (turned (k - 1) x) (33 - k)

  pub turned_fits : (r : ℕ) → r ≡ turned 32 x → r / 2 ^ (33 - k) < 2 ^ 64
  turned_fits r re =
      let i : k - 1 ≤ 64 = omega arith in
      omega (arith, field_turned r re, turned_lt (k - 1) x, pow_mono i)

module _ (k e : ℕ) (h : e + 2 ≤ k) (m : k ≤ 32) (f : ℕ) (l : f < 2 ^ (k - 1)) where
  field_wide : (r : ℕ) → r < 2 ^ (k - 1) → r < 2 ^ 64
  field_wide r rl = let i : k - 1 ≤ 64 = omega arith in omega (arith, pow_mono i)

  module _ (ones : ℕ) (oe : ones ≡ 2 ^ (k - 1) - 1) (r : ℕ) (re : r ≡ turned (k - 1) f) where
    -- the leftmost e bits, all set
    left_ones : ones - ones / 2 ^ e ≡ 2 ^ (e + (k - 1 - e)) - 2 ^ (k - 1 - e)
    left_ones =
        let j : ℕ = k - 1 - e in
        let je : k - 1 ≡ j + e = omega arith in
        let all : ones ≡ (2 ^ j - 1) * 2 ^ e + (2 ^ e - 1) = oe ∙ ap (λ (i : ℕ). 2 ^ i - 1) je ∙ ones_split j e in
        let rest : ones / 2 ^ e ≡ 2 ^ j - 1 = ap (λ (x : ℕ). x / 2 ^ e) all ∙ high (2 ^ j - 1) e (ones_lt e) in
        let w : 2 ^ (e + j) ≡ 2 ^ (k - 1) = ap (λ (i : ℕ). 2 ^ i) (omega arith) in
        omega (arith, oe, rest, w, pow_pos j, pow_pos (k - 1))

    pub ones_most : ones / 2 ^ e ≤ ones
    ones_most = shr_le ones e

    pub twist_code : bit_and r (ones - ones / 2 ^ e) + f / 2 ^ e ≡ twisted_field k e f
    unfolding twisted_field
    twist_code =
        let j : ℕ = k - 1 - e in
        let split : r ≡ turned e f * 2 ^ j + turned j (f / 2 ^ e) = re ∙ ap (λ (i : ℕ). turned i f) (width k e h j refl) ∙ turned_split e j f in
        let left : r / 2 ^ j ≡ turned e f = ap (λ (x : ℕ). x / 2 ^ j) split ∙ high (turned e f) j (turned_lt j (f / 2 ^ e)) in
        let all : bit_and r (ones - ones / 2 ^ e) ≡ turned e (f % 2 ^ e) * 2 ^ j =
        ap (bit_and r) left_ones ∙ and_high r e j ∙ ap (λ (x : ℕ). x % 2 ^ e * 2 ^ j) left
        ∙ ap (λ (x : ℕ). x * 2 ^ j) (mod-eq_of_lt (turned_lt e f) ∙ sym (turned_mod e f)) in
        ap (λ (x : ℕ). x + f / 2 ^ e) all

    pub twist_fits : bit_and r (ones - ones / 2 ^ e) + f / 2 ^ e < 2 ^ 64
    twist_fits = rw twist_code (field_wide (twisted_field k e f) (twisted_lt k e h f l))

    pub untwist_code : bit_and (f * 2 ^ e % 2 ^ 64) ones + bit_and r (1 * 2 ^ e % 2 ^ 64 - 1) ≡ untwisted_field k e f
    unfolding untwisted_field
    untwist_code =
        let j : ℕ = k - 1 - e in
        let je : k - 1 ≡ j + e = omega arith in
        let top : f * 2 ^ e + 0 < 2 ^ (k - 1) * 2 ^ e = digits_lt l (pow_pos e) in
        let most : k - 1 + e ≤ 63 = omega arith in
        let small : f * 2 ^ e < 2 ^ 64 = omega (arith, top, pow-add 2 (k - 1) e, pow_mono most) in
        let numerator : bit_and (f * 2 ^ e % 2 ^ 64) ones ≡ f % 2 ^ j * 2 ^ e =
        ap₂ bit_and (mod-eq_of_lt small) oe ∙ and_mask (f * 2 ^ e) (k - 1)
        ∙ ap (λ (i : ℕ). f * 2 ^ e % 2 ^ i) je ∙ mod-pow-add (f * 2 ^ e) j e
        ∙ ap₂ (λ (x y : ℕ). x % 2 ^ j * 2 ^ e + y) (shl-shr f e) (mul-mod_left f (2 ^ e)) ∙ add-zero (f % 2 ^ j * 2 ^ e) in
        let split : turned (k - 1) f ≡ turned j f * 2 ^ e + turned e (f / 2 ^ j) = ap (λ (i : ℕ). turned i f) je ∙ turned_split j e f in
        let denominator : bit_and r (1 * 2 ^ e % 2 ^ 64 - 1) ≡ turned e (f / 2 ^ j) =
        ap₂ (λ (x y : ℕ). bit_and x (y - 1)) (re ∙ split) (one_shifted e (omega arith)) ∙ and_mask (turned j f * 2 ^ e + turned e (f / 2 ^ j)) e
        ∙ low (turned j f) e (turned_lt e (f / 2 ^ j)) in
        ap₂ (λ (x y : ℕ). x + y) numerator denominator

    pub untwist_fits : bit_and (f * 2 ^ e % 2 ^ 64) ones + bit_and r (1 * 2 ^ e % 2 ^ 64 - 1) < 2 ^ 64
    untwist_fits = rw untwist_code (field_wide (untwisted_field k e f) (untwisted_lt k e h f l))

-- ---- the way

-- what a way makes, by its case
pub way_is : {way v : Way} → way ≡ v → {r : ℕ} (k e f : ℕ) → r ≡ way_of v k e f → r ≡ way_of way k e f
way_is q k e f h = h ∙ ap (λ (x : Way). way_of x k e f) (sym q)

way_fits : (way : Way) → Fits (way_of way)
unfolding way_of
way_fits Way.Twist k e f h l = twisted_lt k e h f l
way_fits Way.Untwist k e f h l = untwisted_lt k e h f l

-- at position 0 a field stays
way_zero : (way : Way) (k f : ℕ) → f < 2 ^ (k - 1) → way_of way k 0 f ≡ f
unfolding way_of twisted_field untwisted_field turned
way_zero Way.Twist k f l = omega (arith, div-one f)
way_zero Way.Untwist k f l =
    let j : k - 1 - 0 ≡ k - 1 = omega arith in
    omega (arith, ap (λ (i : ℕ). f % 2 ^ i) j, mod-eq_of_lt l)

-- ---- a word

-- a slash position has at most five bits
pub few : (k positions : ℕ) → k ≤ 32 → positions ≡ 2 ^ slash_bits k - 1 → positions < 2 ^ 5
few k positions m pe = let i : 2 ^ slash_bits k ≤ 2 ^ 5 = pow_mono (slash_bits_le k m) in omega (arith, i, pe, pow_pos (slash_bits k))

module _ (k e w ones : ℕ) (h : e + 2 ≤ k) (m : k ≤ 32) (oe : ones ≡ 2 ^ (k - 1) - 1) where
  pub field_is : bit_and w ones ≡ bits 0 (k - 1) w
  unfolding bits
  field_is = ap (bit_and w) oe ∙ and_mask w (k - 1) ∙ ap (λ (x : ℕ). x % 2 ^ (k - 1)) (sym (div-one w))

  pub field_fits : bit_and w ones < 2 ^ (k - 1)
  field_fits = rw field_is (field_lt k w)

  rest_is : w - bit_and w ones ≡ w / 2 ^ (k - 1) * 2 ^ (k - 1)
  rest_is = omega (arith, field_is, whole k w)

  module _ (way : Way) (r : ℕ) (re : r ≡ way_of way k e (bit_and w ones)) where
    pub new_word : w - bit_and w ones + r ≡ with_field k w (way_of way k e (bits 0 (k - 1) w))
    new_word = ap₂ (λ (x y : ℕ). x + y) rest_is (re ∙ ap (way_of way k e) field_is) ∙ sym (with_is k w (way_of way k e (bits 0 (k - 1) w)))

    pub word_fits : w < 2 ^ 64 → w - bit_and w ones + r < 2 ^ 64
    word_fits l =
        let rl : r < 2 ^ (k - 1) = rw re (way_fits way k e (bit_and w ones) h field_fits) in
        let parts : 65 - k + (k - 1) ≡ 64 = omega arith in
        let all : 2 ^ 64 ≡ 2 ^ (65 - k) * 2 ^ (k - 1) = ap (λ (j : ℕ). 2 ^ j) (sym parts) ∙ pow-add 2 (65 - k) (k - 1) in
        let above : w / 2 ^ (k - 1) < 2 ^ (65 - k) = (div-lt_iff_lt-mul (pow_pos (k - 1))).1 (subst (λ (x : ℕ). w < x) all l) in
        let sum : w / 2 ^ (k - 1) * 2 ^ (k - 1) + r < 2 ^ (65 - k) * 2 ^ (k - 1) = digits_lt above rl in
        omega (arith, sum, all, rest_is)

module _ (k w positions : ℕ) (pe : positions ≡ 2 ^ slash_bits k - 1) where
  position_is : bit_and (w / 2 ^ (k - 1)) positions ≡ slash_position k w
  unfolding slash_position bits
  position_is = ap (bit_and (w / 2 ^ (k - 1))) pe ∙ and_mask (w / 2 ^ (k - 1)) (slash_bits k)

  pub code_special : 2 ≤ k → (way : Way) → k - 1 ≤ bit_and (w / 2 ^ (k - 1)) positions → w ≡ rearranged (way_of way) k w
  code_special m way h = sym (rearranged_special (way_of way) k w (omega (arith, h, position_is, m)))

  pub code_field : (way : Way) → bit_and (w / 2 ^ (k - 1)) positions < k - 1 → (r : ℕ)
      → r ≡ with_field k w (way_of way k (bit_and (w / 2 ^ (k - 1)) positions) (bits 0 (k - 1) w)) → r ≡ rearranged (way_of way) k w
  code_field way i r re =
      let h : slash_position k w ≤ k - 2 = omega (arith, i, position_is) in
      re ∙ ap (λ (e : ℕ). with_field k w (way_of way k e (bits 0 (k - 1) w))) position_is ∙ sym (rearranged_field (way_of way) k w h)

module _ (last p : ℕ) where
  pub parting_last : p ≡ last → 0 ≡ parting_at last p
  unfolding parting_at
  parting_last e = rw (eq-eqb _ _ e) refl

  pub parting_other : (p ≡ last → ⊥) → p ≡ parting_at last p
  unfolding parting_at
  parting_other n = rw (ne_eqb _ _ n) refl

position_lt : (k w : ℕ) → slash_position k w < 2 ^ slash_bits k
unfolding slash_position bits
position_lt k w = mod-lt (w / 2 ^ (k - 1)) (pow_pos (slash_bits k))

-- a slash position that is the last is defined, and one between those of fractions and the last isn't
module _ (k w positions : ℕ) (pe : positions ≡ 2 ^ slash_bits k - 1) where
  last_defined : 2 ≤ k → slash_position k w ≡ positions → slash_undefined k w ≡ false
  unfolding slash_undefined
  last_defined h e =
      let past : 2 ^ slash_bits k - 2 < slash_position k w = omega (arith, e, pe, slash_bits_enough k) in
      rw (lt-leb _ _ past) (and-false (leb (k - 1) (slash_position k w)))

  undefined_true : (slash_position k w ≡ positions → ⊥) → k - 2 < slash_position k w → slash_undefined k w ≡ true
  unfolding slash_undefined
  undefined_true n l =
      let under : slash_position k w < 2 ^ slash_bits k = position_lt k w in
      let first : k - 1 ≤ slash_position k w = omega arith in
      let before : slash_position k w ≤ 2 ^ slash_bits k - 2 = omega (arith, under, pe, n) in
      rw (le-leb _ _ first, le-leb _ _ before) refl

-- ---- what the two tests of a word tell

module _ (f : Format) (h : (known f ≡ true) × (is_fixed f ≡ false)) (w : ℕ) where
  floating : f.kind ≡ 1 → ⊥
  floating e = false≢true (sym h.1 ∙ eq-eqb _ _ e)

  some_k : (2 ≤ f.k) × (f.k ≤ 32)
  some_k = known_k f h.0

  -- the bits above the field are those of a sign, a mark and a slash position
  above_width : is_above (width_of f) w ≡ leb 2 (w / 2 ^ (f.k - 1) / 2 ^ (slash_bits f.k + 1))
  above_width =
      let p : (width : ℕ) → width ≡ f.k - 1 + (slash_bits f.k + 1) + 1 → is_above width w ≡ leb 2 (w / 2 ^ (f.k - 1 + (slash_bits f.k + 1))) =
      λ width e. sym (above_is width w (omega arith)) ∙ ap (λ (i : ℕ). leb 2 (w / 2 ^ i)) (omega arith) in
      let e : width_of f ≡ f.k - 1 + (slash_bits f.k + 1) + 1 = floating_width f floating ∙ omega (arith, some_k.0) in
      p (width_of f) e ∙ ap (λ (x : ℕ). leb 2 x) (sym (shr-shr w (f.k - 1) (slash_bits f.k + 1)))

  bound : 4 * (2 ^ slash_bits f.k - 1) + 3 < 2 * 2 ^ (slash_bits f.k + 1)
  bound = omega (arith, pow-add 2 (slash_bits f.k) 1, pow_pos (slash_bits f.k))

  within : w / 2 ^ (f.k - 1) ≤ 4 * (2 ^ slash_bits f.k - 1) + 3 → is_above (width_of f) w ≡ false
  within l =
      let s : w / 2 ^ (f.k - 1) / 2 ^ (slash_bits f.k + 1) < 2 = (div-lt_iff_lt-mul (pow_pos (slash_bits f.k + 1))).1 (omega (arith, l, bound)) in
      above_width ∙ lt-leb _ _ s

  pub good_checked : Good f.k w → done tt ≡ check_word f w
  good_checked g = check_floating_lem f w h.0 (within g.in_width) floating g.is_defined

  module _ (positions : ℕ) (pe : positions ≡ 2 ^ slash_bits f.k - 1) (way : Way) (c : done tt ≡ check_floating f) where
    -- stop 4
    pub wide_refused : 4 * positions + 3 < w / 2 ^ (f.k - 1) → stop 4 0 ≡ rearrange (way_of way) f w
    wide_refused l =
        let t : 2 ≤ w / 2 ^ (f.k - 1) / 2 ^ (slash_bits f.k + 1) =
        (le-div_iff_mul-le {k = 2 ^ (slash_bits f.k + 1)} {x = 2} {y = w / 2 ^ (f.k - 1)} (pow_pos (slash_bits f.k + 1))).1 (omega (arith, l, pe, pow-add 2 (slash_bits f.k) 1, pow_pos (slash_bits f.k))) in
        rearrange_word (way_of way) f w c (check_above f w h.0 (above_width ∙ le-leb _ _ t))

    module _ (a : w / 2 ^ (f.k - 1) ≤ 4 * positions + 3) (e : ℕ) (ee : e ≡ parting_at positions (bit_and (w / 2 ^ (f.k - 1)) positions)) where
      at_position : e ≡ parting_at positions (slash_position f.k w)
      at_position = ee ∙ ap (parting_at positions) (position_is f.k w positions pe)

      by_position : (X : Type 0) → (slash_position f.k w ≡ positions → e ≡ 0 → X) → ((slash_position f.k w ≡ positions → ⊥) → e ≡ slash_position f.k w → X) → X
      by_position X of_last of_other = go (eqb (slash_position f.k w) positions) refl
        where
          go : (b : Bool) → eqb (slash_position f.k w) positions ≡ b → X
          go true q = let z : slash_position f.k w ≡ positions = eqb-true _ _ q in of_last z (at_position ∙ sym (parting_last positions (slash_position f.k w) z))
          go false q = let z : slash_position f.k w ≡ positions → ⊥ = eqb-false _ _ q in of_other z (at_position ∙ sym (parting_other positions (slash_position f.k w) z))

      -- stop 5
      pub position_refused : f.k - 2 < e → stop 5 0 ≡ rearrange (way_of way) f w
      position_refused l =
          by_position (stop 5 0 ≡ rearrange (way_of way) f w)
          (λ m z. absurd (omega (arith, l, z)))
          (λ m z. rearrange_word (way_of way) f w c (check_undefined f w h.0 (within (omega (arith, a, pe))) floating (undefined_true f.k w positions pe m (omega (arith, l, z)))))

      pub position_done : e ≤ f.k - 2 → (r : ℕ) → r ≡ with_field f.k w (way_of way f.k e (bits 0 (f.k - 1) w)) → done r ≡ rearrange (way_of way) f w
      position_done l r re = by_position (done r ≡ rearrange (way_of way) f w) of_last of_other
        where
          at : {i : ℕ} → e ≡ i → r ≡ with_field f.k w (way_of way f.k i (bits 0 (f.k - 1) w))
          at z = re ∙ ap (λ (x : ℕ). with_field f.k w (way_of way f.k x (bits 0 (f.k - 1) w))) z

          of_last : slash_position f.k w ≡ positions → e ≡ 0 → done r ≡ rearrange (way_of way) f w
          of_last m z =
              let last : f.k - 2 < slash_position f.k w = omega (arith, m, pe, slash_bits_enough f.k, some_k.0) in
              let same : r ≡ w = at z ∙ ap (with_field f.k w) (way_zero way f.k (bits 0 (f.k - 1) w) (field_lt f.k w)) ∙ with_is f.k w (bits 0 (f.k - 1) w) ∙ whole f.k w in
              rearrange_done (way_of way) f w c (good_checked (record { in_width = omega (arith, a, pe); is_defined = last_defined f.k w positions pe some_k.0 m })) (same ∙ sym (rearranged_special (way_of way) f.k w last))

          of_other : (slash_position f.k w ≡ positions → ⊥) → e ≡ slash_position f.k w → done r ≡ rearrange (way_of way) f w
          of_other m z =
              let low-position : slash_position f.k w ≤ f.k - 2 = omega (arith, l, z) in
              let before : slash_position f.k w < f.k - 1 = omega (arith, low-position, some_k.0) in
              rearrange_done (way_of way) f w c (good_checked (record { in_width = omega (arith, a, pe); is_defined = sym (undefined_below f.k w (slash_position f.k w) refl before) }))
              (at z ∙ sym (rearranged_field (way_of way) f.k w low-position))

-- ---- a vector's words, joined

or_left : (a b : ℕ) → a ≤ bit_or a b
or_left a b = omega (arith, or_add_and a b, and_le_r a b)

or_right : (a b : ℕ) → b ≤ bit_or a b
or_right a b = omega (arith, or_add_and a b, and_le_l a b)

module _ (k above positions : ℕ) (h : 2 ≤ k) (m : k ≤ 32) (pe : positions ≡ 2 ^ slash_bits k - 1) where
  pub next_fits : bit_and above positions + 1 < 2 ^ 64
  next_fits = omega (arith, and_le_r above positions, few k positions m pe)

  pub more_fits : positions + 1 < 2 ^ 64
  more_fits = omega (arith, few k positions m pe)

  pub k_most : k ≤ positions + 1
  k_most = omega (arith, slash_bits_enough k, pe, pow_pos (slash_bits k))

  pub raised_is : bit_and (bit_and above positions + 1) positions + (positions + 1 - k) ≡ raised_next k above
  unfolding raised_next
  raised_is =
      let p : positions + 1 ≡ 2 ^ slash_bits k = omega (arith, pe, pow_pos (slash_bits k)) in
      let e : bit_and above positions ≡ above % 2 ^ slash_bits k = ap (bit_and above) pe ∙ and_mask above (slash_bits k) in
      let n : bit_and (bit_and above positions + 1) positions ≡ (above % 2 ^ slash_bits k + 1) % 2 ^ slash_bits k =
      ap₂ (λ (x y : ℕ). bit_and (x + 1) y) e pe ∙ and_mask (above % 2 ^ slash_bits k + 1) (slash_bits k) in
      ap₂ (λ (x y : ℕ). x + (y - k)) n p

  pub raised_fits : bit_and (bit_and above positions + 1) positions + (positions + 1 - k) < 2 ^ 64
  raised_fits = omega (arith, and_le_r (bit_and above positions + 1) positions, few k positions m pe)

module _ (k : ℕ) (words : List ℕ) (above next i : ℕ) (s : Joined k words above next i) where
  pub joined_next : i < length words → (r : ℕ) → r ≡ raised_next k (get_or words i 0 / 2 ^ (k - 1))
      → Joined k words (bit_or above (get_or words i 0 / 2 ^ (k - 1))) (bit_or next r) (i + 1)
  joined_next l r re = (omega arith, all)
    where
      all : (j : ℕ) → j < i + 1 → (get_or words j 0 / 2 ^ (k - 1) ≤ bit_or above (get_or words i 0 / 2 ^ (k - 1))) × (raised_next k (get_or words j 0 / 2 ^ (k - 1)) ≤ bit_or next r)
      all j jl = go (dec_le (suc j) i)
        where
          go : Dec (suc j ≤ i) → (get_or words j 0 / 2 ^ (k - 1) ≤ bit_or above (get_or words i 0 / 2 ^ (k - 1))) × (raised_next k (get_or words j 0 / 2 ^ (k - 1)) ≤ bit_or next r)
          go (yes b) = (le_trans (s.1 j b).0 (or_left above (get_or words i 0 / 2 ^ (k - 1))), le_trans (s.1 j b).1 (or_left next r))
          go (no n) =
              let e : j ≡ i = omega arith in
              rw e (or_right above (get_or words i 0 / 2 ^ (k - 1)), subst (λ (x : ℕ). x ≤ bit_or next r) re (or_right next r))

-- where what was joined is small, each word is good
module _ (k w positions : ℕ) (h : 2 ≤ k) (pe : positions ≡ 2 ^ slash_bits k - 1) where
  next_defined : raised_next k (w / 2 ^ (k - 1)) ≤ positions → slash_undefined k w ≡ false
  unfolding raised_next slash_undefined slash_position bits
  next_defined l = go (dec_le (2 ^ slash_bits k) (w / 2 ^ (k - 1) % 2 ^ slash_bits k + 1))
    where
      P : ℕ
      P = 2 ^ slash_bits k

      e : ℕ
      e = w / 2 ^ (k - 1) % 2 ^ slash_bits k

      below : w / 2 ^ (k - 1) % 2 ^ slash_bits k < 2 ^ slash_bits k
      below = mod-lt (w / 2 ^ (k - 1)) (pow_pos (slash_bits k))

      go : Dec (2 ^ slash_bits k ≤ w / 2 ^ (k - 1) % 2 ^ slash_bits k + 1) → (leb (k - 1) (w / 2 ^ (k - 1) % 2 ^ slash_bits k) && leb (w / 2 ^ (k - 1) % 2 ^ slash_bits k) (2 ^ slash_bits k - 2)) ≡ false
      go (yes t) =
          let last : 2 ^ slash_bits k - 2 < w / 2 ^ (k - 1) % 2 ^ slash_bits k = omega (arith, t, slash_bits_enough k) in
          rw (lt-leb _ _ last) (and-false (leb (k - 1) (w / 2 ^ (k - 1) % 2 ^ slash_bits k)))
      go (no t) =
          let n : (w / 2 ^ (k - 1) % 2 ^ slash_bits k + 1) % 2 ^ slash_bits k ≡ w / 2 ^ (k - 1) % 2 ^ slash_bits k + 1 = mod-eq_of_lt (omega arith) in
          let first : w / 2 ^ (k - 1) % 2 ^ slash_bits k < k - 1 = omega (arith, l, n, pe, slash_bits_enough k) in
          rw (lt-leb _ _ first) refl

pub joined_good : (k positions above next : ℕ) (words : List ℕ) → 2 ≤ k → positions ≡ 2 ^ slash_bits k - 1 → (i : ℕ) → Joined k words above next i → length words ≤ i
    → (leb above (4 * positions + 3) && leb next positions) ≡ true → AllGood k words
joined_good k positions above next words h pe i s end t j jl =
    let both = and_parts (leb above (4 * positions + 3)) (leb next positions) t in
    let small = s.1 j (omega arith) in
    let a : get_or words j 0 / 2 ^ (k - 1) ≤ 4 * (2 ^ slash_bits k - 1) + 3 = omega (arith, small.0, leb-true above (4 * positions + 3) both.0, pe) in
    record { in_width = a; is_defined = next_defined k (get_or words j 0) positions h pe (le_trans small.1 (leb-true _ _ both.1)) }

-- ---- the last slash position

module _ (k : ℕ) (h : 2 ≤ k) (m : k ≤ 32) where
  -- L is the length of k - 1 in bits
  bits_long : (n : ℕ) → k - 1 < 2 ^ n → 2 ^ n ≤ 2 * (k - 1) + 1 → n ≡ slash_bits k
  unfolding slash_bits
  bits_long n l u = least_unique (record { enough = omega (arith, l); least = shortest }) (least_power_lem k)
    where
      shortest : (j : ℕ) → k ≤ 2 ^ j → n ≤ j
      shortest j i = go (dec_le n j)
        where
          go : Dec (n ≤ j) → n ≤ j
          go (yes q) = q
          go (no q) = let s : suc j ≤ n = omega arith in absurd (omega (arith, i, u, pow_mono s, pow-suc 2 j))

  pub zeros_few : count_leading_zeros 64 (k - 1) < 64
  zeros_few = let t = leading_top 64 (k - 1) (omega arith) (omega arith) in omega (arith, t.1)

  pub positions_are : 18446744073709551615 / 2 ^ count_leading_zeros 64 (k - 1) ≡ 2 ^ slash_bits k - 1
  positions_are =
      let t = leading_length 64 (k - 1) (omega arith) in
      let n : ℕ = t.0 in
      let z : ℕ = count_leading_zeros 64 (k - 1) in
      let parts : n + z ≡ 64 = omega (arith, t.1) in
      let all : 2 ^ (n + z) - 1 ≡ (2 ^ n - 1) * 2 ^ z + (2 ^ z - 1) = ones_split n z in
      ap (λ (i : ℕ). (2 ^ i - 1) / 2 ^ z) (sym parts) ∙ ap (λ (x : ℕ). x / 2 ^ z) all ∙ high (2 ^ n - 1) z (ones_lt z) ∙ ap (λ (i : ℕ). 2 ^ i - 1) (bits_long n t.2 t.3)
