-- Twisted storage. Assumes nothing.
-- `twist_undone`, `untwist_undone`: each way undoes the other wherever it isn't stopped. `twist_one_to_one`, `untwist_one_to_one`: so no
-- two words become one.
-- `numerator_right`: the numerator stands in the lowest bits as it is. `denominator_left`, `lowest_leftmost`: the denominator's bits, turned, are
-- the leftmost. `example`, `example_words`: the paper's. `fixed_stops`: another.
use mathlib.Core.Path.{◌≡◌, refl, sym, ap, ap₂, ◌∙◌, subst}
use mathlib.Core.Bool.{Bool, true, false}
use Prim.Native.Nat.{ℕ, ◌+◌, ◌-◌, ◌*◌, ◌/◌, ◌%◌, ◌^◌, ◌≤◌, ◌<◌}
use native.Mathlib.Omega.{arith}
use native.Mathlib.Decide.{dec_le}
use native.Mathlib.Nat.{mod-lt, mod-eq_of_lt, div-lt_iff_lt-mul, div-one}
use lib.Dec.{leb, eqb}
use lib.Arith.{digits_lt}
use lib.Pow.{pow_pos, pow-add, split, high, low, shr-shr}
use borrow.Author.Tests.{le-leb, lt-leb, eq-eqb, ne_eqb, eqb-true, eqb-false}
use Rattle.std.specs.Prelude.{Ok, Err}
use Rattle.slash.specs.declared.answer.Stop.{Stop}
use Rattle.slash.specs.Answers.{Outcome, stop, done}
use Rattle.slash.specs.Bits.{least_from, least_power, bits, bit}
use Rattle.slash.specs.Formats.{is_fixed, known, k_fits, check_format, slash_bits, width_of, format_of}
use Rattle.slash.specs.Reading.{slash_position, slash_undefined, floating_fraction, floating_number, number_of, is_above, check_word}
use Rattle.slash.specs.declared.format.Format.{Format}
use Rattle.slash.specs.declared.number.Value.TheVariants.{Fraction}
use Rattle.slash.proofs.AnswerLaws.{no_stop, done_inj, then_stop, then_done}
use Rattle.slash.proofs.FormatLaws.{format_refused, good_known, known_k}
use Rattle.slash.proofs.ReadingLaws.{above_is}
use Rattle.twisting.specs.Twisting.{turned, twisted_field, untwisted_field, with_field, rearranged, check_floating, rearrange, twist_word, untwist_word}
use Rattle.twisting.proofs.TurningLaws.{turned_lt, turned_mod, turned_twice, turned_bit}

-- ---- examples

-- 355/113 in k = 26, both ways
pub example : (twisted_field 26 6 22769 ≡ 18350435) × (untwisted_field 26 6 18350435 ≡ 22769)
unfolding twisted_field untwisted_field turned
example = (refl, refl)

-- the same of the word that says 355/113; and the infinity whose field, its message, is 2 stays
pub example_words : ((number_of (format_of 2 26) 201349361).value ≡ Fraction (record { negative = false; numerator = 355; denominator = 113 }))
    × (twist_word (format_of 2 26) 201349361 ≡ done 219677027) × (untwist_word (format_of 2 26) 219677027 ≡ done 201349361)
    × (twist_word (format_of 2 26) 1040187394 ≡ done 1040187394)
unfolding number_of floating_number floating_fraction twist_word untwist_word rearrange check_floating check_word check_format known k_fits is_above width_of slash_undefined rearranged slash_position slash_bits least_power least_from bits bit with_field twisted_field untwisted_field turned
example_words = (refl, refl, refl, refl)

-- a fixed format stops with 1, before the word is looked at: here it has a bit above its width
pub fixed_stops : (twist_word (format_of 1 15) 4294967296 ≡ stop 1 0) × (untwist_word (format_of 1 15) 4294967296 ≡ stop 1 0)
unfolding twist_word untwist_word rearrange check_floating check_word check_format known k_fits is_above width_of
fixed_stops = (refl, refl)

-- ---- the field: e bits of the denominator, and r = k - 1 - e of the numerator

module _ (k e : ℕ) (h : e + 2 ≤ k) where
  pub width : (j : ℕ) → j ≡ k - 1 - e → k - 1 ≡ e + j
  width j je = omega arith

  field_width : 2 ^ (k - 1) ≡ 2 ^ e * 2 ^ (k - 1 - e)
  field_width = ap (λ (j : ℕ). 2 ^ j) (width (k - 1 - e) refl) ∙ pow-add 2 e (k - 1 - e)

  module _ (f : ℕ) (fl : f < 2 ^ (k - 1)) where
    left_lt : f / 2 ^ (k - 1 - e) < 2 ^ e
    left_lt = (div-lt_iff_lt-mul (pow_pos (k - 1 - e))).1 (subst (λ (x : ℕ). f < x) field_width fl)

    numerator_lt : f / 2 ^ e < 2 ^ (k - 1 - e)
    numerator_lt =
        let l : f < 2 ^ (k - 1 - e) * 2 ^ e = omega (arith, field_width) in
        (div-lt_iff_lt-mul (pow_pos e)).1 l

    -- the paper's sentence of the field, in two halves
    pub numerator_right : twisted_field k e f % 2 ^ (k - 1 - e) ≡ f / 2 ^ e
    unfolding twisted_field
    numerator_right = low (turned e (f % 2 ^ e)) (k - 1 - e) numerator_lt

    pub denominator_left : twisted_field k e f / 2 ^ (k - 1 - e) ≡ turned e (f % 2 ^ e)
    unfolding twisted_field
    denominator_left = high (turned e (f % 2 ^ e)) (k - 1 - e) numerator_lt

    pub twisted_lt : twisted_field k e f < 2 ^ (k - 1)
    unfolding twisted_field
    twisted_lt =
        let all : turned e (f % 2 ^ e) * 2 ^ (k - 1 - e) + f / 2 ^ e < 2 ^ e * 2 ^ (k - 1 - e) = digits_lt (turned_lt e (f % 2 ^ e)) numerator_lt in
        omega (arith, field_width)

    pub untwisted_lt : untwisted_field k e f < 2 ^ (k - 1)
    unfolding untwisted_field
    untwisted_lt =
        let all : f % 2 ^ (k - 1 - e) * 2 ^ e + turned e (f / 2 ^ (k - 1 - e)) < 2 ^ (k - 1 - e) * 2 ^ e = digits_lt (mod-lt f (pow_pos (k - 1 - e))) (turned_lt e (f / 2 ^ (k - 1 - e))) in
        omega (arith, field_width)

    pub field_back : untwisted_field k e (twisted_field k e f) ≡ f
    unfolding untwisted_field
    field_back =
        let m : turned e (turned e (f % 2 ^ e)) ≡ f % 2 ^ e = turned_twice e (f % 2 ^ e) ∙ mod-eq_of_lt (mod-lt f (pow_pos e)) in
        ap₂ (λ (x y : ℕ). x * 2 ^ e + y) numerator_right (ap (turned e) denominator_left ∙ m) ∙ split f e

    pub field_again : twisted_field k e (untwisted_field k e f) ≡ f
    unfolding untwisted_field twisted_field
    field_again =
        let t : turned e (f / 2 ^ (k - 1 - e)) < 2 ^ e = turned_lt e (f / 2 ^ (k - 1 - e)) in
        let m : turned e (turned e (f / 2 ^ (k - 1 - e))) ≡ f / 2 ^ (k - 1 - e) = turned_twice e (f / 2 ^ (k - 1 - e)) ∙ mod-eq_of_lt left_lt in
        ap₂ (λ (x y : ℕ). turned e x * 2 ^ (k - 1 - e) + y) (low (f % 2 ^ (k - 1 - e)) e t) (high (f % 2 ^ (k - 1 - e)) e t)
        ∙ ap (λ (x : ℕ). x * 2 ^ (k - 1 - e) + f % 2 ^ (k - 1 - e)) m ∙ split f (k - 1 - e)

    -- bit i of the denominator, of which the leading one is bit e, stands at bit k - 2 - i: the lowest leftmost
    pub lowest_leftmost : (i j : ℕ) → i + j + 1 ≡ e → twisted_field k e f / 2 ^ (k - 1 - e + j) % 2 ≡ f / 2 ^ i % 2
    lowest_leftmost i j je =
        let t : twisted_field k e f / 2 ^ (k - 1 - e + j) ≡ turned e f / 2 ^ j =
        sym (shr-shr (twisted_field k e f) (k - 1 - e) j) ∙ ap (λ (x : ℕ). x / 2 ^ j) (denominator_left ∙ turned_mod e f) in
        ap (λ (x : ℕ). x % 2) t ∙ turned_bit e j i f (omega arith)

-- ---- the word: what stands above the field stays

module _ (k w f : ℕ) (fl : f < 2 ^ (k - 1)) where
  above_kept : with_field k w f / 2 ^ (k - 1) ≡ w / 2 ^ (k - 1)
  unfolding with_field
  above_kept = high (w / 2 ^ (k - 1)) (k - 1) fl

  pub field_new : bits 0 (k - 1) (with_field k w f) ≡ f
  unfolding bits with_field
  field_new = ap (λ (x : ℕ). x % 2 ^ (k - 1)) (div-one (w / 2 ^ (k - 1) * 2 ^ (k - 1) + f)) ∙ low (w / 2 ^ (k - 1)) (k - 1) fl

  from_kept : (j : ℕ) → with_field k w f / 2 ^ (k - 1 + j) ≡ w / 2 ^ (k - 1 + j)
  from_kept j = sym (shr-shr (with_field k w f) (k - 1) j) ∙ ap (λ (x : ℕ). x / 2 ^ j) above_kept ∙ shr-shr w (k - 1) j

  pub position_kept : slash_position k (with_field k w f) ≡ slash_position k w
  unfolding slash_position bits
  position_kept = ap (λ (x : ℕ). x % 2 ^ slash_bits k) above_kept

  pub bit_kept : (j : ℕ) → bit (k - 1 + j) (with_field k w f) ≡ bit (k - 1 + j) w
  unfolding bit bits
  bit_kept j = ap (λ (x : ℕ). eqb (x % 2) 1) (from_kept j)

  above_same : (j : ℕ) → is_above (k - 1 + j + 1) (with_field k w f) ≡ is_above (k - 1 + j + 1) w
  above_same j =
      let p : (x : ℕ) → leb 2 (x / 2 ^ (k - 1 + j)) ≡ is_above (k - 1 + j + 1) x = λ x. ap (λ (i : ℕ). leb 2 (x / 2 ^ i)) (omega arith) ∙ above_is (k - 1 + j + 1) x (omega arith) in
      sym (p (with_field k w f)) ∙ ap (λ (x : ℕ). leb 2 x) (from_kept j) ∙ p w

pub with_is : (k w f : ℕ) → with_field k w f ≡ w / 2 ^ (k - 1) * 2 ^ (k - 1) + f
unfolding with_field
with_is k w f = refl

-- and another field after it
over_again : (k w g : ℕ) → g < 2 ^ (k - 1) → (f : ℕ) → with_field k (with_field k w g) f ≡ w / 2 ^ (k - 1) * 2 ^ (k - 1) + f
over_again k w g gl f = with_is k (with_field k w g) f ∙ ap (λ (x : ℕ). x * 2 ^ (k - 1) + f) (above_kept k w g gl)

-- the field of a word fits
pub field_lt : (k w : ℕ) → bits 0 (k - 1) w < 2 ^ (k - 1)
unfolding bits
field_lt k w = mod-lt (w / 1) (pow_pos (k - 1))

pub whole : (k w : ℕ) → w / 2 ^ (k - 1) * 2 ^ (k - 1) + bits 0 (k - 1) w ≡ w
unfolding bits
whole k w = ap (λ (x : ℕ). w / 2 ^ (k - 1) * 2 ^ (k - 1) + x % 2 ^ (k - 1)) (div-one w) ∙ split w (k - 1)

-- ---- a word either way

module _ (way : ℕ → ℕ → ℕ → ℕ) (k w : ℕ) where
  pub rearranged_field : slash_position k w ≤ k - 2 → rearranged way k w ≡ with_field k w (way k (slash_position k w) (bits 0 (k - 1) w))
  unfolding rearranged
  rearranged_field h = rw (le-leb _ _ h) refl

  pub rearranged_special : k - 2 < slash_position k w → rearranged way k w ≡ w
  unfolding rearranged
  rearranged_special h = rw (lt-leb _ _ h) refl

-- a way that makes fields of the same width
abbrev pub Fits : (ℕ → ℕ → ℕ → ℕ) → Type 0
Fits way = (k e f : ℕ) → e + 2 ≤ k → f < 2 ^ (k - 1) → way k e f < 2 ^ (k - 1)

-- a way that takes back what another did
abbrev pub TakesBack : (back way : ℕ → ℕ → ℕ → ℕ) → Type 0
TakesBack back way = (k e f : ℕ) → e + 2 ≤ k → f < 2 ^ (k - 1) → back k e (way k e f) ≡ f

module _ (way : ℕ → ℕ → ℕ → ℕ) (fits : Fits way) (k w : ℕ) (hk : 2 ≤ k) where
  -- what is kept of every word: its slash position, its sign and its mark, and whether it is too wide
  new_lt : slash_position k w ≤ k - 2 → way k (slash_position k w) (bits 0 (k - 1) w) < 2 ^ (k - 1)
  new_lt h = fits k (slash_position k w) (bits 0 (k - 1) w) (omega arith) (field_lt k w)

  kept : {A : Type 0} (F : ℕ → A) → ((f : ℕ) → f < 2 ^ (k - 1) → F (with_field k w f) ≡ F w) → F (rearranged way k w) ≡ F w
  kept F same = go (dec_le (slash_position k w) (k - 2))
    where
      go : Dec (slash_position k w ≤ k - 2) → F (rearranged way k w) ≡ F w
      go (yes h) = ap F (rearranged_field way k w h) ∙ same _ (new_lt h)
      go (no h) = ap F (rearranged_special way k w (omega arith))

  position_same : slash_position k (rearranged way k w) ≡ slash_position k w
  position_same = kept (slash_position k) (position_kept k w)

  above_stays : (j : ℕ) → is_above (k - 1 + j + 1) (rearranged way k w) ≡ is_above (k - 1 + j + 1) w
  above_stays j = kept (is_above (k - 1 + j + 1)) (λ f l. above_same k w f l j)

  module _ (back : ℕ → ℕ → ℕ → ℕ) (undo : TakesBack back way) where
    taken_back : rearranged back k (rearranged way k w) ≡ w
    taken_back = go (dec_le (slash_position k w) (k - 2))
      where
        go : Dec (slash_position k w ≤ k - 2) → rearranged back k (rearranged way k w) ≡ w
        go (no h) =
            let l : k - 2 < slash_position k w = omega arith in
            ap (rearranged back k) (rearranged_special way k w l) ∙ rearranged_special back k w l
        go (yes h) =
            let f : ℕ = bits 0 (k - 1) w in
            let g : ℕ = way k (slash_position k w) f in
            let gl : g < 2 ^ (k - 1) = new_lt h in
            let p : slash_position k (with_field k w g) ≡ slash_position k w = position_kept k w g gl in
            let b : slash_position k (with_field k w g) ≤ k - 2 = rw p h in
            let u : back k (slash_position k w) g ≡ f = undo k (slash_position k w) f (omega arith) (field_lt k w) in
            let v : back k (slash_position k (with_field k w g)) (bits 0 (k - 1) (with_field k w g)) ≡ f = ap₂ (back k) p (field_new k w g gl) ∙ u in
            ap (rearranged back k) (rearranged_field way k w h)
            ∙ rearranged_field back k (with_field k w g) b ∙ ap (with_field k (with_field k w g)) v ∙ over_again k w g gl f ∙ whole k w

-- ---- the checks, and both ways

kind_unknown : (f : Format) → eqb f.kind 1 ≡ false → eqb f.kind 2 ≡ false → known f ≡ false
unfolding known
kind_unknown f a b = rw (a, b) refl

two_not_one : ◌≡◌ {A = ℕ} 2 1 → ⊥
two_not_one e = omega arith

module _ (f : Format) where
  pub floating_fixed : f.kind ≡ 1 → stop 1 0 ≡ check_floating f
  unfolding check_floating
  floating_fixed e = rw (eq-eqb _ _ e) refl

  pub floating_other : (f.kind ≡ 1 → ⊥) → check_format f ≡ check_floating f
  unfolding check_floating
  floating_other n = rw (ne_eqb _ _ n) refl

  -- by what the code asks
  pub not_floating : (f.kind ≡ 2 → ⊥) → stop 1 0 ≡ check_floating f
  not_floating n = go (eqb f.kind 1) refl
    where
      go : (b : Bool) → eqb f.kind 1 ≡ b → stop 1 0 ≡ check_floating f
      go true e = floating_fixed (eqb-true _ _ e)
      go false e = format_refused f (kind_unknown f e (ne_eqb _ _ n)) ∙ floating_other (eqb-false _ _ e)

  pub is_floating_lem : f.kind ≡ 2 → check_format f ≡ check_floating f
  is_floating_lem e = floating_other (λ i. two_not_one (sym e ∙ i))

  -- what it leaves is a known floating format
  pub floating_known : done tt ≡ check_floating f → (known f ≡ true) × (f.kind ≡ 1 → ⊥)
  floating_known e =
      let n : f.kind ≡ 1 → ⊥ = λ h. no_stop (floating_fixed h ∙ sym e) in
      (good_known f (e ∙ sym (floating_other n)), n)

  pub floating_is : done tt ≡ check_floating f → (known f ≡ true) × (is_fixed f ≡ false)
  floating_is e = ((floating_known e).0, ne_eqb _ _ (floating_known e).1)

  pub floating_k : done tt ≡ check_floating f → (2 ≤ f.k) × (f.k ≤ 32)
  floating_k e = known_k f (floating_known e).0

  pub floating_width : (f.kind ≡ 1 → ⊥) → width_of f ≡ f.k + slash_bits f.k + 1
  unfolding width_of
  floating_width n = rw (ne_eqb _ _ n) refl

module _ (way : ℕ → ℕ → ℕ → ℕ) (f : Format) (w : ℕ) where
  pub rearrange_format : {s : Stop} → Err s ≡ check_floating f → Err s ≡ rearrange way f w
  unfolding rearrange
  rearrange_format e = then_stop _ e

  pub rearrange_word : done tt ≡ check_floating f → {s : Stop} → Err s ≡ check_word f w → Err s ≡ rearrange way f w
  unfolding rearrange
  rearrange_word c e = then_done _ c (then_stop _ e)

  pub rearrange_done : done tt ≡ check_floating f → done tt ≡ check_word f w → {r : ℕ} → r ≡ rearranged way f.k w → done r ≡ rearrange way f w
  unfolding rearrange
  rearrange_done c e h = then_done _ c (then_done _ e (ap done h))

  -- and back
  pub record Made (v : ℕ) : Type 0 where
    pub format_good : done tt ≡ check_floating f
    pub word_good : check_word f w ≡ done tt
    pub made : v ≡ rearranged way f.k w

  pub rearrange_made : {v : ℕ} → rearrange way f w ≡ done v → Made v
  unfolding rearrange
  rearrange_made {v} e = go (check_floating f) refl (check_word f w) refl
    where
      go : (c : Outcome (Unit {0})) → check_floating f ≡ c → (d : Outcome (Unit {0})) → check_word f w ≡ d → Made v
      go (Err s) ce d de = absurd (no_stop (rearrange_format (sym ce) ∙ e))
      go (Ok u) ce (Err s) de = absurd (no_stop (rearrange_word (sym ce) (sym de) ∙ e))
      go (Ok u) ce (Ok t) de = record { format_good = sym ce; word_good = de; made = done_inj (sym e ∙ sym (rearrange_done (sym ce) (sym de) refl)) }

  -- a rearranged word is checked as the word is
  pub checked_alike : Fits way → done tt ≡ check_floating f → check_word f (rearranged way f.k w) ≡ check_word f w
  unfolding check_word slash_undefined
  checked_alike fits c =
      let known-floating = floating_known f c in
      let k₂ : 2 ≤ f.k = (known_k f known-floating.0).0 in
      let wide : width_of f ≡ f.k - 1 + (slash_bits f.k + 1) + 1 = floating_width f known-floating.1 ∙ omega arith in
      let a : is_above (width_of f) (rearranged way f.k w) ≡ is_above (width_of f) w =
      ap (λ (j : ℕ). is_above j (rearranged way f.k w)) wide ∙ above_stays way fits f.k w k₂ (slash_bits f.k + 1) ∙ ap (λ (j : ℕ). is_above j w) (sym wide) in
      rw (a, position_same way fits f.k w k₂) refl

module _ (way back : ℕ → ℕ → ℕ → ℕ) (fits : Fits way) (undo : TakesBack back way) (f : Format) where
  undone : {w v : ℕ} → rearrange way f w ≡ done v → rearrange back f v ≡ done w
  undone {w} {v} e =
      let m = rearrange_made way f w e in
      let known-floating = floating_known f m.format_good in
      let k₂ : 2 ≤ f.k = (known_k f known-floating.0).0 in
      let c : check_word f v ≡ done tt = ap (check_word f) m.made ∙ checked_alike way f w fits m.format_good ∙ m.word_good in
      let b : w ≡ rearranged back f.k v = sym (ap (rearranged back f.k) m.made ∙ taken_back way fits f.k w k₂ back undo) in
      sym (rearrange_done back f v m.format_good (sym c) b)

-- ---- the theorems

module _ (f : Format) where
  pub twist_undone : {w v : ℕ} → twist_word f w ≡ done v → untwist_word f v ≡ done w
  unfolding twist_word untwist_word
  twist_undone = undone twisted_field untwisted_field (λ k e g h l. twisted_lt k e h g l) (λ k e g h l. field_back k e h g l) f

  pub untwist_undone : {w v : ℕ} → untwist_word f w ≡ done v → twist_word f v ≡ done w
  unfolding twist_word untwist_word
  untwist_undone = undone untwisted_field twisted_field (λ k e g h l. untwisted_lt k e h g l) (λ k e g h l. field_again k e h g l) f

  pub twist_one_to_one : {w x v : ℕ} → twist_word f w ≡ done v → twist_word f x ≡ done v → w ≡ x
  twist_one_to_one a b = done_inj (sym (twist_undone a) ∙ twist_undone b)

  pub untwist_one_to_one : {w x v : ℕ} → untwist_word f w ≡ done v → untwist_word f x ≡ done v → w ≡ x
  untwist_one_to_one a b = done_inj (sym (untwist_undone a) ∙ untwist_undone b)
