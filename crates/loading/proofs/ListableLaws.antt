-- Which words are listable. Assumes nothing.
-- `listable_says`: a listable word that isn't 0 is canonical, has sign 0 and no bit above it, and its fraction lies from 0 to 1; `says_listable`:
-- and every such word is listable. `ratio_listable`: so is the word of every ratio from 0 to 1. `listable_is_lowest`: what the test of the two
-- parts says; `lowest_end`: what Euclid's algorithm with the nearest rest comes to.
use Rattle.std.proofs.Common.{◌≡◌, ℕ, ◌+◌, ◌-◌, ◌*◌, ◌/◌, ◌%◌, ◌^◌, ◌<◌, ◌≤◌, min, Bool, true, false, ◌&&◌, ◌||◌, eqb, ltb, leb, ◌⊎◌, sym, refl, ap, ◌∙◌, subst, inl, inr, true≢false, mod-lt, arith, le-ltb, eq-eqb, ne_eqb, eqb-true}
use mathlib.Core.Bool.{and-false, or-true}
use Prim.Native.Nat.{◌∣◌}
use native.Mathlib.Nat.{dvd_refl, dvd-zero, dvd-sub, eq-one_of_dvd-one}
use native.Mathlib.Decide.{ℕ_discrete, dec_le}
use borrow.Author.Tests.{lt-leb, eqb-false}
use Rattle.convergents.specs.Pairs.{Pair, pair, Lowest}
use Rattle.euclid.proofs.DivisorLaws.{Common, common_next}
use Rattle.slash.specs.Answers.{done}
use Rattle.slash.specs.Bits.{bits, bit, word_of_fields}
use Rattle.slash.specs.Formats.{k_fits, known, width_of}
use Rattle.slash.specs.Reading.{fixed_value, fixed_number, number_of, is_above, check_word}
use Rattle.slash.specs.Writing.{fixed_word, pair_word, word_for, is_over_zero, write_number, exact_ratio}
use Rattle.slash.specs.Numbers.{pair_of}
use Rattle.slash.specs.Canonical.{CanonicalFor, CanonicalWord}
use Rattle.slash.specs.declared.number.Number.{Number}
use Rattle.slash.specs.declared.number.Value.{Value}
use Rattle.slash.specs.declared.number.Value.TheVariants.{Fraction, Zero, Infinity, NotANumber}
use Rattle.slash.proofs.AnswerLaws.{and_parts, done_inj, no_stop, some_not}
use Rattle.slash.proofs.Recompose.{bit_of_lem}
use Rattle.slash.proofs.ReadingLaws.{fixed_zero, fixed_nan_zero, fixed_infinity, fixed_nan_infinity, fixed_fraction, check_fixed, checked_read}
use Rattle.slash.proofs.WritingLaws.{write_done, write_over_zero}
use Rattle.slash.proofs.RoundTrip.{Says}
use Rattle.slash.proofs.CanonicalLaws.{read_says, canonical_kept, written_canonical}
use Rattle.breaths.specs.Ratios.{ratio_format, ratio_word, fraction_of}
use Rattle.breaths.specs.Steps.{Proportion}
use Rattle.breaths.specs.declared.ratio.Ratio.TheVariants.{Word}
use Rattle.breaths.proofs.RatioLaws.{ratio_proportion}
use Rattle.text.specs.Lines.{is_printable}
use Rattle.text.proofs.LineLaws.{printable_is, is_printable_lem}
use Rattle.loading.specs.Listable.{is_canonical, listable}
use Rattle.loading.specs.Steps.{IsLowest}

-- ---- an example

-- 3/2 is above 1.
pub above_one : listable 0x00030002 ≡ false
unfolding listable is_printable fraction_of pair_of number_of fixed_number fixed_value bits bit
above_one = refl

-- ---- Euclid's algorithm with the nearest rest

pub lowest_start : (n d : ℕ) → Common n d d n
lowest_start n d = record { down = λ g a b. (b, a); up = λ g a b. (b, a) }

module _ {N D u v : ℕ} (c : Common N D u v) (some : 1 ≤ v) where
  pub rest_less : u % v < v
  rest_less = mod-lt u some

  lowest_above : Common N D v (u % v)
  lowest_above = common_next c

  lowest_below : Common N D v (v - u % v)
  lowest_below =
      record {
        down = λ g a b. let w = lowest_above.down g a b in (w.0, dvd-sub g w.0 w.1);
        up = λ g a b. lowest_above.up g a (subst (λ (m : ℕ). g ∣ m) (back rest_less) (dvd-sub g a b));
      }
    where
      back : u % v < v → v - (v - u % v) ≡ u % v
      back l = omega arith

  pub lowest_least : {m : ℕ} → m ≡ min (u % v) (v - u % v) → Common N D v m
  lowest_least {m} e = go (dec_le (u % v) (v - u % v))
    where
      go : Dec (u % v ≤ v - u % v) → Common N D v m
      go (yes l) = let f : u % v ≡ m = omega arith in subst (Common N D v) f lowest_above
      go (no l) = let f : v - u % v ≡ m = omega arith in subst (Common N D v) f lowest_below

module _ {N D u v : ℕ} (c : Common N D u v) where
  -- only 1 divides a 1
  one_lowest : (v ≡ 1) ⊎ (u ≡ 1) → Lowest N D
  one_lowest (inl e) g a b = eq-one_of_dvd-one (subst (λ (m : ℕ). g ∣ m) e (c.down g a b).1)
  one_lowest (inr e) g a b = eq-one_of_dvd-one (subst (λ (m : ℕ). g ∣ m) e (c.down g a b).0)

  pub lowest_end : v ≤ 1 → IsLowest N D (eqb v 1 || eqb u 1)
  lowest_end l = go (eqb v 1) refl (eqb u 1) refl
    where
      go : (a : Bool) → eqb v 1 ≡ a → (b : Bool) → eqb u 1 ≡ b → IsLowest N D (a || b)
      go true e b f = one_lowest (inl (eqb-true v 1 e))
      go false e true f = one_lowest (inr (eqb-true u 1 f))
      go false e false f = λ low.
          let o : v ≡ 1 → ⊥ = eqb-false v 1 e in
          let z : v ≡ 0 = omega arith in
          let w = c.up u (dvd_refl u) (subst (λ (m : ℕ). u ∣ m) (sym z) (dvd-zero u)) in
          eqb-false u 1 f (low u w.0 w.1)

-- ---- canonical, in slash's terms

known_format : known ratio_format ≡ true
unfolding known k_fits
known_format = refl

-- what is written of a number, where it is written as w
written_as : (w : ℕ) (x : Number) → write_number ratio_format x ≡ done w → word_for ratio_format x.approximate x.value ≡ w
written_as w x e = go (is_over_zero x.value) refl
  where
    go : (t : Bool) → is_over_zero x.value ≡ t → word_for ratio_format x.approximate x.value ≡ w
    go false z = done_inj (write_done ratio_format x known_format z ∙ e)
    go true z = absurd (no_stop (write_over_zero ratio_format x known_format z ∙ e))

pub canonical_is : (w : ℕ) → CanonicalWord ratio_format w → is_canonical w ≡ true
unfolding is_canonical
canonical_is w c =
    let s : Says ratio_format w c.number = read_says ratio_format known_format w c.number c.read in
    let k : write_number ratio_format c.number ≡ done w = canonical_kept ratio_format known_format w c.number c.read c in
    eq-eqb _ _ (written_as w (number_of ratio_format w) (ap (write_number ratio_format) s.number ∙ k))

over_not : (v : Value) → 1 ≤ (pair_of v).denominator → is_over_zero v ≡ false
unfolding is_over_zero pair_of
over_not (Fraction p) h = some_not p.denominator h
over_not (Zero s) h = refl
over_not (Infinity s) h = refl
over_not NotANumber h = refl

written_itself : (w : ℕ) → 1 ≤ (fraction_of w).denominator → is_canonical w ≡ true → CanonicalWord ratio_format w
unfolding is_canonical fraction_of
written_itself w some e =
    written_canonical ratio_format (number_of ratio_format w) w
    (sym (write_done ratio_format (number_of ratio_format w) known_format (over_not (number_of ratio_format w).value some)) ∙ ap done (eqb-true _ _ e))

-- ---- listable, in the paper's words

module _ (w : ℕ) where
  pub listable_zero : w ≡ 0 → true ≡ listable w
  unfolding listable
  listable_zero e = rw (eq-eqb w 0 e) refl

  listable_is : (w ≡ 0 → ⊥) → listable w ≡ (is_printable (Word w) && is_canonical w)
  unfolding listable
  listable_is z = rw (ne_eqb w 0 z) refl

  pub listable_says : listable w ≡ true → (w ≡ 0 → ⊥) → CanonicalWord ratio_format w × Proportion w
  listable_says e z =
      let h = and_parts (is_printable (Word w)) (is_canonical w) (sym (listable_is z) ∙ e) in
      let p : Proportion w = is_printable_lem (Word w) h.0 in
      (written_itself w p.some h.1, p)

  pub says_listable : CanonicalWord ratio_format w → Proportion w → listable w ≡ true
  unfolding listable
  says_listable c p = rw (printable_is (Word w) p, canonical_is w c) (or-true (eqb w 0))

  pub listable_printable : listable w ≡ true → (w ≡ 0 → ⊥) → is_printable (Word w) ≡ true
  listable_printable e z = printable_is (Word w) (listable_says e z).1

  pub listable_small : listable w ≡ true → w < 2 ^ 31
  listable_small e = go (ℕ_discrete w 0)
    where
      go : Dec (w ≡ 0) → w < 2 ^ 31
      go (yes z) = omega arith
      go (no z) = (listable_says e z).1.unsigned

-- ---- the word of a ratio from 0 to 1

module _ (N D : ℕ) (pos : 1 ≤ D) (l : N ≤ D) where
  not_over : is_over_zero (exact_ratio N D).value ≡ false
  unfolding is_over_zero
  not_over = some_not D pos

  pub ratio_listable : listable (ratio_word N D) ≡ true
  unfolding ratio_word
  ratio_listable =
      says_listable (ratio_word N D)
      (written_canonical ratio_format (exact_ratio N D) (ratio_word N D) (sym (write_done ratio_format (exact_ratio N D) known_format not_over)))
      (ratio_proportion N D pos l)

-- ---- the test by the two parts, as they stand in the word

module _ (w : ℕ) (small : w < 2 ^ 31) where
  abbrev n : ℕ
  n = w / 2 ^ 16

  abbrev d : ℕ
  d = w % 32768

  abbrev v : Value
  v = (number_of ratio_format w).value

  value_is : (number_of ratio_format w).value ≡ fixed_value (bit 31 w) (w / 2 ^ 16) (w % 32768)
  unfolding number_of fixed_number bits
  value_is =
      let e : w / 2 ^ 16 % 2 ^ 15 ≡ w / 2 ^ 16 = omega arith in
      let f : w / 2 ^ 0 % 2 ^ 15 ≡ w % 32768 = omega arith in
      rw (e, f) refl

  clear : check_word ratio_format w ≡ done tt
  unfolding known k_fits is_above width_of
  clear =
      let less : w < 2 ^ 32 = omega arith in
      sym (check_fixed ratio_format w refl (lt-leb _ _ less) refl)

  -- canonical by what the word says
  for_value : (u : Value) → v ≡ u → CanonicalFor ratio_format w (number_of ratio_format w).approximate u → CanonicalWord ratio_format w
  for_value u e c =
      record {
        number = number_of ratio_format w;
        read = checked_read ratio_format w clear;
        canonical = subst (CanonicalFor ratio_format w (number_of ratio_format w).approximate) (sym e) c;
      }

  value_for : (u : Value) → v ≡ u → CanonicalWord ratio_format w → CanonicalFor ratio_format w (number_of ratio_format w).approximate u
  value_for u e c =
      let x : c.number ≡ number_of ratio_format w = done_inj (sym c.read ∙ checked_read ratio_format w clear) in
      subst (CanonicalFor ratio_format w (number_of ratio_format w).approximate) e
      (subst (λ (y : Number). CanonicalFor ratio_format w y.approximate y.value) x c.canonical)

  -- the pair that a value is
  parts_of_lem : (u : Value) → v ≡ u → fraction_of w ≡ pair_of u
  unfolding fraction_of
  parts_of_lem u e = ap pair_of e

  -- no ratio that a line shows
  none : (fraction_of w).denominator ≡ 0 → is_printable (Word w) ≡ false
  unfolding is_printable
  none e =
      let l : (fraction_of w).denominator < 1 = omega arith in
      rw (lt-leb _ _ l, and-false (ltb w (2 ^ 31))) refl

  nan_none : v ≡ NotANumber → is_printable (Word w) ≡ false
  unfolding pair_of
  nan_none e = none (ap (λ (x : Pair). x.denominator) (parts_of_lem NotANumber e))

  infinity_none : (s : Bool) → v ≡ Infinity s → is_printable (Word w) ≡ false
  unfolding pair_of
  infinity_none s e = none (ap (λ (x : Pair). x.denominator) (parts_of_lem (Infinity s) e))

  module _ (z : w ≡ 0 → ⊥) where
    not_listable : is_printable (Word w) ≡ false → listable w ≡ false
    not_listable e = listable_is w z ∙ ap (λ (b : Bool). b && is_canonical w) e

    -- numerator and denominator not 0
    module _ (some_n : n ≡ 0 → ⊥) (some-d : d ≡ 0 → ⊥) where
      fraction_value : v ≡ Fraction (record { negative = bit 31 w; numerator = n; denominator = d })
      fraction_value = value_is ∙ sym (fixed_fraction (bit 31 w) n d some_n some-d)

      fraction_is : fraction_of w ≡ pair n d
      unfolding pair_of
      fraction_is = parts_of_lem _ fraction_value

      fraction_above : d < n → listable w ≡ false
      unfolding is_printable
      fraction_above l =
          let m : (fraction_of w).denominator < (fraction_of w).numerator =
          omega (arith, ap (λ (x : Pair). x.numerator) fraction_is, ap (λ (x : Pair). x.denominator) fraction_is)
          in
          not_listable (rw (lt-leb _ _ m, and-false (leb 1 (fraction_of w).denominator), and-false (ltb w (2 ^ 31))) refl)

      fraction_proportion : n ≤ d → Proportion w
      fraction_proportion l =
          let i : (fraction_of w).numerator ≡ n = ap (λ (x : Pair). x.numerator) fraction_is in
          let j : (fraction_of w).denominator ≡ d = ap (λ (x : Pair). x.denominator) fraction_is in
          record { unsigned = small; some = omega arith; proper = omega arith }

      fraction_lowest : n ≤ d → Lowest n d → listable w ≡ true
      unfolding CanonicalFor
      fraction_lowest l low = says_listable w (for_value _ fraction_value low) (fraction_proportion l)

      lowest_fraction : listable w ≡ true → Lowest n d
      unfolding CanonicalFor
      lowest_fraction e = value_for _ fraction_value (listable_says w e z).0

    -- numerator 0
    module _ (no-n : n ≡ 0) where
      module _ (odd : d % 2 ≡ 1) where
        zero_value : v ≡ Zero (bit 31 w)
        zero_value = value_is ∙ sym (fixed_zero (bit 31 w) n d no-n odd)

        -- the word of zero with this sign and this mark
        zero_word : pair_word ratio_format (bit 31 w) (number_of ratio_format w).approximate (pair 0 1) ≡ w / 2 ^ 15 % 2 * 2 ^ 15 + 1
        unfolding pair_word fixed_word word_of_fields number_of fixed_number bits
        zero_word = omega (arith, bit_of_lem 31 w, bit_of_lem 15 w)

        zero_proportion : Proportion w
        unfolding pair_of
        zero_proportion =
            let e : fraction_of w ≡ pair 0 1 = parts_of_lem _ zero_value in
            let i : (fraction_of w).numerator ≡ 0 = ap (λ (x : Pair). x.numerator) e in
            let j : (fraction_of w).denominator ≡ 1 = ap (λ (x : Pair). x.denominator) e in
            record { unsigned = small; some = omega arith; proper = omega arith }

        zero_one : d ≡ 1 → listable w ≡ true
        unfolding CanonicalFor
        zero_one e =
            let same : w ≡ pair_word ratio_format (bit 31 w) (number_of ratio_format w).approximate (pair 0 1) = omega (arith, zero_word) in
            says_listable w (for_value _ zero_value same) zero_proportion

        one_zero : listable w ≡ true → d ≡ 1
        unfolding CanonicalFor
        one_zero e =
            let same : w ≡ pair_word ratio_format (bit 31 w) (number_of ratio_format w).approximate (pair 0 1) = value_for _ zero_value (listable_says w e z).0 in
            omega (arith, zero_word)

      zero_even : (d % 2 ≡ 1 → ⊥) → listable w ≡ false
      zero_even even = not_listable (nan_none (value_is ∙ sym (fixed_nan_zero (bit 31 w) n d no-n even)))

    -- a numerator above the denominator
    pub listable_above : d < n → false ≡ listable w
    listable_above l = sym (go (ℕ_discrete d 0))
      where
        some_n : n ≡ 0 → ⊥
        some_n e = omega arith

        over : d ≡ 0 → Dec (n % 2 ≡ 1) → listable w ≡ false
        over y (yes o) = not_listable (infinity_none (bit 31 w) (value_is ∙ sym (fixed_infinity (bit 31 w) n d some_n y o)))
        over y (no o) = not_listable (nan_none (value_is ∙ sym (fixed_nan_infinity (bit 31 w) n d some_n y o)))

        go : Dec (d ≡ 0) → listable w ≡ false
        go (yes y) = over y (ℕ_discrete (n % 2) 1)
        go (no y) = fraction_above some_n y l

    module _ (l : n ≤ d) where
      listable_lowest : Lowest n d → listable w ≡ true
      listable_lowest low = go (ℕ_discrete n 0)
        where
          go : Dec (n ≡ 0) → listable w ≡ true
          go (yes e) =
              let one : d ≡ 1 = low d (subst (λ (m : ℕ). d ∣ m) (sym e) (dvd-zero d)) (dvd_refl d) in
              zero_one e (omega arith) one
          go (no e) = fraction_lowest e (λ y. omega arith) l low

      lowest_listable : listable w ≡ true → Lowest n d
      lowest_listable h = go (ℕ_discrete n 0)
        where
          zero_lowest : d ≡ 1 → Lowest n d
          zero_lowest e g a b = eq-one_of_dvd-one (subst (λ (m : ℕ). g ∣ m) e b)

          zero_case : n ≡ 0 → Dec (d % 2 ≡ 1) → Lowest n d
          zero_case e (yes o) = zero_lowest (one_zero e o h)
          zero_case e (no o) = absurd (true≢false (sym h ∙ zero_even e o))

          go : Dec (n ≡ 0) → Lowest n d
          go (yes e) = zero_case e (ℕ_discrete (d % 2) 1)
          go (no e) = lowest_fraction e (λ y. omega arith) h

      -- which the test of both tells
      pub listable_is_lowest : (r : Bool) → IsLowest n d r → r ≡ listable w
      listable_is_lowest true low = sym (listable_lowest low)
      listable_is_lowest false low = go (listable w) refl
        where
          go : (b : Bool) → listable w ≡ b → false ≡ listable w
          go true e = absurd (low (lowest_listable e))
          go false e = sym e

pub listable_large : (w : ℕ) → 2147483648 ≤ w → false ≡ listable w
unfolding listable is_printable
listable_large w l =
    let m : 2 ^ 31 ≤ w = omega arith in
    let z : w ≡ 0 → ⊥ = λ e. omega arith in
    rw (ne_eqb w 0 z, le-ltb w (2 ^ 31) m) refl
