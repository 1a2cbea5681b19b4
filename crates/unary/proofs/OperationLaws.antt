-- The unary operations. Assumes nothing.
-- `unary_exact`: reciprocal, floor, ceiling and normalise always fit, so that rounding adds no mark. `mod_1_exact`: mod 1 fits in fixed formats,
-- and of what isn't negative. `unary_best`: what is stored by codes 3 to 7 is the best for it. `unary_canonical`: and canonical.
-- `unary_rounded`: demand 2, of codes 3 to 7. `unary_value`: what the new word says, of every exact result. `unary_mark`, `mark_exact`,
-- `mark_inherited`: their marks. `result_sign`, `zero_sign`: their signs. `unary_nan`: what not-a-number gives. `stop_format`, `stop_code`,
-- `stop_word`: the stops, in their order; the others are one for each way through the code.
use mathlib.Core.Path.{◌≡◌, refl, sym, ap, ap₂, ◌∙◌, subst, subst⁻¹}
use mathlib.Core.Logic.{◌⊎◌, inl, inr}
use mathlib.Core.Bool.{Bool, true, false, not, ◌&&◌, ◌||◌}
use Prim.Native.Nat.{ℕ, ◌+◌, ◌-◌, ◌*◌, ◌%◌, ◌^◌, ◌≤◌, ◌<◌}
use native.Mathlib.Omega.{arith}
use native.Mathlib.Nat.{mod-lt, one-mul}
use native.Mathlib.Decide.{ℕ_discrete}
use lib.Bits.{bit_and, and_mask}
use lib.Dec.{eqb, leb}
use lib.Pow.{pow_pos, pow_mono}
use lib.IntN.{ℤ, pos, negsuc, neg_ℤ, nat_abs, ◌-ℤ◌}
use lib.Signed.{lt_z}
use mir.Syntax.{w64}
use mir.Val.{Fits, SFits, to_z}
use borrow.Author.Tests.{eqb-true, lt-leb, eq-eqb, ne_eqb}
use Rattle.std.specs.Prelude.{if◌then◌else◌, Ok, Err}
use Rattle.std.specs.Int.{int_div_euclid, int_rem_euclid}
use Rattle.convergents.specs.Rounding.{round}
use Rattle.slash.specs.Answers.{Outcome, stop, done, ◌then◌, WhenDone}
use Rattle.slash.specs.Steps.{SmallParts, HeldParts, HeldValue}
use Rattle.slash.specs.Bits.{bit, bit_of}
use Rattle.slash.specs.Formats.{known, check_format, of_known, width_of, holds}
use Rattle.slash.specs.Rounding.{rounded}
use Rattle.slash.specs.Reading.{number_of, number_in, check_word, read_word}
use Rattle.slash.specs.Writing.{nan_word, word_for, is_over_zero, write_number}
use Rattle.slash.specs.Numbers.{is_nan, parts_of, pair_of, signed_of}
use Rattle.slash.specs.Best.{ExactSize, ◌over◌, size_of, BestForValue}
use Rattle.slash.specs.Canonical.{CanonicalWord}
use Rattle.slash.proofs.AnswerLaws.{done_inj, no_stop, then_stop, then_stopped, checked_stop, checked_made, some_not, if_case, when_checked}
use Rattle.slash.proofs.BitLaws.{one_shl, pow_next}
use Rattle.slash.proofs.FormatLaws.{format_good, good_known, of_known_lem, known_k, slash_bits_pos, width_fixed, width_floating, width_range, format_limit, fixed_holds, holds_both, floating_holds, holds_sum}
use Rattle.slash.proofs.RoundingLaws.{held_exact}
use Rattle.slash.proofs.ReadingLaws.{checked_known, checked_number, checked_read, read_checked}
use Rattle.slash.proofs.WritingLaws.{write_done, word_best}
use Rattle.slash.proofs.CanonicalLaws.{held_small, read_known, read_held, written_canonical}
use Rattle.slash.proofs.WordLaws.{written_value, RoundedTo, changed, marks, word_value, word_rounded, word_mark, word_exact, word_sign}
use Rattle.slash.specs.declared.answer.Stop.{Stop}
use Rattle.slash.specs.declared.format.Format.{Format}
use Rattle.slash.specs.declared.number.Parts.{Parts}
use Rattle.slash.specs.declared.number.Value.{Value}
use Rattle.slash.specs.declared.number.Value.TheVariants.{Fraction, Zero, Infinity, NotANumber}
use Rattle.slash.specs.declared.number.Number.{Number}
use Rattle.vectors.specs.Each.{stop_only}
use Rattle.vectors.proofs.EachLaws.{stop_checked}
use Rattle.unary.specs.Floor.{is_below_zero, floor_by, ceiling_by, above_floor}
use Rattle.unary.specs.Steps.{SmallValue, ExactIn}
use Rattle.unary.specs.Signs.{sign_bit, with_highest, new_sign, sign_touched}
use Rattle.unary.specs.Operations.{over_one, signed_numerator, reciprocal_parts, floor_parts, ceiling_parts, mod_parts, exact_parts, exact_zero, exact_infinity, exact_unary, is_unary, unary_result, check_unary, unary_word}
use Rattle.unary.proofs.FloorLaws.{read, same, small_fits, neg_size, to_pos, signed_size, test_is, opposite_fits, opposite_returns, euclid_floor, euclid_above, floor_size, ceiling_size, above_lt, above_le}

-- ---- the highest bit of a word

module _ (h w : ℕ) (l : h < 64) where
  pub power_some : 1 ≤ (1 * 2 ^ h) % 2 ^ 64
  power_some = subst⁻¹ (λ (p : ℕ). 1 ≤ p) (one_shl h l) (pow_pos h)

  rest_is : bit_and w ((1 * 2 ^ h) % 2 ^ 64 - 1) ≡ w % 2 ^ h
  rest_is = rw (one_shl h l) (and_mask w h)

  pub set_fits : Fits w64 ((1 * 2 ^ h) % 2 ^ 64 + bit_and w ((1 * 2 ^ h) % 2 ^ 64 - 1))
  set_fits =
      let m : w % 2 ^ h < 2 ^ h = mod-lt w (pow_pos h) in
      let k : h + 1 ≤ 64 = omega arith in
      let b : 2 ^ (h + 1) ≤ 2 ^ 64 = pow_mono k in
      record { fits = omega (arith, one_shl h l, rest_is, pow_next h) }

  pub is_set : (s : Bool) → s ≡ true → (1 * 2 ^ h) % 2 ^ 64 + bit_and w ((1 * 2 ^ h) % 2 ^ 64 - 1) ≡ with_highest h s w
  unfolding with_highest bit_of
  is_set s e = rw e (omega (arith, one_shl h l, rest_is, one-mul (2 ^ h)))

  pub not_set : (s : Bool) → s ≡ false → bit_and w ((1 * 2 ^ h) % 2 ^ 64 - 1) ≡ with_highest h s w
  unfolding with_highest bit_of
  not_set s e = rw e (omega (arith, rest_is))

-- the width that a known format tells: a word has from 4 to 64 bits
module _ (f : Format) where
  width_some : known f ≡ true → (4 ≤ width_of f) × (width_of f ≤ 64)
  width_some h = go (ℕ_discrete f.kind 1)
    where
      go : Dec (f.kind ≡ 1) → (4 ≤ width_of f) × (width_of f ≤ 64)
      go (yes k) = omega (arith, width_range f h, width_fixed f k, known_k f h)
      go (no k) = omega (arith, width_range f h, width_floating f k _ refl, known_k f h, slash_bits_pos f.k (known_k f h).0)

  -- a format that tells anything is known; what it tells otherwise is its stop
  module _ {A : Type 0} (x : A) where
    told : {y : A} → done y ≡ of_known f x → (known f ≡ true) × (y ≡ x)
    unfolding of_known
    told {y} e = go (check_format f) refl
      where
        go : (o : Outcome (Unit {0})) → check_format f ≡ o → (known f ≡ true) × (y ≡ x)
        go (Err s) h = absurd (no_stop (sym (e ∙ ap (λ (p : Outcome (Unit {0})). p then λ _. done x) h)))
        go (Ok u) h = (good_known f (sym h), done_inj (e ∙ ap (λ (p : Outcome (Unit {0})). p then λ _. done x) h))

    pub untold : {B : Type 0} (y : B) {s : Stop} → Err s ≡ of_known f x → Err s ≡ of_known f y
    unfolding of_known
    untold y e = then_stop (λ _. done y) (then_stopped x (check_format f) e)

  pub width_told : {n : ℕ} → done n ≡ of_known f (width_of f) → (4 ≤ n) × (n ≤ 64)
  width_told e = let t = told _ e in omega (arith, t.1, width_some t.0)

  pub touch_done : (code w : ℕ) {n r : ℕ} → done n ≡ of_known f (width_of f) → r ≡ with_highest (n - 1) (new_sign code (bit (n - 1) w)) w
      → done r ≡ of_known f (sign_touched f code w)
  unfolding sign_touched sign_bit
  touch_done code w e h =
      let t = told _ e in
      ap done (h ∙ ap (λ (m : ℕ). with_highest (m - 1) (new_sign code (bit (m - 1) w)) w) t.1) ∙ of_known_lem f (sign_touched f code w) t.0

-- ---- whole numbers

pub whole_is : (n : ℤ) → SFits w64 n → {m : ℕ} → m ≡ nat_abs (read n) → record { negative = lt_z (read n) (pos 0); numerator = m; denominator = 1 } ≡ over_one n
unfolding over_one
whole_is n f e = ap₂ (λ (c : Bool) (m : ℕ). record { negative = c; numerator = m; denominator = 1 }) (test_is n f) (e ∙ ap nat_abs (same f))

-- a fraction's numerator with its sign, and what the machine divides of it
module _ (p : Parts) (s : SmallParts p) (n : ℤ) (ne : n ≡ signed_of p.negative p.numerator) where
  numerator_small : nat_abs n < 2 ^ 62
  numerator_small = omega (arith, ap nat_abs ne, signed_size p.negative p.numerator, s.small_numerator)

  numerator_read : read n ≡ n
  numerator_read = same (small_fits n numerator_small)

  denominator_is : to_z w64 p.denominator ≡ pos p.denominator
  denominator_is = to_pos p.denominator (omega (arith, s.small_denominator))

  quotient_is : (m : ℤ) → int_div_euclid m (to_z w64 p.denominator) ≡ floor_by m p.denominator
  quotient_is m = ap (λ (z : ℤ). int_div_euclid m z) denominator_is ∙ euclid_floor m p.denominator

  pub floor_returns : {q : ℤ} {r : Parts} → q ≡ int_div_euclid (read n) (to_z w64 p.denominator) → r ≡ over_one (read q) → r ≡ floor_parts p
  unfolding floor_parts signed_numerator
  floor_returns {q} e h =
      let i : q ≡ floor_by n p.denominator = e ∙ quotient_is (read n) ∙ ap (λ (z : ℤ). floor_by z p.denominator) numerator_read in
      let f : SFits w64 q = small_fits q (omega (arith, ap nat_abs i, floor_size n p.denominator, numerator_small)) in
      h ∙ ap over_one (same f ∙ i ∙ ap (λ (z : ℤ). floor_by z p.denominator) ne)

  pub numerator_turns : SFits w64 (pos 0 -ℤ read n)
  numerator_turns = opposite_fits n numerator_small

  module _ {q : ℤ} (e : q ≡ int_div_euclid (read (pos 0 -ℤ read n)) (to_z w64 p.denominator)) where
    below_is : q ≡ floor_by (neg_ℤ n) p.denominator
    below_is = e ∙ quotient_is (read (pos 0 -ℤ read n)) ∙ ap (λ (z : ℤ). floor_by z p.denominator) (opposite_returns n numerator_small)

    below_small : nat_abs q < 2 ^ 62
    below_small = omega (arith, ap nat_abs below_is, floor_size (neg_ℤ n) p.denominator, neg_size n, numerator_small)

    pub ceiling_fits : SFits w64 (pos 0 -ℤ read q)
    ceiling_fits = opposite_fits q below_small

    pub ceiling_returns : {r : Parts} → r ≡ over_one (read (pos 0 -ℤ read q)) → r ≡ ceiling_parts p
    unfolding ceiling_parts ceiling_by signed_numerator
    ceiling_returns h = h ∙ ap over_one (opposite_returns q below_small ∙ ap neg_ℤ below_is ∙ ap (λ (z : ℤ). neg_ℤ (floor_by (neg_ℤ z) p.denominator)) ne)

  pub mod_returns : {m : ℤ} → m ≡ int_rem_euclid (read n) (to_z w64 p.denominator)
      → record { negative = false; numerator = nat_abs (read m); denominator = p.denominator } ≡ mod_parts p
  unfolding mod_parts signed_numerator
  mod_returns {m} e =
      let d : ℕ = p.denominator in
      let i : m ≡ pos (above_floor n d) = e ∙ ap₂ int_rem_euclid numerator_read denominator_is ∙ euclid_above n d s.some_denominator in
      let f : SFits w64 m = small_fits m (omega (arith, ap nat_abs i, above_lt n d s.some_denominator, s.small_denominator)) in
      ap (λ (k : ℕ). record { negative = false; numerator = k; denominator = d }) (ap nat_abs (same f ∙ i) ∙ ap (λ (z : ℤ). above_floor z d) ne)

-- ---- by code: which operation each is, of a fraction, a zero and an infinity

module _ (code : ℕ) (p : Parts) where
  pub parts_reciprocal : code ≡ 3 → reciprocal_parts p ≡ exact_parts code p
  unfolding exact_parts
  parts_reciprocal e = rw (eq-eqb _ _ e) refl

  module _ (n3 : code ≡ 3 → ⊥) where
    pub parts_floor : code ≡ 4 → floor_parts p ≡ exact_parts code p
    unfolding exact_parts
    parts_floor e = rw (ne_eqb _ _ n3, eq-eqb _ _ e) refl

    module _ (n4 : code ≡ 4 → ⊥) where
      pub parts_ceiling : code ≡ 5 → ceiling_parts p ≡ exact_parts code p
      unfolding exact_parts
      parts_ceiling e = rw (ne_eqb _ _ n3, ne_eqb _ _ n4, eq-eqb _ _ e) refl

      module _ (n5 : code ≡ 5 → ⊥) where
        pub parts_mod : code ≡ 6 → mod_parts p ≡ exact_parts code p
        unfolding exact_parts
        parts_mod e = rw (ne_eqb _ _ n3, ne_eqb _ _ n4, ne_eqb _ _ n5, eq-eqb _ _ e) refl

        pub parts_same : (code ≡ 6 → ⊥) → p ≡ exact_parts code p
        unfolding exact_parts
        parts_same n6 = rw (ne_eqb _ _ n3, ne_eqb _ _ n4, ne_eqb _ _ n5, ne_eqb _ _ n6) refl

  -- what holds of each way holds of the result
  by_code : (P : Parts → Type 0) → P (reciprocal_parts p) → P (floor_parts p) → P (ceiling_parts p) → (code ≡ 6 → P (mod_parts p)) → P p → P (exact_parts code p)
  unfolding exact_parts
  by_code P a b c d e =
      if_case P (eqb code 3) _ _ (λ t. a)
      (λ t. if_case P (eqb code 4) _ _ (λ u. b) (λ u. if_case P (eqb code 5) _ _ (λ v. c) (λ v. if_case P (eqb code 6) _ _ (λ w. d (eqb-true _ _ w)) (λ w. e))))

module _ (code : ℕ) (s : Bool) where
  pub zero_reciprocal : code ≡ 3 → Infinity s ≡ exact_zero code s
  unfolding exact_zero
  zero_reciprocal e = rw (eq-eqb _ _ e) refl

  pub zero_same : (code ≡ 3 → ⊥) → code ≡ 7 → Zero s ≡ exact_zero code s
  unfolding exact_zero
  zero_same n e = rw (ne_eqb _ _ n, eq-eqb _ _ e) refl

  pub zero_plain : (code ≡ 3 → ⊥) → (code ≡ 7 → ⊥) → Zero false ≡ exact_zero code s
  unfolding exact_zero
  zero_plain n m = rw (ne_eqb _ _ n, ne_eqb _ _ m) refl

  pub infinity_reciprocal : code ≡ 3 → Zero s ≡ exact_infinity code s
  unfolding exact_infinity
  infinity_reciprocal e = rw (eq-eqb _ _ e) refl

  pub infinity_mod : (code ≡ 3 → ⊥) → code ≡ 6 → NotANumber ≡ exact_infinity code s
  unfolding exact_infinity
  infinity_mod n e = rw (ne_eqb _ _ n, eq-eqb _ _ e) refl

  pub infinity_same : (code ≡ 3 → ⊥) → (code ≡ 6 → ⊥) → Infinity s ≡ exact_infinity code s
  unfolding exact_infinity
  infinity_same n m = rw (ne_eqb _ _ n, ne_eqb _ _ m) refl

  -- what holds of zeros, infinities and not-a-number holds of either
  by_case : (P : Value → Type 0) → ((t : Bool) → P (Zero t)) → ((t : Bool) → P (Infinity t)) → P NotANumber → P (exact_zero code s) × P (exact_infinity code s)
  unfolding exact_zero exact_infinity
  by_case P z i n = (
    if_case P (eqb code 3) _ _ (λ t. i s) (λ t. if_case P (eqb code 7) _ _ (λ u. z s) (λ u. z false)),
    if_case P (eqb code 3) _ _ (λ t. z s) (λ t. if_case P (eqb code 6) _ _ (λ u. n) (λ u. i s)),
  )

-- ---- the exact result of what was read is not over 0

over_exact : (f : Format) (code : ℕ) (v : Value) → HeldValue f v → is_over_zero (exact_unary code v) ≡ false
unfolding HeldValue is_over_zero exact_unary reciprocal_parts floor_parts over_one ceiling_parts mod_parts
over_exact f code (Fraction p) q =
    by_code code p (λ r. eqb r.denominator 0 ≡ false) (some_not _ q.some_numerator) refl refl (λ _. some_not _ q.some_denominator)
    (some_not _ q.some_denominator)
over_exact f code (Zero s) q = (by_case code s (λ v. is_over_zero v ≡ false) (λ t. refl) (λ t. refl) refl).0
over_exact f code (Infinity s) q = (by_case code s (λ v. is_over_zero v ≡ false) (λ t. refl) (λ t. refl) refl).1
over_exact f code NotANumber q = refl

-- ---- what a code makes of a word

module _ (f : Format) (h : known f ≡ true) (code w : ℕ) (x : Number) where
  pub result_best : HeldValue f x.value → 3 ≤ code → BestForValue f (exact_unary code x.value) (unary_result f code w x)
  unfolding unary_result
  result_best q l = rw (lt-leb code 2 l) (word_best f h x.approximate (exact_unary code x.value) (over_exact f code x.value q))

  result_canonical : HeldValue f x.value → 3 ≤ code → CanonicalWord f (unary_result f code w x)
  unfolding unary_result
  result_canonical q l =
      let y : Number = record { value = exact_unary code x.value; approximate = x.approximate } in
      rw (lt-leb code 2 l) (written_canonical f y _ (sym (write_done f y h (over_exact f code x.value q))))

-- the same of a good word, whose value is v and whose mark is a
module _ (f : Format) (code w : ℕ) (c : check_word f w ≡ done tt) (v : Value) (ve : v ≡ (number_in f w).value) (b : Bool) (be : b ≡ (leb code 2 && not (is_nan v))) where
  abbrev X : Number
  X = number_of f w

  value_is : v ≡ X.value
  value_is = ve ∙ ap (λ (x : Number). x.value) (checked_number f w c)

  held : HeldValue f X.value
  held = read_held f (checked_known f w c) w X (checked_read f w c)

  pub good_small : SmallValue v
  unfolding HeldValue
  good_small p e = held_small f (checked_known f w c) p (subst (HeldValue f) (sym value_is ∙ e) held)

  test : {t : Bool} → b ≡ t → (leb code 2 && not (is_nan X.value)) ≡ t
  test e = ap (λ (u : Value). leb code 2 && not (is_nan u)) (sym value_is) ∙ sym be ∙ e

  pub good_touched : b ≡ true → sign_touched f code w ≡ unary_result f code w X
  unfolding unary_result
  good_touched t = rw (test t) refl

  pub good_written : (y : Value) (a : Bool) → b ≡ false → y ≡ exact_unary code v → a ≡ (number_in f w).approximate
      → write_number f (record { value = y; approximate = a }) ≡ done (unary_result f code w X)
  unfolding unary_result
  good_written y a t e ae =
      let ye : y ≡ exact_unary code X.value = e ∙ ap (exact_unary code) value_is in
      let me : a ≡ X.approximate = ae ∙ ap (λ (x : Number). x.approximate) (checked_number f w c) in
      let exact : Number = record { value = exact_unary code X.value; approximate = X.approximate } in
      let same : write_number f (record { value = y; approximate = a }) ≡ write_number f exact = rw (ye, me) refl in
      let written : done (word_for f exact.approximate exact.value) ≡ write_number f exact = write_done f exact (checked_known f w c) (over_exact f code X.value held) in
      same ∙ sym written ∙ rw (test t) refl

-- a call's stops first, and then its word
module _ (f : Format) (code w : ℕ) where
  unary_checked : (check_unary f code w then λ _. done (unary_result f code w (number_of f w))) ≡ unary_word f code w
  unfolding unary_word
  unary_checked = refl

  unary_good : done tt ≡ check_unary f code w → check_word f w ≡ done tt
  unfolding check_unary
  unary_good e = go (check_format f) (is_unary code) e
    where
      go : (k : Outcome (Unit {0})) (u : Bool) → done tt ≡ (k then λ _. if not u then stop 2 0 else check_word f w) → check_word f w ≡ done tt
      go (Err s) u h = absurd (no_stop (sym h))
      go (Ok x) false h = absurd (no_stop (sym h))
      go (Ok x) true h = sym h

  abbrev pub BestHere : ℕ → Type 0
  BestHere v = 3 ≤ code → BestForValue f (exact_unary code (number_of f w).value) v

  -- the stops of `unary`
  pub stop_format : {s : Stop} → Err s ≡ check_format f → Err s ≡ unary_word f code w
  unfolding check_unary
  stop_format e = checked_stop _ _ unary_checked (then_stop _ e)

  module _ (h : known f ≡ true) where
    pub stop_code : is_unary code ≡ false → stop 2 0 ≡ unary_word f code w
    unfolding check_unary
    stop_code i =
        let e : stop 2 0 ≡ check_unary f code w = rw (format_good f h, i) refl in
        checked_stop _ _ unary_checked e

    module _ (i : is_unary code ≡ true) where
      check_word_lem : check_word f w ≡ check_unary f code w
      unfolding check_unary
      check_word_lem = rw (format_good f h, i) refl

      pub stop_word : {s : Stop} → Err s ≡ check_word f w → Err s ≡ unary_word f code w
      stop_word e = checked_stop _ _ unary_checked (e ∙ check_word_lem)

      -- a vector form stops as the check of its words does
      pub unary_stop_only : stop_only (unary_word f code w) ≡ check_word f w
      unary_stop_only = stop_checked _ _ _ unary_checked ∙ sym check_word_lem

      -- and its word, of a good word
      pub unary_made : check_word f w ≡ done tt → {r : ℕ} → r ≡ unary_result f code w (number_of f w) → done r ≡ unary_word f code w
      unary_made good e = checked_made _ _ unary_checked (sym good ∙ check_word_lem) e

  -- what holds of the word that a code makes of a good word holds of what `unary` makes
  pub when_unary : (P : ℕ → Type 0) → (check_word f w ≡ done tt → P (unary_result f code w (number_of f w))) → WhenDone (unary_word f code w) P
  when_unary P good = when_checked (check_unary f code w) (unary_result f code w (number_of f w)) unary_checked P (λ e. good (unary_good e))

  held_number : check_word f w ≡ done tt → HeldValue f (number_of f w).value
  held_number c = read_held f (checked_known f w c) w (number_of f w) (checked_read f w c)

  -- Every word that codes 3 to 7 make is the best for the exact value.
  pub unary_best : WhenDone (unary_word f code w) BestHere
  unary_best = when_unary BestHere (λ c. result_best f (checked_known f w c) code w (number_of f w) (held_number c))

  -- the same of what `unary` answers
  pub best_answered : {o : Outcome ℕ} → o ≡ unary_word f code w → 3 ≤ code → WhenDone o (λ v. BestForValue f (exact_unary code (number_of f w).value) v)
  best_answered {o} e l = go o (subst⁻¹ (λ (p : Outcome ℕ). WhenDone p BestHere) e unary_best)
    where
      go : (p : Outcome ℕ) → WhenDone p BestHere → WhenDone p (λ v. BestForValue f (exact_unary code (number_of f w).value) v)
      go (Err s) b = tt
      go (Ok v) b = b l

  -- And it is canonical.
  pub unary_canonical : 3 ≤ code → (v : ℕ) → unary_word f code w ≡ done v → CanonicalWord f v
  unary_canonical l v e =
      subst (λ (o : Outcome ℕ). WhenDone o (λ u. CanonicalWord f u)) e
      (when_unary (λ u. CanonicalWord f u) (λ c. result_canonical f (checked_known f w c) code w (number_of f w) (held_number c) l))

  -- ---- codes 3 to 7, of what the word says

  abbrev Said : Number
  Said = number_of f w

  -- the exact result
  abbrev E : Value
  E = exact_unary code Said.value

  -- what holds of the word of the exact result holds of the word v that they make
  of_unary : 3 ≤ code → (P : ℕ → Type 0) → (known f ≡ true → is_over_zero E ≡ false → P (word_for f Said.approximate E)) → (v : ℕ) → unary_word f code w ≡ done v → P v
  unfolding unary_result
  of_unary l P good v e =
      subst (λ (o : Outcome ℕ). WhenDone o P) e
      (when_unary P (λ c. rw (lt-leb code 2 l) (good (checked_known f w c) (over_exact f code Said.value (held_number c)))))

  -- Every operation that gives a word, but negation and absolute value, is the exact result, n over d, cut to its last continued-fraction
  -- convergent that the format holds.
  pub unary_rounded : 3 ≤ code → (v n d : ℕ) → unary_word f code w ≡ done v → size_of E ≡ (n over d) → pair_of (number_of f v).value ≡ round (holds f) n d
  unary_rounded l v n d e s =
      subst (λ (z : ExactSize). RoundedTo f z v) s
      (of_unary l (RoundedTo f (size_of E)) (λ h z. word_rounded f h Said.approximate E z) v e)

  -- Finite results are the exact result rounded, its sign kept; zero, infinity and not-a-number are what the exact result is.
  pub unary_value : 3 ≤ code → (v : ℕ) → unary_word f code w ≡ done v → (number_of f v).value ≡ written_value f E
  unary_value l = of_unary l (λ v. (number_of f v).value ≡ written_value f E) (λ h z. word_value f h Said.approximate E z)

  -- The mark is inherited; a result that doesn't fit is rounded and marked; not-a-number has none.
  pub unary_mark : 3 ≤ code → (v : ℕ) → unary_word f code w ≡ done v
      → (number_of f v).approximate ≡ (if is_nan E then false else Said.approximate || changed f (size_of E) v)
  unary_mark l =
      of_unary l (λ v. (number_of f v).approximate ≡ (if is_nan E then false else Said.approximate || changed f (size_of E) v))
      (λ h z. word_mark f h Said.approximate E z)

  -- Where the exact result fits the mark is the operand's.
  pub mark_exact : 3 ≤ code → ExactIn f E → (v : ℕ) → unary_word f code w ≡ done v → (number_of f v).approximate ≡ (if is_nan E then false else Said.approximate)
  unfolding ExactIn
  mark_exact l x =
      of_unary l (λ v. (number_of f v).approximate ≡ (if is_nan E then false else Said.approximate)) (λ h z. word_exact f h Said.approximate E z (unmarked E x))
    where
      unmarked : (u : Value) → ExactIn f u → marks f u ≡ false
      unmarked (Fraction p) i = i
      unmarked (Zero s) i = refl
      unmarked (Infinity s) i = refl
      unmarked NotANumber i = refl

  -- The exact result's sign is kept.
  pub result_sign : 3 ≤ code → (v : ℕ) → unary_word f code w ≡ done v → (parts_of (number_of f v).value).negative ≡ (parts_of E).negative
  result_sign l = of_unary l (λ v. (parts_of (number_of f v).value).negative ≡ (parts_of E).negative) (λ h z. word_sign f h Said.approximate E z)

  -- Not-a-number gives not-a-number, in its one word, whatever the code.
  pub unary_nan : is_unary code ≡ true → check_word f w ≡ done tt → Said.value ≡ NotANumber → unary_word f code w ≡ done (nan_word f)
  unfolding unary_result exact_unary word_for is_nan
  unary_nan i c n =
      let e : unary_result f code w Said ≡ nan_word f = rw n (if_same (leb code 2)) in
      sym (checked_made _ _ unary_checked (sym c ∙ check_word_lem (checked_known f w c) i) (sym e))
    where
      if_same : (b : Bool) → (if b && false then sign_touched f code w else nan_word f) ≡ nan_word f
      if_same true = refl
      if_same false = refl

-- ---- what always fits

module _ (f : Format) (h : known f ≡ true) where
  -- a format that holds n/d holds d/n
  holds_turned : (n d : ℕ) → holds f n d ≡ true → holds f d n ≡ true
  holds_turned n d e = go (ℕ_discrete f.kind 1)
    where
      go : Dec (f.kind ≡ 1) → holds f d n ≡ true
      go (yes k) = let b = fixed_holds f n d k e in holds_both f d n k (omega arith) (omega arith)
      go (no k) = let b = floating_holds f n d k e in holds_sum f d n k (omega arith)

  module _ (p : Parts) (q : HeldParts f p) where
    smaller_held : (m c : ℕ) → m ≤ p.numerator → 1 ≤ c → c ≤ p.denominator → (rounded f m c).approximate ≡ false
    smaller_held m c a l b = held_exact f h m c l ((format_limit f h).downward p.numerator p.denominator m c q.holds_it a l b)

    -- so are whole numbers of no larger size
    whole_held : (z : ℤ) → nat_abs z ≤ nat_abs (signed_numerator p) → ExactIn f (Fraction (over_one z))
    unfolding ExactIn over_one signed_numerator
    whole_held z l = smaller_held (nat_abs z) 1 (omega (arith, signed_size p.negative p.numerator)) (omega arith) q.some_denominator

    -- mod 1 of what isn't negative, or in a fixed format
    mod_exact : (p.negative ≡ false) ⊎ (f.kind ≡ 1) → ExactIn f (Fraction (mod_parts p))
    unfolding ExactIn mod_parts signed_numerator signed_of
    mod_exact (inl e) =
        let l : above_floor (signed_of p.negative p.numerator) p.denominator ≤ p.numerator =
        subst⁻¹ (λ (b : Bool). above_floor (signed_of b p.numerator) p.denominator ≤ p.numerator) e (above_le p.numerator p.denominator)
        in
        smaller_held _ p.denominator l q.some_denominator (omega arith)
    mod_exact (inr k) =
        let n : ℤ = signed_of p.negative p.numerator in
        let b = fixed_holds f p.numerator p.denominator k q.holds_it in
        let l : above_floor n p.denominator < p.denominator = above_lt n p.denominator q.some_denominator in
        held_exact f h (above_floor n p.denominator) p.denominator q.some_denominator (holds_both f _ _ k (omega arith) (omega arith))

    parts_exact : (code : ℕ) → (code ≡ 6 → ExactIn f (Fraction (mod_parts p))) → ExactIn f (Fraction (exact_parts code p))
    unfolding ExactIn floor_parts ceiling_parts reciprocal_parts
    parts_exact code m =
        by_code code p (λ r. ExactIn f (Fraction r)) (held_exact f h p.denominator p.numerator q.some_numerator (holds_turned p.numerator p.denominator q.holds_it))
        (whole_held (floor_by (signed_numerator p) p.denominator) (floor_size (signed_numerator p) p.denominator))
        (whole_held (ceiling_by (signed_numerator p) p.denominator) (ceiling_size (signed_numerator p) p.denominator)) m
        (held_exact f h p.numerator p.denominator q.some_denominator q.holds_it)

  value_exact : (code : ℕ) → (code ≡ 6 → ⊥) → (v : Value) → HeldValue f v → ExactIn f (exact_unary code v)
  unfolding HeldValue exact_unary ExactIn
  value_exact code n (Fraction p) q = parts_exact p q code (λ e. absurd (n e))
  value_exact code n (Zero s) q = (by_case code s (ExactIn f) (λ t. tt) (λ t. tt) tt).0
  value_exact code n (Infinity s) q = (by_case code s (ExactIn f) (λ t. tt) (λ t. tt) tt).1
  value_exact code n NotANumber q = tt

-- Reciprocal, floor, ceiling and normalise always fit.
pub unary_exact : (f : Format) (code w : ℕ) (x : Number) → read_word f w ≡ done x → (code ≡ 6 → ⊥) → ExactIn f (exact_unary code x.value)
unary_exact f code w x r n = let h = read_known f w x r in value_exact f h code n x.value (read_held f h w x r)

-- Mod 1 fits in every fixed format, and of what isn't negative.
pub mod_1_exact : (f : Format) (w : ℕ) (x : Number) (p : Parts) → read_word f w ≡ done x → x.value ≡ Fraction p → (p.negative ≡ false) ⊎ (f.kind ≡ 1)
    → ExactIn f (exact_unary 6 x.value)
unfolding HeldValue exact_unary exact_parts
mod_1_exact f w x p r e c =
    let h = read_known f w x r in
    subst⁻¹ (λ (v : Value). ExactIn f (exact_unary 6 v)) e (mod_exact f h p (subst (HeldValue f) e (read_held f h w x r)) c)

-- but for mod 1, only not-a-number gives not-a-number
nan_kept : (code : ℕ) → (code ≡ 6 → ⊥) → (v : Value) → is_nan (exact_unary code v) ≡ is_nan v
unfolding exact_unary exact_zero exact_infinity is_nan
nan_kept code n (Fraction p) = refl
nan_kept code n (Zero s) =
    if_case (λ u. is_nan u ≡ false) (eqb code 3) _ _ (λ e. refl) (λ e. if_case (λ u. is_nan u ≡ false) (eqb code 7) _ _ (λ g. refl) (λ g. refl))
nan_kept code n (Infinity s) =
    if_case (λ u. is_nan u ≡ false) (eqb code 3) _ _ (λ e. refl)
    (λ e. if_case (λ u. is_nan u ≡ false) (eqb code 6) _ _ (λ g. absurd (n (eqb-true _ _ g))) (λ g. refl))
nan_kept code n NotANumber = refl

-- So the mark of reciprocal, floor, ceiling and normalise is inherited. (Not-a-number has none.)
pub mark_inherited : (f : Format) (code w : ℕ) (x : Number) → 3 ≤ code → (code ≡ 6 → ⊥) → read_word f w ≡ done x → (v : ℕ) → unary_word f code w ≡ done v
    → (number_of f v).approximate ≡ (if is_nan x.value then false else x.approximate)
mark_inherited f code w x l n r v e =
    let s : number_of f w ≡ x = done_inj (sym (checked_read f w (read_checked f w r)) ∙ r) in
    subst (λ (y : Number). (number_of f v).approximate ≡ (if is_nan y.value then false else y.approximate)) s
    (mark_exact f code w l (unary_exact f code w (number_of f w) (checked_read f w (read_checked f w r)) n) v e
    ∙ ap (λ (b : Bool). if b then false else (number_of f w).approximate) (nan_kept code n (number_of f w).value))

-- ---- the sign of zeros

-- what holds of floor, ceiling and mod 1
by_floor : (P : ℕ → Type 0) → P 4 → P 5 → P 6 → (code : ℕ) → 4 ≤ code → code ≤ 6 → P code
by_floor P a b c code l h = go (ℕ_discrete code 4) (ℕ_discrete code 5)
  where
    go : Dec (code ≡ 4) → Dec (code ≡ 5) → P code
    go (yes i) j = subst⁻¹ P i a
    go (no i) (yes j) = subst⁻¹ P j b
    go (no i) (no j) = let k : code ≡ 6 = omega arith in subst⁻¹ P k c

whole_sign : (z : ℤ) → (over_one z).numerator ≡ 0 → (over_one z).negative ≡ false
unfolding over_one is_below_zero
whole_sign (pos n) e = refl
whole_sign (negsuc m) e = absurd (omega arith)

-- Zeros from floor, ceiling and mod 1 have sign 0.
pub zero_sign : (v : Value) (code : ℕ) → 4 ≤ code → code ≤ 6 → (parts_of (exact_unary code v)).numerator ≡ 0 → (parts_of (exact_unary code v)).negative ≡ false
unfolding exact_unary exact_parts floor_parts ceiling_parts mod_parts exact_zero exact_infinity
zero_sign (Fraction p) =
    by_floor (λ c. (parts_of (exact_unary c (Fraction p))).numerator ≡ 0 → (parts_of (exact_unary c (Fraction p))).negative ≡ false)
    (whole_sign _) (whole_sign _) (λ e. refl)
zero_sign (Zero s) =
    by_floor (λ c. (parts_of (exact_unary c (Zero s))).numerator ≡ 0 → (parts_of (exact_unary c (Zero s))).negative ≡ false) (λ e. refl) (λ e. refl) (λ e. refl)
zero_sign (Infinity s) =
    by_floor (λ c. (parts_of (exact_unary c (Infinity s))).numerator ≡ 0 → (parts_of (exact_unary c (Infinity s))).negative ≡ false)
    (λ e. absurd (omega arith)) (λ e. absurd (omega arith)) (λ e. refl)
zero_sign NotANumber = λ code l h e. refl
