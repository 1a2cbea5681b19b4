-- The binary operations. Assumes nothing.
-- `binary_best`: demand 3, of every two words and each code. `binary_canonical`: every result is a canonical word. `binary_rounded`: demand 2,
-- every finite result is the exact result cut to its last convergent that the format holds. `binary_value`: what the new word says, of every
-- exact result. `binary_mark`, `binary_sign`, `binary_nan`: its mark, its sign, and what not-a-number gives.
-- `sum_exact`: as a signed number the sum's sign and size are the exact sum. `over_exact`: the exact result is never over 0, so that stop 6 can't
-- come. `stop_format` to `stop_right`: the stops, in their order. `code_is`, `no_operation`: a code and its operation. `steps`: what the search
-- for the functions' proofs uses.
use mathlib.Core.Path.{◌≡◌, refl, sym, ap, ◌∙◌, subst, subst⁻¹}
use mathlib.Core.Bool.{Bool, true, false, not, ◌||◌, ◌&&◌, and-false}
use Prim.Native.Nat.{ℕ, ◌+◌, ◌-◌, ◌*◌, ◌≤◌, ◌<◌}
use native.Mathlib.Omega.{arith}
use native.Mathlib.Nat.{one-le-mul}
use native.Mathlib.Decide.{ℕ_discrete, dec_le}
use lib.Dec.{leb, eqb}
use lib.IntN.{ℤ, pos, neg_ℤ, ◌+ℤ◌, ◌-ℤ◌, +ℤ_comm, +ℤ-neg_ℤ_cancel, neg_ℤ-neg_ℤ, neg_ℤ-+ℤ}
use borrow.Author.Tests.{le-leb, lt-leb, eq-eqb, ne_eqb}
use Rattle.std.specs.Prelude.{Ok, Err, IsOk, is_ok}
use Rattle.std.specs.Prelude.{if◌then◌else◌}
use Rattle.convergents.specs.Rounding.{round}
use Rattle.slash.specs.Answers.{Outcome, stop, done, ◌then◌, WhenDone}
use Rattle.slash.specs.Formats.{known, check_format, holds}
use Rattle.slash.specs.Numbers.{signed_of, is_nan, parts_of, pair_of}
use Rattle.slash.specs.Reading.{number_of, number_in, check_word}
use Rattle.slash.specs.Writing.{nan_word, word_for, is_over_zero, write_number}
use Rattle.slash.specs.Best.{ExactSize, ◌over◌, BestForSize, BestForValue}
use Rattle.slash.proofs.AnswerLaws.{passed_on, plain_stop, done_inj, no_stop, then_stop, then_done, checked_stop, checked_made, some_not, if_case, when_checked}
use Rattle.slash.proofs.FormatLaws.{format_good, check_known}
use Rattle.slash.proofs.ReadingLaws.{check_stop, check_good, check_value, check_mark, checked_known, checked_number}
use Rattle.slash.proofs.WritingLaws.{write_done, word_best}
use Rattle.slash.specs.Canonical.{CanonicalWord}
use Rattle.slash.proofs.CanonicalLaws.{written_canonical}
use Rattle.slash.proofs.WordLaws.{written_value, RoundedTo, changed, word_value, word_rounded, word_mark, word_sign}
use Rattle.slash.specs.declared.answer.Stop.{Stop}
use Rattle.slash.specs.declared.format.Format.{Format}
use Rattle.slash.specs.declared.number.Parts.{Parts}
use Rattle.slash.specs.declared.number.Value.{Value}
use Rattle.slash.specs.declared.number.Value.TheVariants.{Fraction, Infinity, NotANumber}
use Rattle.slash.specs.declared.number.Number.{Number}
use Rattle.arithmetic.specs.Operands.{operand_of, sign_of, differ, turned}
use Rattle.arithmetic.specs.Steps.{Small, value_from, code_of, operation_of}
use Rattle.arithmetic.specs.Operations.{sum_size, sum_sign, sum_parts, sum_of, times_infinity, product_parts, product_of, divided_by, quotient_of, exact_of, exact_value, is_binary, combined, check_binary, binary_word}
use Rattle.vectors.specs.Each.{stop_only}
use Rattle.vectors.proofs.EachLaws.{stop_checked}
use Rattle.arithmetic.specs.Sizes.{binary_size}
use Rattle.arithmetic.specs.declared.operation.Operation.{Operation}
use Rattle.arithmetic.specs.declared.operation.Operation.TheVariants.{Add, Subtract, Multiply, Divide}
use Rattle.arithmetic.specs.declared.operand.Operand.{Operand}
use Rattle.arithmetic.specs.declared.operand.Operand.TheVariants.{Finite, Infinite}
use Rattle.arithmetic.proofs.OperandLaws.{small_turned, checked_small, checked_operand, back, same_operand}
use Rattle.arithmetic.proofs.SizeLaws.{size_exact}

-- ---- the sum

module _ (s t : Bool) (ad bc size : ℕ) where
  pub sign_zero : size ≡ 0 → false ≡ sum_sign s t ad bc size
  unfolding sum_sign
  sign_zero z = rw (eq-eqb _ _ z) refl

  pub sign_left : (size ≡ 0 → ⊥) → bc ≤ ad → s ≡ sum_sign s t ad bc size
  unfolding sum_sign
  sign_left n h = rw (ne_eqb _ _ n, le-leb _ _ h) refl

  pub sign_right : (size ≡ 0 → ⊥) → ad < bc → t ≡ sum_sign s t ad bc size
  unfolding sum_sign
  sign_right n h = rw (ne_eqb _ _ n, lt-leb _ _ h) refl

-- The sum's sign and size are the exact sum's, as signed numbers.
zero_signed : (s t : Bool) (n : ℕ) → n ≡ 0 → signed_of s n ≡ signed_of t n
unfolding signed_of
zero_signed true true n z = refl
zero_signed true false n z = rw z refl
zero_signed false true n z = rw z refl
zero_signed false false n z = refl

-- a less b, where it isn't below 0
less_is : (a b n : ℕ) → a ≡ n + b → pos a +ℤ neg_ℤ (pos b) ≡ pos n
less_is a b n e = ap (λ (m : ℕ). pos m -ℤ pos b) e ∙ +ℤ-neg_ℤ_cancel (pos n) (pos b)

-- and turned
less_turned : (a b n : ℕ) → a ≡ n + b → neg_ℤ (pos a) +ℤ pos b ≡ neg_ℤ (pos n)
less_turned a b n e =
    ap (λ (z : ℤ). neg_ℤ (pos a) +ℤ z) (sym (neg_ℤ-neg_ℤ (pos b))) ∙ sym (neg_ℤ-+ℤ (pos a) (neg_ℤ (pos b))) ∙ ap neg_ℤ (less_is a b n e)

module _ (s t : Bool) (ad bc size : ℕ) where
  signed_left : bc ≤ ad → signed_of (sum_sign s t ad bc size) size ≡ signed_of s size
  signed_left l = go (ℕ_discrete size 0)
    where
      go : Dec (size ≡ 0) → signed_of (sum_sign s t ad bc size) size ≡ signed_of s size
      go (yes z) = zero_signed _ s size z
      go (no n) = ap (λ (b : Bool). signed_of b size) (sym (sign_left s t ad bc size n l))

  signed_right : ad < bc → signed_of (sum_sign s t ad bc size) size ≡ signed_of t size
  signed_right l = go (ℕ_discrete size 0)
    where
      go : Dec (size ≡ 0) → signed_of (sum_sign s t ad bc size) size ≡ signed_of t size
      go (yes z) = zero_signed _ t size z
      go (no n) = ap (λ (b : Bool). signed_of b size) (sym (sign_right s t ad bc size n l))

module _ (ad bc : ℕ) where
  abbrev Exact : Bool → Bool → Type 0
  Exact s t =
      let size : ℕ = sum_size (differ s t) ad bc in
      signed_of (sum_sign s t ad bc size) size ≡ signed_of s ad +ℤ signed_of t bc

  exact_left : bc ≤ ad → (s t : Bool) → Exact s t
  unfolding signed_of sum_size
  exact_left l true true = signed_left true true ad bc _ l ∙ neg_ℤ-+ℤ (pos ad) (pos bc)
  exact_left l true false = signed_left true false ad bc _ l ∙ sym (less_turned ad bc (ad - bc + (bc - ad)) (omega arith))
  exact_left l false true = signed_left false true ad bc _ l ∙ sym (less_is ad bc (ad - bc + (bc - ad)) (omega arith))
  exact_left l false false = signed_left false false ad bc _ l

  exact_right : ad < bc → (s t : Bool) → Exact s t
  unfolding signed_of sum_size
  exact_right l true true = signed_right true true ad bc _ l ∙ neg_ℤ-+ℤ (pos ad) (pos bc)
  exact_right l true false = signed_right true false ad bc _ l ∙ sym (+ℤ_comm (neg_ℤ (pos ad)) (pos bc) ∙ less_is bc ad (ad - bc + (bc - ad)) (omega arith))
  exact_right l false true = signed_right false true ad bc _ l ∙ sym (+ℤ_comm (pos ad) (neg_ℤ (pos bc)) ∙ less_turned bc ad (ad - bc + (bc - ad)) (omega arith))
  exact_right l false false = signed_right false false ad bc _ l

  pub sum_exact : (s t : Bool) → signed_of (sum_sign s t ad bc (sum_size (differ s t) ad bc)) (sum_size (differ s t) ad bc) ≡ signed_of s ad +ℤ signed_of t bc
  sum_exact s t = go (dec_le bc ad)
    where
      go : Dec (bc ≤ ad) → Exact s t
      go (yes l) = exact_left l s t
      go (no l) = exact_right (omega arith) s t

-- So a/b plus c/d is ad plus bc, with their signs, over bd.
pub parts_exact : (p q : Parts)
    → signed_of (sum_parts p q).negative (sum_parts p q).numerator
    ≡ signed_of p.negative (p.numerator * q.denominator) +ℤ signed_of q.negative (p.denominator * q.numerator)
unfolding sum_parts
parts_exact p q = sum_exact (p.numerator * q.denominator) (p.denominator * q.numerator) p.negative q.negative

-- ---- products and quotients

module _ (s : Bool) (p q : Parts) where
  pub divided_none : q.numerator ≡ 0 → p.numerator ≡ 0 → NotANumber ≡ divided_by s p q
  unfolding divided_by
  divided_none z y = rw (eq-eqb _ _ z, eq-eqb _ _ y) refl

  pub divided_infinity : q.numerator ≡ 0 → (p.numerator ≡ 0 → ⊥) → Infinity s ≡ divided_by s p q
  unfolding divided_by
  divided_infinity z n = rw (eq-eqb _ _ z, ne_eqb _ _ n) refl

  pub divided_some : (q.numerator ≡ 0 → ⊥)
      → Fraction (record { negative = s; numerator = p.numerator * q.denominator; denominator = p.denominator * q.numerator }) ≡ divided_by s p q
  unfolding divided_by
  divided_some n = rw (ne_eqb _ _ n) refl

-- ---- by code

module _ (code : ℕ) (x y : Operand) where
  pub exact_sum_lem : code ≡ 1 → sum_of x y ≡ exact_of code x y
  unfolding exact_of
  exact_sum_lem e = rw (eq-eqb _ _ e) refl

  pub exact_difference : (code ≡ 1 → ⊥) → code ≡ 2 → sum_of x (turned y) ≡ exact_of code x y
  unfolding exact_of
  exact_difference n e = rw (ne_eqb _ _ n, eq-eqb _ _ e) refl

  -- s and t are the signs
  module _ (n : code ≡ 1 → ⊥) (m : code ≡ 2 → ⊥) (s t : Bool) (se : s ≡ sign_of x) (te : t ≡ sign_of y) where
    pub exact_product : code ≡ 3 → product_of (differ s t) x y ≡ exact_of code x y
    unfolding exact_of
    exact_product e = rw (ne_eqb _ _ n, ne_eqb _ _ m, eq-eqb _ _ e, se, te) refl

    pub exact_quotient : (code ≡ 3 → ⊥) → quotient_of (differ s t) x y ≡ exact_of code x y
    unfolding exact_of
    exact_quotient l = rw (ne_eqb _ _ n, ne_eqb _ _ m, ne_eqb _ _ l, se, te) refl

pub code_good : (o : Operation) → is_binary (code_of o) ≡ true
unfolding code_of is_binary
code_good Add = refl
code_good Subtract = refl
code_good Multiply = refl
code_good Divide = refl

-- a code and its operation
module _ (code : ℕ) where
  by_code : (P : Outcome Operation → Bool → Type 0) → (code ≡ 1 → P (done Add) true) → (code ≡ 2 → P (done Subtract) true) → (code ≡ 3 → P (done Multiply) true)
      → (code ≡ 4 → P (done Divide) true) → P (stop 2 0) false → P (operation_of code) (is_binary code)
  unfolding operation_of is_binary
  by_code P one two three four none = go (ℕ_discrete code 1) (ℕ_discrete code 2) (ℕ_discrete code 3) (ℕ_discrete code 4)
    where
      go : Dec (code ≡ 1) → Dec (code ≡ 2) → Dec (code ≡ 3) → Dec (code ≡ 4) → P (operation_of code) (is_binary code)
      go (yes e) b c d = rw e (one e)
      go (no a) (yes e) c d = rw e (two e)
      go (no a) (no b) (yes e) d = rw e (three e)
      go (no a) (no b) (no c) (yes e) = rw e (four e)
      go (no a) (no b) (no c) (no d) = rw (ne_eqb _ _ a, ne_eqb _ _ b, ne_eqb _ _ c, ne_eqb _ _ d, outside (dec_le 1 code)) none
        where
          outside : Dec (1 ≤ code) → (leb 1 code && leb code 4) ≡ false
          outside (yes l) = let m : 4 < code = omega arith in rw (lt-leb _ _ m, and-false) refl
          outside (no l) = rw (lt-leb 1 code (omega arith)) refl

  pub code_is : (o : Operation) → operation_of code ≡ Ok o → code_of o ≡ code
  unfolding code_of
  code_is =
      by_code (λ r b. (o : Operation) → r ≡ Ok o → code_of o ≡ code) (λ e o h. ap code_of (sym (done_inj h)) ∙ sym e) (λ e o h. ap code_of (sym (done_inj h)) ∙ sym e)
      (λ e o h. ap code_of (sym (done_inj h)) ∙ sym e) (λ e o h. ap code_of (sym (done_inj h)) ∙ sym e) (λ o h. absurd (no_stop h))

  pub code_known : (o : Operation) → operation_of code ≡ Ok o → is_binary code ≡ true
  code_known o h = ap is_binary (sym (code_is o h)) ∙ code_good o

  pub no_operation : (s : Stop) → Err s ≡ operation_of code → (is_binary code ≡ false) × (s ≡ record { number = 2; place = 0 })
  no_operation =
      by_code (λ r b. (s : Stop) → Err s ≡ r → (b ≡ false) × (s ≡ record { number = 2; place = 0 })) (λ e s h. absurd (no_stop h)) (λ e s h. absurd (no_stop h))
      (λ e s h. absurd (no_stop h)) (λ e s h. absurd (no_stop h)) (λ s h. (refl, cc))

  pub operation_ok : is_ok (operation_of code) ≡ is_binary code
  operation_ok = by_code (λ r b. is_ok r ≡ b) (λ e. refl) (λ e. refl) (λ e. refl) (λ e. refl) refl

-- not-a-number
module _ (code : ℕ) (v w : Value) (b : Bool) (be : b ≡ (is_nan v || is_nan w)) where
  pub exact_nan : b ≡ true → NotANumber ≡ exact_value code v w
  unfolding exact_value
  exact_nan e = rw (← be, e) refl

-- ---- no exact result is over 0

-- neither of two values is over 0, so what is picked isn't
over_either : (c : Bool) (v w : Value) → is_over_zero v ≡ false → is_over_zero w ≡ false → is_over_zero (if c then v else w) ≡ false
over_either c v w a b = if_case (λ u. is_over_zero u ≡ false) c v w (λ _. a) (λ _. b)

over_sum : (x y : Operand) → Small x → Small y → is_over_zero (sum_of x y) ≡ false
unfolding sum_of sum_parts is_over_zero Small
over_sum (Finite p) (Finite q) s t = some_not _ (one-le-mul s.some_denominator t.some_denominator)
over_sum (Finite p) (Infinite b) s t = refl
over_sum (Infinite a) (Finite q) s t = refl
over_sum (Infinite a) (Infinite b) s t = over_either (differ a b) NotANumber (Infinity a) refl refl

over_product : (c : Bool) (x y : Operand) → Small x → Small y → is_over_zero (product_of c x y) ≡ false
unfolding product_of product_parts times_infinity is_over_zero Small
over_product c (Finite p) (Finite q) s t = some_not _ (one-le-mul s.some_denominator t.some_denominator)
over_product c (Finite p) (Infinite b) s t = over_either (eqb p.numerator 0) NotANumber (Infinity c) refl refl
over_product c (Infinite a) (Finite q) s t = over_either (eqb q.numerator 0) NotANumber (Infinity c) refl refl
over_product c (Infinite a) (Infinite b) s t = refl

over_divided : (c : Bool) (p q : Parts) → Small (Finite p) → is_over_zero (divided_by c p q) ≡ false
unfolding is_over_zero Small
over_divided c p q s = go (ℕ_discrete q.numerator 0) (ℕ_discrete p.numerator 0)
  where
    go : Dec (q.numerator ≡ 0) → Dec (p.numerator ≡ 0) → is_over_zero (divided_by c p q) ≡ false
    go (yes z) (yes y) = ap is_over_zero (sym (divided_none c p q z y))
    go (yes z) (no n) = ap is_over_zero (sym (divided_infinity c p q z n))
    go (no n) y =
        let some : 1 ≤ q.numerator = omega arith in
        ap is_over_zero (sym (divided_some c p q n)) ∙ some_not _ (one-le-mul s.some_denominator some)

over_quotient : (c : Bool) (x y : Operand) → Small x → Small y → is_over_zero (quotient_of c x y) ≡ false
unfolding quotient_of is_over_zero
over_quotient c (Finite p) (Finite q) s t = over_divided c p q s
over_quotient c (Finite p) (Infinite b) s t = refl
over_quotient c (Infinite a) (Finite q) s t = refl
over_quotient c (Infinite a) (Infinite b) s t = refl

over_operands : (code : ℕ) (x y : Operand) → Small x → Small y → is_over_zero (exact_of code x y) ≡ false
over_operands code x y s t = go (ℕ_discrete code 1) (ℕ_discrete code 2) (ℕ_discrete code 3)
  where
    c : Bool
    c = differ (sign_of x) (sign_of y)

    go : Dec (code ≡ 1) → Dec (code ≡ 2) → Dec (code ≡ 3) → is_over_zero (exact_of code x y) ≡ false
    go (yes e) i j = ap is_over_zero (sym (exact_sum_lem code x y e)) ∙ over_sum x y s t
    go (no n) (yes e) j = ap is_over_zero (sym (exact_difference code x y n e)) ∙ over_sum x (turned y) s (small_turned y t)
    go (no n) (no m) (yes e) = ap is_over_zero (sym (exact_product code x y n m _ _ refl refl e)) ∙ over_product c x y s t
    go (no n) (no m) (no l) = ap is_over_zero (sym (exact_quotient code x y n m _ _ refl refl l)) ∙ over_quotient c x y s t

pub over_exact : (code : ℕ) (v w : Value) → Small (operand_of v) → Small (operand_of w) → is_over_zero (exact_value code v w) ≡ false
unfolding exact_value is_over_zero
over_exact code v w s t = over_either (is_nan v || is_nan w) NotANumber _ refl (over_operands code (operand_of v) (operand_of w) s t)

-- ---- by the parts of the operands

exact_back : (code : ℕ) (v w : Value) → Small (operand_of v) → Small (operand_of w) → exact_value code (back (parts_of v)) (back (parts_of w)) ≡ exact_value code v w
unfolding exact_value
exact_back code v w s t = rw ((same_operand v s).0, (same_operand v s).1, (same_operand w t).0, (same_operand w t).1) refl

-- the exact result e of the values v and w of those parts, written as o: it is always done
module _ (f : Format) (code : ℕ) (s t m : Bool) (a b c d : ℕ) {v w e : Value} {o : Outcome ℕ} (ve : v ≡ value_from s a b) (we : w ≡ value_from t c d)
    (ee : e ≡ exact_value code v w) (oe : o ≡ write_number f (record { value = e; approximate = m })) where
  abbrev Exact_number : Number
  Exact_number = record { value = exact_value code (value_from s a b) (value_from t c d); approximate = m }

  pub written_from : o ≡ write_number f Exact_number
  written_from = oe ∙ rw (ee, ve, we) refl

  pub written_good : known f ≡ true → Small (operand_of (value_from s a b)) → Small (operand_of (value_from t c d)) → IsOk o
  written_good h x y = subst⁻¹ IsOk (written_from ∙ sym (write_done f Exact_number h (over_exact code _ _ x y))) refl

-- ---- two words combined

combined_best : (f : Format) (code : ℕ) (x y : Number) → known f ≡ true → is_binary code ≡ true → Small (operand_of x.value) → Small (operand_of y.value)
    → BestForSize f (binary_size code x.value y.value) (combined f code x y)
unfolding combined BestForValue
combined_best f code x y h i s t =
    subst (λ (z : ExactSize). BestForSize f z (combined f code x y)) (size_exact code i x.value y.value)
    (word_best f h (x.approximate || y.approximate) (exact_value code x.value y.value) (over_exact code x.value y.value s t))

combined_canonical : (f : Format) (code : ℕ) (x y : Number) → known f ≡ true → Small (operand_of x.value) → Small (operand_of y.value)
    → CanonicalWord f (combined f code x y)
unfolding combined
combined_canonical f code x y h s t =
    let z : Number = record { value = exact_value code x.value y.value; approximate = x.approximate || y.approximate } in
    written_canonical f z _ (sym (write_done f z h (over_exact code x.value y.value s t)))

module _ (f : Format) (code left right : ℕ) where
  abbrev X : Number
  X = number_of f left

  abbrev Y : Number
  Y = number_of f right

  -- the code is one, and both words are good
  pub record Good : Type 0 where
    pub binary : is_binary code ≡ true
    pub left_good : check_word f left ≡ done tt
    pub right_good : check_word f right ≡ done tt

  pub both_good : is_binary code ≡ true → check_word f left ≡ done tt → check_word f right ≡ done tt → Good
  both_good i l r = record { binary = i; left_good = l; right_good = r }

  -- a call's stops first, and then its word
  pub binary_checked : (check_binary f code left right then λ _. done (combined f code X Y)) ≡ binary_word f code left right
  unfolding binary_word
  binary_checked = refl

  check_words : known f ≡ true → is_binary code ≡ true → (check_word f left then λ _. check_word f right) ≡ check_binary f code left right
  unfolding check_binary
  check_words h i = rw (format_good f h, i) refl

  -- ---- the stops of `binary`

  pub stop_format : {s : Stop} → Err s ≡ check_format f → Err s ≡ binary_word f code left right
  unfolding check_binary
  stop_format e = checked_stop _ _ binary_checked (then_stop _ e)

  module _ (h : known f ≡ true) where
    pub stop_code : is_binary code ≡ false → stop 2 0 ≡ binary_word f code left right
    unfolding check_binary
    stop_code i =
        let e : stop 2 0 ≡ check_binary f code left right = rw (format_good f h, i) refl in
        checked_stop _ _ binary_checked e

    module _ (i : is_binary code ≡ true) where
      pub stop_left : {s : Stop} → Err s ≡ check_word f left → Err s ≡ binary_word f code left right
      stop_left e = checked_stop _ _ binary_checked (then_stop (λ _. check_word f right) e ∙ check_words h i)

      pub stop_right : {s : Stop} → check_word f left ≡ done tt → Err s ≡ check_word f right → Err s ≡ binary_word f code left right
      stop_right g e = checked_stop _ _ binary_checked (then_done (λ _. check_word f right) (sym g) e ∙ check_words h i)

      -- a vector form stops as the check of its words does
      pub binary_stop_only : stop_only (binary_word f code left right) ≡ (check_word f left then λ _. check_word f right)
      binary_stop_only = stop_checked _ _ _ binary_checked ∙ sym (check_words h i)

  -- ---- what a call that isn't stopped has

  binary_good : done tt ≡ check_binary f code left right → Good
  unfolding check_binary
  binary_good e = go (check_format f) (is_binary code) (check_word f left) refl refl e
    where
      go : (k : Outcome (Unit {0})) (b : Bool) (o : Outcome (Unit {0})) → is_binary code ≡ b → check_word f left ≡ o
          → done tt ≡ (k then λ _. if not b then stop 2 0 else (o then λ _. check_word f right)) → Good
      go (Err s) b o i j h = absurd (no_stop (sym h))
      go (Ok u) false o i j h = absurd (no_stop (sym h))
      go (Ok u) true (Err s) i j h = absurd (no_stop (sym h))
      go (Ok u) true (Ok v) i j h = record { binary = i; left_good = j; right_good = sym h }

  abbrev pub BestHere : ℕ → Type 0
  BestHere w = BestForSize f (binary_size code X.value Y.value) w

  best_made : Good → BestHere (combined f code X Y)
  best_made g =
      combined_best f code X Y (checked_known f left g.left_good) g.binary (checked_small f left g.left_good) (checked_small f right g.right_good)

  -- ---- its word: that of the exact result v of two good words, whose values are x and y and whose marks are a and b

  module _ (good : Good) where
    written_combined : (x y v : Value) (a b : Bool) (r : ℕ) → x ≡ (number_in f left).value → y ≡ (number_in f right).value → v ≡ exact_value code x y
        → a ≡ (number_in f left).approximate → b ≡ (number_in f right).approximate
        → done r ≡ write_number f (record { value = v; approximate = a || b }) → r ≡ combined f code X Y
    unfolding combined
    written_combined x y v a b r xe ye ve ae be re =
        let i : number_in f left ≡ X = checked_number f left good.left_good in
        let j : number_in f right ≡ Y = checked_number f right good.right_good in
        let e : v ≡ exact_value code X.value Y.value = rw (ve, xe, ye, i, j) refl in
        let m : (a || b) ≡ (X.approximate || Y.approximate) = rw (ae, be, i, j) refl in
        let z : is_over_zero v ≡ false = ap is_over_zero e ∙ over_exact code X.value Y.value (checked_small f left good.left_good) (checked_small f right good.right_good) in
        done_inj (re ∙ sym (write_done f (record { value = v; approximate = a || b }) (checked_known f left good.left_good) z)) ∙ rw (e, m) refl

    -- the same by the parts p and q of the two values: what `combined_word` gives is what `binary` makes
    pub binary_made : (x y : Value) (p q : Parts) (a b : Bool) (r : ℕ) → x ≡ (number_in f left).value → y ≡ (number_in f right).value
        → p ≡ parts_of x → q ≡ parts_of y → a ≡ (number_in f left).approximate → b ≡ (number_in f right).approximate
        → done r ≡ write_number f (record { value = exact_value code (back p) (back q); approximate = a || b })
        → done r ≡ binary_word f code left right
    binary_made x y p q a b r xe ye pe qe ae be re =
        let e : exact_value code (back p) (back q) ≡ exact_value code x y =
        rw (pe, qe) (exact_back code x y (checked_operand f left good.left_good x xe) (checked_operand f right good.right_good y ye))
        in
        let w : r ≡ combined f code X Y = written_combined x y (exact_value code (back p) (back q)) a b r xe ye e ae be re in
        let c = then_done (λ _. check_word f right) (sym good.left_good) (sym good.right_good) ∙ check_words (checked_known f left good.left_good) good.binary in
        checked_made _ _ binary_checked c w

  -- what holds of the word that two good words are combined to holds of what `binary` makes
  when_binary : (P : ℕ → Type 0) → (Good → P (combined f code X Y)) → WhenDone (binary_word f code left right) P
  when_binary P good = when_checked (check_binary f code left right) (combined f code X Y) binary_checked P (λ e. good (binary_good e))

  -- Demand 3, of every word that the four operations make.
  pub binary_best : WhenDone (binary_word f code left right) BestHere
  binary_best = when_binary BestHere best_made

  -- an answer that is so has it, also one by the operation of the code
  module _ (o : Operation) (h : operation_of code ≡ Ok o) (r : Outcome ℕ) (e : r ≡ binary_word f (code_of o) left right) where
    pub by_operation : r ≡ binary_word f code left right
    by_operation = e ∙ ap (λ (n : ℕ). binary_word f n left right) (code_is code o h)

    pub best_too : WhenDone r BestHere
    best_too = subst⁻¹ (λ (p : Outcome ℕ). WhenDone p BestHere) by_operation binary_best

  -- Every word that they make is canonical.
  pub binary_canonical : (w : ℕ) → binary_word f code left right ≡ done w → CanonicalWord f w
  binary_canonical w e =
      subst (λ (o : Outcome ℕ). WhenDone o (λ v. CanonicalWord f v)) e
      (when_binary (λ v. CanonicalWord f v)
      (λ g. combined_canonical f code X Y (checked_known f left g.left_good) (checked_small f left g.left_good) (checked_small f right g.right_good)))

  -- what holds of that word holds of the word w that `binary` makes
  of_binary : (P : ℕ → Type 0) → (Good → P (combined f code X Y)) → (w : ℕ) → binary_word f code left right ≡ done w → P w
  of_binary P good w e = subst (λ (o : Outcome ℕ). WhenDone o P) e (when_binary P good)

  -- the exact result
  abbrev E : Value
  E = exact_value code X.value Y.value

  not_over : Good → is_over_zero E ≡ false
  not_over g = over_exact code X.value Y.value (checked_small f left g.left_good) (checked_small f right g.right_good)

  -- Every operation that gives a word is the exact result, N over D, cut to its last continued-fraction convergent that the format holds.
  pub binary_rounded : (w N D : ℕ) → binary_word f code left right ≡ done w → binary_size code X.value Y.value ≡ (N over D)
      → pair_of (number_of f w).value ≡ round (holds f) N D
  unfolding combined
  binary_rounded w N D e s =
      subst (λ (z : ExactSize). RoundedTo f z w) s
      (of_binary (RoundedTo f (binary_size code X.value Y.value))
      (λ g. subst (λ (z : ExactSize). RoundedTo f z (combined f code X Y)) (size_exact code g.binary X.value Y.value)
      (word_rounded f (checked_known f left g.left_good) (X.approximate || Y.approximate) E (not_over g))) w e)

  -- Finite results are the exact result rounded, its sign kept; zero, infinity and not-a-number are what the exact result is.
  pub binary_value : (w : ℕ) → binary_word f code left right ≡ done w → (number_of f w).value ≡ written_value f E
  unfolding combined
  binary_value =
      of_binary (λ w. (number_of f w).value ≡ written_value f E)
      (λ g. word_value f (checked_known f left g.left_good) (X.approximate || Y.approximate) E (not_over g))

  -- The mark is 1 if an operand's was or rounding changed the value, and 0 on not-a-number.
  pub binary_mark : (w : ℕ) → binary_word f code left right ≡ done w
      → (number_of f w).approximate ≡ (if is_nan E then false else (X.approximate || Y.approximate) || changed f (binary_size code X.value Y.value) w)
  unfolding combined
  binary_mark =
      let a : Bool = X.approximate || Y.approximate in
      of_binary (λ w. (number_of f w).approximate ≡ (if is_nan E then false else a || changed f (binary_size code X.value Y.value) w))
      (λ g. word_mark f (checked_known f left g.left_good) a E (not_over g)
      ∙ ap (λ (z : ExactSize). if is_nan E then false else a || changed f z (combined f code X Y)) (size_exact code g.binary X.value Y.value))

  -- The exact result's sign is kept through underflow and overflow.
  pub binary_sign : (w : ℕ) → binary_word f code left right ≡ done w → (parts_of (number_of f w).value).negative ≡ (parts_of E).negative
  unfolding combined
  binary_sign =
      of_binary (λ w. (parts_of (number_of f w).value).negative ≡ (parts_of E).negative)
      (λ g. word_sign f (checked_known f left g.left_good) (X.approximate || Y.approximate) E (not_over g))

  -- Any not-a-number operand gives one, in its one word.
  pub binary_nan : Good → (is_nan X.value || is_nan Y.value) ≡ true → binary_word f code left right ≡ done (nan_word f)
  unfolding combined word_for
  binary_nan g n =
      let c = then_done (λ _. check_word f right) (sym g.left_good) (sym g.right_good) ∙ check_words (checked_known f left g.left_good) g.binary in
      let e : word_for f (X.approximate || Y.approximate) E ≡ nan_word f = ap (word_for f (X.approximate || Y.approximate)) (sym (exact_nan code X.value Y.value _ refl n)) in
      sym (checked_made _ _ binary_checked c (sym e))

-- what `combined` and `binary` are proved by
pub ruleset steps = (passed_on, plain_stop, check_known, check_stop, check_good, check_value, check_mark, stop_format, stop_code, stop_left, stop_right, no_operation, code_good, both_good, binary_made, by_operation, best_too)
