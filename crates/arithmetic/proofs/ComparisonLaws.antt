-- Comparison. Assumes nothing.
-- `line_order`: places on a line stand as sign and size do, +0 = -0 among them. `compare_left`, `compare_right`, `compare_both`: the stops, in
-- their order, and the answer; the others are one for each way through the code.
use mathlib.Core.Path.{◌≡◌, refl, sym, ap, ◌∙◌, subst}
use mathlib.Core.Bool.{Bool, true, false, ◌&&◌, ◌||◌, false≢true}
use Prim.Native.Nat.{ℕ, ◌+◌, ◌-◌, ◌^◌, ◌≤◌, ◌<◌}
use native.Mathlib.Omega.{arith}
use native.Mathlib.Decide.{ℕ_discrete, dec_le}
use lib.Dec.{eqb}
use borrow.Author.Tests.{lt-ltb, le-ltb, eq-eqb, ne_eqb}
use Rattle.std.specs.Prelude.{Err}
use Rattle.slash.specs.Answers.{done}
use Rattle.slash.specs.Reading.{number_in, check_word, read_word}
use Rattle.slash.specs.Numbers.{is_nan, parts_of}
use Rattle.slash.proofs.ReadingLaws.{checked_number, checked_read}
use Rattle.slash.proofs.AnswerLaws.{then_stop, then_done, at_both}
use Rattle.slash.specs.declared.answer.Stop.{Stop}
use Rattle.slash.specs.declared.format.Format.{Format}
use Rattle.slash.specs.declared.number.Parts.{Parts}
use Rattle.slash.specs.declared.number.Value.{Value}
use Rattle.slash.specs.declared.number.Value.TheVariants.{Fraction, Zero, Infinity, NotANumber}
use Rattle.slash.specs.declared.number.Number.{Number}
use Rattle.arithmetic.specs.Operands.{operand_of}
use Rattle.arithmetic.specs.Steps.{Small, on_line, is_fraction}
use Rattle.arithmetic.specs.Comparison.{order_number, order_of, signed_order, compare_of, compare_values, compare_words}
use Rattle.arithmetic.specs.declared.operand.Operand.TheVariants.{Finite}
use Rattle.arithmetic.specs.declared.comparison.Order.{Order}
use Rattle.arithmetic.specs.declared.comparison.Order.TheVariants.{Below, Equal, Above, Unordered}

module _ (m n : ℕ) where
  pub order_below : m < n → Below ≡ order_of m n
  unfolding order_of
  order_below h = rw (lt-ltb _ _ h) refl

  pub order_equal : n ≤ m → m ≡ n → Equal ≡ order_of m n
  unfolding order_of
  order_equal h e = rw (le-ltb _ _ h, eq-eqb _ _ e) refl

  pub order_above : n ≤ m → (m ≡ n → ⊥) → Above ≡ order_of m n
  unfolding order_of
  order_above h e = rw (le-ltb _ _ h, ne_eqb _ _ e) refl

module _ (s t : Bool) (m n : ℕ) where
  pub signed_zero : (eqb m 0 && eqb n 0) ≡ true → Equal ≡ signed_order s t m n
  unfolding signed_order
  signed_zero z = rw z refl

  module _ (z : (eqb m 0 && eqb n 0) ≡ false) where
    pub signed_both : s ≡ true → t ≡ true → order_of n m ≡ signed_order s t m n
    unfolding signed_order
    signed_both a b = rw (z, a, b) refl

    pub signed_below : s ≡ true → t ≡ false → Below ≡ signed_order s t m n
    unfolding signed_order
    signed_below a b = rw (z, a, b) refl

    pub signed_above : s ≡ false → t ≡ true → Above ≡ signed_order s t m n
    unfolding signed_order
    signed_above a b = rw (z, a, b) refl

    pub signed_neither : s ≡ false → t ≡ false → order_of m n ≡ signed_order s t m n
    unfolding signed_order
    signed_neither a b = rw (z, a, b) refl

-- numbers that lie as others do
order_same : (p q m n : ℕ) → (p < q → m < n) → (p ≡ q → m ≡ n) → (q < p → n < m) → order_of p q ≡ order_of m n
order_same p q m n below equal above = go (dec_le (p + 1) q) (ℕ_discrete p q)
  where
    go : Dec (p + 1 ≤ q) → Dec (p ≡ q) → order_of p q ≡ order_of m n
    go (yes l) e = let i : p < q = omega arith in sym (order_below p q i) ∙ order_below m n (below i)
    go (no l) (yes e) = sym (order_equal p q (omega arith) e) ∙ order_equal m n (omega (arith, equal e)) (equal e)
    go (no l) (no e) =
        let g : n < m = above (omega arith) in
        sym (order_above p q (omega arith) e) ∙ order_above m n (omega arith) (λ i. omega arith)

-- signs and sizes by their places on a line
pub line_order : (s t : Bool) (m n : ℕ) → m < 2 ^ 62 → n < 2 ^ 62 → order_of (on_line s m) (on_line t n) ≡ signed_order s t m n
line_order s t m n l k = go s t (ℕ_discrete m 0) (ℕ_discrete n 0)
  where
    neither : (m ≡ 0 → n ≡ 0 → ⊥) → Dec (m ≡ 0) → (eqb m 0 && eqb n 0) ≡ false
    neither i (yes e) = rw (eq-eqb _ _ e, ne_eqb _ _ (i e)) refl
    neither i (no e) = rw (ne_eqb _ _ e) refl

    zero : (s t : Bool) → m ≡ 0 → n ≡ 0 → order_of (on_line s m) (on_line t n) ≡ signed_order s t m n
    zero s t d e =
        let i : on_line s m ≡ on_line t n = same s t in
        sym (order_equal _ _ (omega arith) i) ∙ signed_zero s t m n (rw (eq-eqb _ _ d, eq-eqb _ _ e) refl)
      where
        same : (s t : Bool) → on_line s m ≡ on_line t n
        same true true = omega arith
        same true false = omega arith
        same false true = omega arith
        same false false = omega arith

    below : (m ≡ 0 → n ≡ 0 → ⊥) → Dec (m ≡ 0) → 2 ^ 62 - m < 2 ^ 62 + n
    below i (yes e) = let j : n ≡ 0 → ⊥ = i e in omega arith
    below i (no e) = omega arith

    above : (m ≡ 0 → n ≡ 0 → ⊥) → Dec (m ≡ 0) → 2 ^ 62 - n < 2 ^ 62 + m
    above i (yes e) = let j : n ≡ 0 → ⊥ = i e in omega arith
    above i (no e) = omega arith

    some : (s t : Bool) → (m ≡ 0 → n ≡ 0 → ⊥) → (eqb m 0 && eqb n 0) ≡ false → order_of (on_line s m) (on_line t n) ≡ signed_order s t m n
    some true true i z = order_same (2 ^ 62 - m) (2 ^ 62 - n) n m (λ h. omega arith) (λ h. omega arith) (λ h. omega arith) ∙ signed_both true true m n z refl refl
    some true false i z = sym (order_below _ _ (below i (ℕ_discrete m 0))) ∙ signed_below true false m n z refl refl
    some false true i z =
        let h : 2 ^ 62 - n < 2 ^ 62 + m = above i (ℕ_discrete m 0) in
        sym (order_above _ _ (omega arith) (λ e. omega arith)) ∙ signed_above false true m n z refl refl
    some false false i z = order_same (2 ^ 62 + m) (2 ^ 62 + n) m n (λ h. omega arith) (λ h. omega arith) (λ h. omega arith) ∙ signed_neither false false m n z refl refl

    go : (s t : Bool) → Dec (m ≡ 0) → Dec (n ≡ 0) → order_of (on_line s m) (on_line t n) ≡ signed_order s t m n
    go s t (yes d) (yes e) = zero s t d e
    go s t (yes d) (no e) = let i : m ≡ 0 → n ≡ 0 → ⊥ = λ _ h. e h in some s t i (neither i (yes d))
    go s t (no d) e = let i : m ≡ 0 → n ≡ 0 → ⊥ = λ h _. d h in some s t i (neither i (no d))

-- not-a-number
module _ (v w : Value) (b : Bool) (be : b ≡ (is_nan v || is_nan w)) where
  pub compare_nan : b ≡ true → Unordered ≡ compare_values v w
  unfolding compare_values
  compare_nan e = rw (← be, e) refl

-- two fractions
fraction_is : (v : Value) → is_fraction v ≡ true → v ≡ Fraction (parts_of v)
unfolding is_fraction
fraction_is (Fraction p) e = refl
fraction_is (Zero s) e = absurd (false≢true e)
fraction_is (Infinity s) e = absurd (false≢true e)
fraction_is NotANumber e = absurd (false≢true e)

module _ (v : Value) (e : is_fraction v ≡ true) (p : Parts) (pe : p ≡ parts_of v) where
  pub fraction_parts : v ≡ Fraction p
  fraction_parts = fraction_is v e ∙ ap Fraction (sym pe)

  pub fraction_small : Small (operand_of v) → Small (Finite p)
  unfolding operand_of
  fraction_small s = subst (λ (u : Value). Small (operand_of u)) fraction_parts s

pub compare_fractions : (v w : Value) (p q : Parts) → v ≡ Fraction p → w ≡ Fraction q → (r : Order) → r ≡ compare_of (Finite p) (Finite q) → r ≡ compare_values v w
unfolding compare_values is_nan operand_of
compare_fractions v w p q ve we r re = at_both compare_values ve we re

-- the answers of `compare`
module _ (f : Format) (left right : ℕ) where
  pub compare_left : {s : Stop} → Err s ≡ read_word f left → Err s ≡ compare_words f left right
  unfolding compare_words
  compare_left e = then_stop _ e

  module _ (x : Number) (xe : done x ≡ read_word f left) where
    pub compare_right : {s : Stop} → Err s ≡ read_word f right → Err s ≡ compare_words f left right
    unfolding compare_words
    compare_right e = then_done _ xe (then_stop _ e)

-- two good words, whose values are v and w
pub compare_both : (f : Format) (left right : ℕ) → check_word f left ≡ done tt → check_word f right ≡ done tt → (v w : Value) → v ≡ (number_in f left).value
    → w ≡ (number_in f right).value → (o : Order) → o ≡ compare_values v w → done (order_number o) ≡ compare_words f left right
unfolding compare_words
compare_both f left right c d v w ve we o e =
    then_done _ (sym (checked_read f left c)) (then_done _ (sym (checked_read f right d)) (ap (λ (x : Order). done (order_number x)) (e ∙ rw (ve, we, checked_number f left c, checked_number f right d) refl)))
