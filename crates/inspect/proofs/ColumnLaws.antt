-- The columns of an inspected word. Assumes nothing.
-- `millionths_nearest`: no number of millionths is nearer to a size than those that are printed, and where another is as near they are even.
-- `size_length`, `stored_long`: how long the columns are.
use mathlib.Core.Path.{◌≡◌, refl, ap}
use mathlib.Core.Bool.{Bool, true, false}
use mathlib.Core.List.{List, [], ◌∷◌, ◌++◌}
use Prim.Native.Nat.{ℕ, ◌+◌, ◌*◌, ◌/◌, ◌%◌, ◌^◌, ◌≤◌, ◌<◌}
use native.Mathlib.Omega.{arith}
use native.Mathlib.Nat.{div-le_self}
use lib.Dec.{ltb, eqb}
use lib.ListN.{length, length-append}
use borrow.Author.Tests.{eq-eqb, ne_eqb}
use Rattle.convergents.specs.Pairs.{pair}
use Rattle.slash.proofs.AnswerLaws.{if_case}
use Rattle.slash.specs.declared.number.Parts.{Parts}
use Rattle.text.specs.Numbers.{tab, slash, point, decimal, hexadecimal}
use Rattle.text.specs.Columns.{distance, thousandths, fraction_text}
use Rattle.text.proofs.ColumnLaws.{NearestEven, nearest_even, thousandths_up, thousandths_down}
use Rattle.text.proofs.NumberLaws.{decimal_length, hexadecimal_length}
use Rattle.inspect.specs.Columns.{sign_text, mark_text, last_digits, six_places, size_text}
use Rattle.inspect.specs.Steps.{Room, column, stored_columns}
use Rattle.inspect.proofs.StoreLaws.{last_hex, last_length}

-- ---- a column

pub column_length : (t : List ℕ) → length (column t) ≡ 1 + length t
unfolding column
column_length t = omega arith

-- room for it is room for the tab that it begins with
pub column_room : {o : List ℕ} (t : List ℕ) → Room o (column t) → Room o (9 ∷ [])
column_room t h = record { room = omega (arith, h.room, column_length t) }

-- ---- sign, fraction, mark

module _ (b : Bool) where
  pub sign_minus : b ≡ true → (9 ∷ 45 ∷ []) ≡ column (sign_text b)
  unfolding column sign_text
  sign_minus e = rw e refl

  pub sign_plus : b ≡ false → (9 ∷ 43 ∷ []) ≡ column (sign_text b)
  unfolding column sign_text
  sign_plus e = rw e refl

  pub mark_approximate : b ≡ true → (9 ∷ 97 ∷ 112 ∷ 112 ∷ 114 ∷ 111 ∷ 120 ∷ 105 ∷ 109 ∷ 97 ∷ 116 ∷ 101 ∷ []) ≡ column (mark_text b)
  unfolding column mark_text
  mark_approximate e = rw e refl

  pub mark_exact : b ≡ false → (9 ∷ 101 ∷ 120 ∷ 97 ∷ 99 ∷ 116 ∷ []) ≡ column (mark_text b)
  unfolding column mark_text
  mark_exact e = rw e refl

pub fraction_column : (n d : ℕ) → tab ++ decimal n ++ slash ++ decimal d ≡ column (fraction_text (pair n d))
unfolding column fraction_text
fraction_column n d = refl

-- what a word stores, by its pieces
pub stored_pieces : (count w : ℕ) (p : Parts) (a : Bool)
    → last_digits 16 count w ++ column (sign_text p.negative) ++ column (fraction_text (pair p.numerator p.denominator)) ++ column (mark_text a)
    ≡ stored_columns count w p a
unfolding stored_columns
stored_pieces count w p a =
    ap (λ (t : List ℕ). t ++ column (sign_text p.negative) ++ column (fraction_text (pair p.numerator p.denominator)) ++ column (mark_text a))
    (last_hex count w)

-- ---- the size

-- The millionths that are printed are the nearest, at a tie the even ones: distances to 1000 times 1000 n/d.
pub millionths_nearest : (n d : ℕ) → 1 ≤ d → NearestEven (1000 * n) d (thousandths (1000 * n) d)
millionths_nearest n d h = nearest_even (1000 * n) d h

module _ (n d : ℕ) (pos : 1 ≤ d) where
  million : 1000000 * n ≡ 1000 * (1000 * n)
  million = omega arith

  pub millionths_up : d < 2 * (1000000 * n % d) + 1000000 * n / d % 2 → 1000000 * n / d + 1 ≡ thousandths (1000 * n) d
  millionths_up l =
      thousandths_up (1000 * n) d pos (1000000 * n / d) (2 * (1000000 * n % d)) (ap (λ (m : ℕ). m / d) million) (ap (λ (m : ℕ). 2 * (m % d)) million) l

  pub millionths_down : 2 * (1000000 * n % d) + 1000000 * n / d % 2 ≤ d → 1000000 * n / d ≡ thousandths (1000 * n) d
  millionths_down l =
      thousandths_down (1000 * n) d pos (1000000 * n / d) (2 * (1000000 * n % d)) (ap (λ (m : ℕ). m / d) million) (ap (λ (m : ℕ). 2 * (m % d)) million) l

pub places_pieces : (t : ℕ) → decimal (t / 1000000) ++ point ++ last_digits 10 6 t ≡ six_places t
unfolding six_places
places_pieces t = refl

module _ (n d : ℕ) where
  pub size_none : d ≡ 0 → (9 ∷ 45 ∷ []) ≡ column (size_text n d)
  unfolding column size_text
  size_none e = rw (eq-eqb _ _ e) refl

  pub size_some : (d ≡ 0 → ⊥) → (t : ℕ) → t ≡ thousandths (1000 * n) d → tab ++ six_places t ≡ column (size_text n d)
  unfolding column size_text
  size_some h t e = rw (ne_eqb _ _ h, e) refl

-- ---- how long the columns are

thousandths_most : (n d : ℕ) → thousandths n d ≤ 1000 * n + 1
unfolding thousandths
thousandths_most n d =
    let below : ℕ = 1000 * n / d in
    let most : below ≤ 1000 * n = div-le_self (1000 * n) d in
    let a : ℕ = distance n d below in
    let b : ℕ = distance n d (below + 1) in
    if_case (λ (t : ℕ). t ≤ 1000 * n + 1) (ltb a b) _ _ (λ h. omega (arith, most))
    (λ h. if_case (λ (t : ℕ). t ≤ 1000 * n + 1) (ltb b a) _ _ (λ i. omega (arith, most))
    (λ i. if_case (λ (t : ℕ). t ≤ 1000 * n + 1) (eqb (below % 2) 0) _ _ (λ j. omega (arith, most)) (λ j. omega (arith, most))))

places_length : (t : ℕ) → t ≤ 1000 * (1000 * 2 ^ 32) + 1 → length (six_places t) ≤ 17
unfolding six_places
places_length t h =
    omega (
      arith,
      length-append (decimal (t / 1000000) ++ point) (last_digits 10 6 t),
      length-append (decimal (t / 1000000)) point,
      last_length 10 6 t,
      decimal_length 9 (t / 1000000) (omega arith),
    )

pub size_length : (n d : ℕ) → n < 2 ^ 32 → length (size_text n d) ≤ 17
unfolding size_text
size_length n d h =
    let m : thousandths (1000 * n) d ≤ 1000 * (1000 * 2 ^ 32) + 1 = omega (arith, thousandths_most (1000 * n) d) in
    if_case (λ (t : List ℕ). length t ≤ 17) (eqb d 0) _ _ (λ e. omega arith) (λ e. places_length _ m)

sign_length : (b : Bool) → length (sign_text b) ≤ 1
unfolding sign_text
sign_length true = omega arith
sign_length false = omega arith

mark_length : (b : Bool) → length (mark_text b) ≤ 11
unfolding mark_text
mark_length true = omega arith
mark_length false = omega arith

fraction_length : (n d : ℕ) → n < 2 ^ 32 → d < 2 ^ 32 → length (fraction_text (pair n d)) ≤ 21
unfolding fraction_text
fraction_length n d h i =
    omega (
      arith,
      length-append (decimal n ++ slash) (decimal d),
      length-append (decimal n) slash,
      decimal_length 9 n (omega arith),
      decimal_length 9 d (omega arith),
    )

pub stored_long : (count w : ℕ) (p : Parts) (a : Bool) → p.numerator < 2 ^ 32 → p.denominator < 2 ^ 32
    → length (stored_columns count w p a) ≤ count + 36
unfolding stored_columns
stored_long count w p a h i =
    let x : List ℕ = hexadecimal count w in
    let s : List ℕ = column (sign_text p.negative) in
    let r : List ℕ = column (fraction_text (pair p.numerator p.denominator)) in
    let m : List ℕ = column (mark_text a) in
    omega (
      arith,
      length-append (x ++ s ++ r) m,
      length-append (x ++ s) r,
      length-append x s,
      hexadecimal_length count w,
      column_length (sign_text p.negative),
      column_length (fraction_text (pair p.numerator p.denominator)),
      column_length (mark_text a),
      sign_length p.negative,
      fraction_length p.numerator p.denominator h i,
      mark_length a,
    )
