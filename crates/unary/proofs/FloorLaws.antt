-- Floor, ceiling and mod 1 over signed numbers. Assumes nothing.
-- `floor_at_most`, `floor_next`: d times the floor is at most n, and d times the next whole number above n. `ceiling_at_least`,
-- `ceiling_before`: the same from above. `floor_and_above`, `above_lt`: n is d times its floor and what is above it, which is below d.
-- `of_minus_2_3`: the papers' example. The others are about the machine: each step reads `to_z (of_z z)`, which is z where z fits.
use mathlib.Core.Path.{◌≡◌, refl, sym, ap, ◌∙◌, subst, subst⁻¹}
use mathlib.Core.Bool.{Bool, true, false, false≢true}
use Prim.Native.Nat.{ℕ, zero, suc, ◌+◌, ◌-◌, ◌*◌, ◌/◌, ◌%◌, ◌^◌, ◌<◌, ◌≤◌}
use native.Mathlib.Omega.{arith}
use native.Mathlib.Nat.{div-le_self, div-add-mod', mod-lt, mod-le}
use lib.IntN.{ℤ, pos, negsuc, neg_ℤ, nat_abs, suc_ℤ, pred_ℤ, ◌+ℤ◌, ◌-ℤ◌, ◌*ℤ◌, +ℤ_idl, +ℤ_comm, +ℤ-neg_ℤ_cancel, -ℤ-+ℤ_cancel, neg_ℤ-neg_ℤ, neg_ℤ-suc_ℤ}
use lib.Signed.{lt_z, le_z}
use mir.Syntax.{w64}
use mir.Val.{SFits, to_z, of_z}
use mir.ValLaws.{to_z_pos}
use mir.Facts.{to_z-of_z}
use borrow.Author.Tests.{le-ltb, lt-ltb, le-leb, ltb-true, leb-true}
use Rattle.std.specs.Int.{int_div_euclid, int_rem_euclid}
use Rattle.slash.specs.Numbers.{signed_of}
use Rattle.unary.specs.Floor.{is_below_zero, floor_by, ceiling_by, above_floor}

-- what the machine reads of a number that fits
abbrev pub read : ℤ → ℤ
read z = to_z w64 (of_z w64 z)

pub same : {z : ℤ} → SFits w64 z → read z ≡ z
same h = to_z-of_z h

large_fits : (z : ℤ) → nat_abs z < 2 ^ 63 → SFits w64 z
large_fits (pos n) h = record { sfits = omega arith }
large_fits (negsuc n) h = record { sfits = omega arith }

pub small_fits : (z : ℤ) → nat_abs z < 2 ^ 62 → SFits w64 z
small_fits z h = large_fits z (omega arith)

pub neg_size : (z : ℤ) → nat_abs (neg_ℤ z) ≡ nat_abs z
neg_size (pos zero) = refl
neg_size (pos (suc n)) = refl
neg_size (negsuc n) = refl

-- ---- a sign and a size as one number

pub to_pos : (n : ℕ) → n < 2 ^ 62 → to_z w64 n ≡ pos n
to_pos n h = to_z_pos w64 n (omega arith)

module _ (n : ℕ) (h : n < 2 ^ 62) where
  minus_is : pos 0 -ℤ to_z w64 n ≡ neg_ℤ (pos n)
  minus_is = ap (λ (z : ℤ). pos 0 -ℤ z) (to_pos n h) ∙ +ℤ_idl (neg_ℤ (pos n))

  pub minus_fits : SFits w64 (pos 0 -ℤ to_z w64 n)
  minus_fits = subst⁻¹ (λ (z : ℤ). SFits w64 z) minus_is (small_fits (neg_ℤ (pos n)) (omega (arith, neg_size (pos n))))

  pub signed_negative : (b : Bool) → b ≡ true → read (pos 0 -ℤ to_z w64 n) ≡ signed_of b n
  unfolding signed_of
  signed_negative b e = rw e (same minus_fits ∙ minus_is)

  pub signed_positive : (b : Bool) → b ≡ false → to_z w64 n ≡ signed_of b n
  unfolding signed_of
  signed_positive b e = rw e (to_pos n h)

pub signed_size : (b : Bool) (n : ℕ) → nat_abs (signed_of b n) ≡ n
unfolding signed_of
signed_size true n = neg_size (pos n)
signed_size false n = refl

-- ---- the opposite, and the size

below_is : (z : ℤ) → lt_z z (pos 0) ≡ is_below_zero z
unfolding is_below_zero
below_is (pos n) = let h : 0 ≤ n = omega arith in le-ltb n 0 h
below_is (negsuc n) = refl

module _ (z : ℤ) (b : nat_abs z < 2 ^ 62) where
  fits : SFits w64 z
  fits = small_fits z b

  opposite_is : pos 0 -ℤ read z ≡ neg_ℤ z
  opposite_is = ap (λ (y : ℤ). pos 0 -ℤ y) (same fits) ∙ +ℤ_idl (neg_ℤ z)

  pub opposite_fits : SFits w64 (pos 0 -ℤ read z)
  opposite_fits = subst⁻¹ (λ (y : ℤ). SFits w64 y) opposite_is (small_fits (neg_ℤ z) (omega (arith, neg_size z)))

  pub opposite_returns : read (pos 0 -ℤ read z) ≡ neg_ℤ z
  opposite_returns = same opposite_fits ∙ opposite_is

-- ---- the machine's division

-- the test's answer
pub test_is : (n : ℤ) → SFits w64 n → lt_z (read n) (pos 0) ≡ is_below_zero n
test_is n f = ap (λ (z : ℤ). lt_z z (pos 0)) (same f) ∙ below_is n

pub euclid_floor : (n : ℤ) (d : ℕ) → int_div_euclid n (pos d) ≡ floor_by n d
unfolding floor_by
euclid_floor (pos a) d = refl
euclid_floor (negsuc a) d = refl

-- ---- sizes

pub floor_size : (n : ℤ) (d : ℕ) → nat_abs (floor_by n d) ≤ nat_abs n
unfolding floor_by
floor_size (pos a) d = div-le_self a d
floor_size (negsuc a) d = omega (arith, div-le_self a d)

-- ---- the floor is what its name says: d times it is at most n, and d times the next whole number is above n

minus_le : (x m : ℕ) → suc m ≤ x → le_z (neg_ℤ (pos x)) (negsuc m) ≡ true
minus_le zero m h = absurd (omega arith)
minus_le (suc x) m h = let l : m ≤ x = omega arith in le-leb m x l

minus_lt : (x m : ℕ) → x ≤ m → lt_z (negsuc m) (neg_ℤ (pos x)) ≡ true
minus_lt zero m h = refl
minus_lt (suc x) m h = lt-ltb x m h

pub floor_at_most : (n : ℤ) (d : ℕ) → 0 < d → le_z (pos d *ℤ floor_by n d) n ≡ true
unfolding floor_by
floor_at_most (pos a) d s = let h : d * (a / d) ≤ a = omega (arith, div-add-mod' a d) in le-leb (d * (a / d)) a h
floor_at_most (negsuc a) d s = minus_le (d * suc (a / d)) a (omega (arith, div-add-mod' a d, mod-lt a s))

next_above : (a d q : ℕ) → a / d ≡ q → lt_z (negsuc a) (pos d *ℤ suc_ℤ (negsuc q)) ≡ true
next_above a d zero e = refl
next_above a d (suc q) e = minus_lt (d * suc q) a (omega (arith, div-add-mod' a d, ap (λ (x : ℕ). d * x) e))

pub floor_next : (n : ℤ) (d : ℕ) → 0 < d → lt_z n (pos d *ℤ suc_ℤ (floor_by n d)) ≡ true
unfolding floor_by
floor_next (pos a) d s = let h : a < d * suc (a / d) = omega (arith, div-add-mod' a d, mod-lt a s) in lt-ltb a (d * suc (a / d)) h
floor_next (negsuc a) d s = next_above a d (a / d) refl

-- ---- the ceiling is what its name says: d times it is at least n, and d times the whole number before it is below n

-- what lies above lies below on the other side of 0
opposite_le : (a b : ℤ) → le_z a b ≡ true → le_z (neg_ℤ b) (neg_ℤ a) ≡ true
opposite_le (pos zero) (pos zero) h = le-leb 0 0 (omega arith)
opposite_le (pos zero) (pos (suc n)) h = refl
opposite_le (pos (suc m)) (pos zero) h = let l : suc m ≤ 0 = leb-true _ _ h in absurd (omega arith)
opposite_le (pos (suc m)) (pos (suc n)) h = let l : suc m ≤ suc n = leb-true _ _ h in le-leb m n (omega arith)
opposite_le (pos m) (negsuc n) h = absurd (false≢true h)
opposite_le (negsuc m) (pos zero) h = le-leb 0 (suc m) (omega arith)
opposite_le (negsuc m) (pos (suc n)) h = refl
opposite_le (negsuc m) (negsuc n) h = let l : n ≤ m = leb-true _ _ h in le-leb (suc n) (suc m) (omega arith)

opposite_lt : (a b : ℤ) → lt_z a b ≡ true → lt_z (neg_ℤ b) (neg_ℤ a) ≡ true
opposite_lt (pos m) (pos zero) h = let l : m < 0 = ltb-true _ _ h in absurd (omega arith)
opposite_lt (pos zero) (pos (suc n)) h = refl
opposite_lt (pos (suc m)) (pos (suc n)) h = let l : suc m < suc n = ltb-true _ _ h in lt-ltb m n (omega arith)
opposite_lt (pos m) (negsuc n) h = absurd (false≢true h)
opposite_lt (negsuc m) (pos zero) h = lt-ltb 0 (suc m) (omega arith)
opposite_lt (negsuc m) (pos (suc n)) h = refl
opposite_lt (negsuc m) (negsuc n) h = let l : n < m = ltb-true _ _ h in lt-ltb (suc n) (suc m) (omega arith)

opposite_product : (d : ℕ) (z : ℤ) → neg_ℤ (pos d *ℤ z) ≡ pos d *ℤ neg_ℤ z
opposite_product d (pos zero) = let e : d * 0 ≡ 0 = omega arith in rw e refl
opposite_product d (pos (suc n)) = refl
opposite_product d (negsuc n) = neg_ℤ-neg_ℤ (pos (d * suc n))

module _ (n : ℤ) (d : ℕ) (s : 0 < d) where
  pub ceiling_at_least : le_z n (pos d *ℤ ceiling_by n d) ≡ true
  unfolding ceiling_by
  ceiling_at_least =
      let m : ℤ = neg_ℤ n in
      let q : ℤ = floor_by m d in
      subst (λ (z : ℤ). le_z z (pos d *ℤ neg_ℤ q) ≡ true) (neg_ℤ-neg_ℤ n)
      (subst (λ (z : ℤ). le_z (neg_ℤ m) z ≡ true) (opposite_product d q) (opposite_le (pos d *ℤ q) m (floor_at_most m d s)))

  pub ceiling_before : lt_z (pos d *ℤ pred_ℤ (ceiling_by n d)) n ≡ true
  unfolding ceiling_by
  ceiling_before =
      let m : ℤ = neg_ℤ n in
      let q : ℤ = floor_by m d in
      let e : neg_ℤ (pos d *ℤ suc_ℤ q) ≡ pos d *ℤ pred_ℤ (neg_ℤ q) = opposite_product d (suc_ℤ q) ∙ ap (λ (z : ℤ). pos d *ℤ z) (neg_ℤ-suc_ℤ q) in
      subst (λ (z : ℤ). lt_z (pos d *ℤ pred_ℤ (neg_ℤ q)) z ≡ true) (neg_ℤ-neg_ℤ n)
      (subst (λ (z : ℤ). lt_z z (neg_ℤ m) ≡ true) e (opposite_lt m (pos d *ℤ suc_ℤ q) (floor_next m d s)))

-- The paper's example: of -2/3 the floor is -1, the ceiling 0, and mod 1 gives 1/3.
pub of_minus_2_3 : (floor_by (negsuc 1) 3 ≡ negsuc 0) × (ceiling_by (negsuc 1) 3 ≡ pos 0) × (above_floor (negsuc 1) 3 ≡ 1)
unfolding floor_by ceiling_by above_floor
of_minus_2_3 = (refl, refl, refl)

-- ---- how the code comes to it

pub ceiling_size : (n : ℤ) (d : ℕ) → nat_abs (ceiling_by n d) ≤ nat_abs n
unfolding ceiling_by
ceiling_size n d = omega (arith, neg_size (floor_by (neg_ℤ n) d), floor_size (neg_ℤ n) d, neg_size n)

-- ---- mod 1

-- what d times the floor leaves of n
left_plain : (a d : ℕ) → pos a -ℤ pos d *ℤ floor_by (pos a) d ≡ pos (a % d)
unfolding floor_by
left_plain a d =
    let e : a ≡ a % d + d * (a / d) = omega (arith, div-add-mod' a d) in
    ap (λ (m : ℕ). pos m -ℤ pos (d * (a / d))) e ∙ +ℤ-neg_ℤ_cancel (pos (a % d)) (pos (d * (a / d)))

left_below : (a d : ℕ) → 0 < d → negsuc a -ℤ pos d *ℤ floor_by (negsuc a) d ≡ pos (d - 1 - a % d)
unfolding floor_by
left_below a d s =
    let x : ℕ = d * suc (a / d) in
    let m : a % d < d = mod-lt a s in
    let e : x ≡ suc a + (d - 1 - a % d) = omega (arith, div-add-mod' a d) in
    let l : suc a ≤ x = omega arith in
    let g : negsuc a +ℤ pos x ≡ pos (x - suc a) = rw (le-ltb x (suc a) l) refl in
    let k : x - suc a ≡ d - 1 - a % d = omega arith in
    ap (λ (z : ℤ). negsuc a +ℤ z) (neg_ℤ-neg_ℤ (pos x)) ∙ g ∙ ap pos k

above_plain : (a d : ℕ) → above_floor (pos a) d ≡ a % d
unfolding above_floor
above_plain a d = ap nat_abs (left_plain a d)

above_below : (a d : ℕ) → 0 < d → above_floor (negsuc a) d ≡ d - 1 - a % d
unfolding above_floor
above_below a d s = ap nat_abs (left_below a d s)

-- it lies from 0 to below 1, and what isn't below 0 has no more of it than its numerator
pub above_lt : (n : ℤ) (d : ℕ) → 0 < d → above_floor n d < d
above_lt (pos a) d s = omega (arith, above_plain a d, mod-lt a s)
above_lt (negsuc a) d s = omega (arith, above_below a d s)

pub above_le : (n d : ℕ) → above_floor (pos n) d ≤ n
above_le n d = omega (arith, above_plain n d, mod-le n d)

-- n is d times its floor, and what is above it
left_is : (n : ℤ) (d : ℕ) → 0 < d → n -ℤ pos d *ℤ floor_by n d ≡ pos (above_floor n d)
left_is (pos a) d s = left_plain a d ∙ ap pos (sym (above_plain a d))
left_is (negsuc a) d s = left_below a d s ∙ ap pos (sym (above_below a d s))

pub floor_and_above : (n : ℤ) (d : ℕ) → 0 < d → n ≡ pos d *ℤ floor_by n d +ℤ pos (above_floor n d)
floor_and_above n d s =
    let m : ℤ = pos d *ℤ floor_by n d in
    sym (ap (λ (z : ℤ). m +ℤ z) (sym (left_is n d s)) ∙ +ℤ_comm m (n -ℤ m) ∙ -ℤ-+ℤ_cancel n m)

-- the machine's remainder
pub euclid_above : (n : ℤ) (d : ℕ) → 0 < d → int_rem_euclid n (pos d) ≡ pos (above_floor n d)
euclid_above (pos a) d s = ap pos (sym (above_plain a d))
euclid_above (negsuc a) d s = ap pos (sym (above_below a d s))
