-- The sums of breaths. Assumes nothing.
-- `add_breath`: a breath added to the sums before is a breath in front of the list, so that breath by breath the sums are those of the list. `none_good`, `good_none`: the sum of whole is 0 just where no breath is left.
-- `sum_bounds`: one breath more adds at most 120 times the rate to the sum of whole. `sum_proper`: one breath more keeps the sum of in at most that of whole; `sums_proper`: so it is of every list of breaths.
use Rattle.std.proofs.Common.{◌≡◌, ℕ, ◌+◌, ◌*◌, ◌^◌, ◌<◌, ◌≤◌, Bool, true, false, eqb, ltb, List, [], ◌∷◌, sym, refl, ap, ◌∙◌, subst, add-zero, add_assoc, zero-add, arith, le-ltb, lt-ltb, eqb-true}
use mathlib.Core.Bool.{and-false}
use Rattle.slash.specs.Answers.{done, unnumbered}
use Rattle.breaths.specs.Breaths.{is_void}
use Rattle.breaths.specs.Sums.{no_sums, with_breath, add_sums, not_void, total, sums_of, fits, one_more, none_left}
use Rattle.breaths.specs.Steps.{Proper}
use Rattle.breaths.specs.declared.breath.Breath.{Breath}
use Rattle.breaths.specs.declared.sums.Sums.{Sums}
use Rattle.breaths.proofs.RatioLaws.{good_breath}

-- ---- one breath more

module _ (rate : ℕ) (s : Sums) where
  pub sum_void : (b : Breath) → is_void rate b ≡ true → s ≡ with_breath rate s b
  unfolding with_breath
  sum_void b h = rw h refl

  pub sum_good : (b : Breath) → is_void rate b ≡ false
      → record { inspiration = s.inspiration + b.inspiration; whole = s.whole + b.whole } ≡ with_breath rate s b
  unfolding with_breath
  sum_good b h = rw h refl

-- the sums with a breath more
module _ (rate : ℕ) (s : Sums) (b : Breath) where
  pub sum_bounds : (with_breath rate s b).whole ≤ s.whole + 120 * rate
  sum_bounds = go (is_void rate b) refl
    where
      go : (t : Bool) → is_void rate b ≡ t → (with_breath rate s b).whole ≤ s.whole + 120 * rate
      go true h = omega (arith, ap (λ (x : Sums). x.whole) (sum_void rate s b h))
      go false h = omega (arith, ap (λ (x : Sums). x.whole) (sum_good rate s b h), (good_breath rate b h).2)

  pub sum_proper : Proper s → Proper (with_breath rate s b)
  sum_proper p = go (is_void rate b) refl
    where
      go : (t : Bool) → is_void rate b ≡ t → (with_breath rate s b).inspiration ≤ (with_breath rate s b).whole
      go true h = subst Proper (sum_void rate s b h) p
      go false h =
          let g = good_breath rate b h in
          omega (arith, p, g.1, ap (λ (x : Sums). x.whole) (sum_good rate s b h), ap (λ (x : Sums). x.inspiration) (sum_good rate s b h))

  -- where 64 bits hold the sums
  more_is : (t : Sums) → t ≡ with_breath rate s b → t.inspiration < 2 ^ 64 → t.whole < 2 ^ 64 → done t ≡ one_more rate s b
  unfolding one_more fits
  more_is t e i w = rw (sym e, lt-ltb _ _ i, lt-ltb _ _ w) refl

  pub more_done : (with_breath rate s b).inspiration < 2 ^ 64 → (with_breath rate s b).whole < 2 ^ 64 → one_more rate s b ≡ done (with_breath rate s b)
  more_done i w = sym (more_is (with_breath rate s b) refl i w)

  pub more_void : is_void rate b ≡ true → s.inspiration < 2 ^ 64 → s.whole < 2 ^ 64 → done s ≡ one_more rate s b
  more_void h i w = more_is s (sum_void rate s b h) i w

  module _ (h : is_void rate b ≡ false) where
    pub more_good : s.inspiration + b.inspiration < 2 ^ 64 → s.whole + b.whole < 2 ^ 64
        → done (record { inspiration = s.inspiration + b.inspiration; whole = s.whole + b.whole }) ≡ one_more rate s b
    more_good i w = more_is _ (sum_good rate s b h) i w

    pub full_in : 2 ^ 64 ≤ s.inspiration + b.inspiration → unnumbered ≡ one_more rate s b
    unfolding one_more fits
    full_in i = rw (sym (sum_good rate s b h), le-ltb _ _ i) refl

    pub full_whole : 2 ^ 64 ≤ s.whole + b.whole → unnumbered ≡ one_more rate s b
    unfolding one_more fits
    full_whole w = rw (sym (sum_good rate s b h), le-ltb _ _ w, and-false (ltb (s.inspiration + b.inspiration) (2 ^ 64))) refl

-- ---- the sums of some breaths

pub add_none : (rate : ℕ) (s : Sums) → s ≡ add_sums s (sums_of rate [])
unfolding add_sums sums_of not_void total
add_none rate s = rw (add-zero s.inspiration, add-zero s.whole) refl

pub none_add : (s : Sums) → add_sums no_sums s ≡ s
unfolding add_sums
none_add s = rw (zero-add s.inspiration, zero-add s.whole) refl

module _ (rate : ℕ) (b : Breath) (bs : List Breath) where
  good_void : is_void rate b ≡ true → not_void rate (b ∷ bs) ≡ not_void rate bs
  unfolding not_void
  good_void h = rw (not_void, h) refl

  good_good : is_void rate b ≡ false → not_void rate (b ∷ bs) ≡ b ∷ not_void rate bs
  unfolding not_void
  good_good h = rw (not_void, h) refl

  -- one breath more, in front of the others
  pub add_breath : (s : Sums) → add_sums (with_breath rate s b) (sums_of rate bs) ≡ add_sums s (sums_of rate (b ∷ bs))
  unfolding add_sums sums_of total
  add_breath s = go (is_void rate b) refl
    where
      go : (t : Bool) → is_void rate b ≡ t → add_sums (with_breath rate s b) (sums_of rate bs) ≡ add_sums s (sums_of rate (b ∷ bs))
      go true h = rw (sym (sum_void rate s b h), good_void h) refl
      go false h = rw (sym (sum_good rate s b h), good_good h, add_assoc s.inspiration b.inspiration (total (λ x. x.inspiration) (not_void rate bs)), add_assoc s.whole b.whole (total (λ x. x.whole) (not_void rate bs))) refl

pub sums_proper : (rate : ℕ) (bs : List Breath) → Proper (sums_of rate bs)
unfolding sums_of not_void total
sums_proper rate [] = omega arith
sums_proper rate (b ∷ bs) = go (is_void rate b) refl (sums_proper rate bs)
  where
    go : (t : Bool) → is_void rate b ≡ t → Proper (sums_of rate bs) → Proper (sums_of rate (b ∷ bs))
    go true h ih = subst (λ (l : List Breath). total (λ x. x.inspiration) l ≤ total (λ x. x.whole) l) (sym (good_void rate b bs h)) ih
    go false h ih =
        let more : b.inspiration + total (λ x. x.inspiration) (not_void rate bs) ≤ b.whole + total (λ x. x.whole) (not_void rate bs) = omega (arith, (good_breath rate b h).1, ih) in
        subst (λ (l : List Breath). total (λ x. x.inspiration) l ≤ total (λ x. x.whole) l) (sym (good_good rate b bs h)) more

-- A night is void just where every breath of it is: none is left.
pub none_good : (rate : ℕ) (bs : List Breath) → none_left (sums_of rate bs) ≡ true → not_void rate bs ≡ []
unfolding none_left sums_of not_void total
none_good rate [] e = refl
none_good rate (b ∷ bs) e = go (is_void rate b) refl (none_good rate bs)
  where
    go : (t : Bool) → is_void rate b ≡ t → (none_left (sums_of rate bs) ≡ true → not_void rate bs ≡ []) → not_void rate (b ∷ bs) ≡ []
    go true h ih = good_void rate b bs h ∙ ih (ap (λ (l : List Breath). eqb (total (λ x. x.whole) l) 0) (sym (good_void rate b bs h)) ∙ e)
    go false h ih =
        let z : total (λ x. x.whole) (b ∷ not_void rate bs) ≡ 0 = eqb-true _ _ (ap (λ (l : List Breath). eqb (total (λ x. x.whole) l) 0) (sym (good_good rate b bs h)) ∙ e) in
        absurd (omega (arith, (good_breath rate b h).0, z))

pub good_none : (rate : ℕ) (bs : List Breath) → not_void rate bs ≡ [] → none_left (sums_of rate bs) ≡ true
unfolding none_left sums_of total
good_none rate bs e = ap (λ (l : List Breath). eqb (total (λ x. x.whole) l) 0) e
