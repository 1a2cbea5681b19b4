-- Texts that are the same, and the parts of a text. Assumes nothing.
-- `same_is`, `same_refl`: two texts are the same where the test says so. `joined_parted`: the parts, put together again, are the text.
-- `parted_cut`, `parted_at`: what stands before the first parting byte, and the parts of what stands behind it.
use mathlib.Core.Path.{◌≡◌, refl, sym, ap, ◌∙◌, subst}
use mathlib.Core.Bool.{Bool, true, false, ◌&&◌, and-true, false≢true}
use mathlib.Core.List.{List, [], ◌∷◌, ◌++◌}
use Prim.Native.Nat.{ℕ, zero, suc, ◌+◌, ◌-◌, ◌≤◌, ◌<◌}
use native.Mathlib.Omega.{arith}
use native.Mathlib.Numerals.{add-one}
use lib.Dec.{eqb}
use lib.ListN.{length, get_or, take, drop, length-drop}
use lib.Seq.{drop-cons, take_all}
use borrow.Author.Tests.{eq-eqb, eqb-true}
use Rattle.slash.proofs.AnswerLaws.{and_parts}
use Rattle.text.specs.Scan.{length_before, same, in_first, parted}
use Rattle.text.proofs.ScanLaws.{drop_past, before_step, before_nil, before_le}

-- ---- the rest of a list

-- what stands behind place i, as code has it: a part of a list that runs to its end
abbrev pub behind : ℕ → List ℕ → List ℕ
behind i l = take (length l - (i + 1)) (drop (i + 1) l)

pub tail_is : (n : ℕ) (l : List ℕ) → take (length l - n) (drop n l) ≡ drop n l
tail_is n l = take_all (length l - n) (drop n l) (omega (arith, length-drop n l))

-- the byte here, and the rest
pub drop_here : (xs : List ℕ) (i : ℕ) → i < length xs → drop i xs ≡ get_or xs i 0 ∷ drop (i + 1) xs
drop_here xs i h = drop-cons xs i 0 h ∙ ap (λ (j : ℕ). get_or xs i 0 ∷ drop j xs) (sym (add-one i))

-- ---- the same

pub same_refl : (xs : List ℕ) → same xs xs ≡ true
unfolding same
same_refl [] = refl
same_refl (x ∷ xs) = rw (eq-eqb x x refl) (same_refl xs)

pub same_is : (xs ys : List ℕ) → same xs ys ≡ true → xs ≡ ys
unfolding same
same_is [] [] e = refl
same_is [] (y ∷ ys) e = absurd (false≢true e)
same_is (x ∷ xs) [] e = absurd (false≢true e)
same_is (x ∷ xs) (y ∷ ys) e =
    let w = and_parts (eqb x y) (same xs ys) e in
    let i : x ≡ y = eqb-true _ _ w.0 in
    let j : xs ≡ ys = same_is xs ys w.1 in
    cc

-- texts that differ
pub same_differ : (xs ys : List ℕ) → (xs ≡ ys → ⊥) → same xs ys ≡ false
same_differ xs ys h = go (same xs ys) refl
  where
    go : (t : Bool) → same xs ys ≡ t → same xs ys ≡ false
    go false e = e
    go true e = absurd (h (same_is xs ys e))

pub same_not : (xs ys : List ℕ) → (length xs ≡ length ys → ⊥) → false ≡ same xs ys
same_not xs ys h = sym (same_differ xs ys (λ e. h (ap length e)))

same_step : (x : ℕ) (xs : List ℕ) (y : ℕ) (ys : List ℕ) (t : Bool) → eqb x y ≡ t → same (x ∷ xs) (y ∷ ys) ≡ (t && same xs ys)
unfolding same
same_step x xs y ys t e = ap (λ (z : Bool). z && same xs ys) e

pub and_parted : (a b c : Bool) → (a && (b && c)) ≡ ((a && b) && c)
and_parted true b c = refl
and_parted false b c = refl

-- the loop over both: whether they are the same up to place i
pub record Matching (xs ys : List ℕ) (so_far : Bool) (i : ℕ) : Type 0 where
  pub long : length xs ≡ length ys
  pub within : i ≤ length xs
  pub total : same xs ys ≡ (so_far && same (drop i xs) (drop i ys))

pub matching_start : (xs ys : List ℕ) → length xs ≡ length ys → Matching xs ys true 0
matching_start xs ys e = record { long = e; within = omega arith; total = refl }

module _ {xs ys : List ℕ} {so_far : Bool} {i : ℕ} (m : Matching xs ys so_far i) where
  pub matching_long : i < length xs → i < length ys
  matching_long l = omega (arith, m.long)

  pub matching_next : i < length xs → Matching xs ys (so_far && eqb (get_or xs i 0) (get_or ys i 0)) (i + 1)
  matching_next l =
      let x : ℕ = get_or xs i 0 in
      let y : ℕ = get_or ys i 0 in
      record {
        long = m.long;
        within = omega arith;
        total = m.total ∙ ap (λ (u : List ℕ). so_far && same u (drop i ys)) (drop_here xs i l)
            ∙ ap (λ (u : List ℕ). so_far && same (x ∷ drop (i + 1) xs) u) (drop_here ys i (matching_long l))
            ∙ ap (λ (b : Bool). so_far && b) (same_step x (drop (i + 1) xs) y (drop (i + 1) ys) (eqb x y) refl)
            ∙ and_parted so_far (eqb x y) (same (drop (i + 1) xs) (drop (i + 1) ys));
      }

  pub matching_end : length xs ≤ i → so_far ≡ same xs ys
  matching_end l =
      let a : drop i xs ≡ [] = drop_past xs i (omega (arith, m.within)) in
      let b : drop i ys ≡ [] = drop_past ys i (omega (arith, m.within, m.long)) in
      sym (m.total ∙ ap (λ (u : List ℕ). so_far && same u (drop i ys)) a ∙ ap (λ (u : List ℕ). so_far && same [] u) b
      ∙ ap (λ (c : Bool). so_far && c) (same_refl []) ∙ and-true so_far)

-- ---- parts

-- there is a first part
pub record Some (l : List (List ℕ)) : Type 0 where
  pub first : List ℕ
  pub others : List (List ℕ)
  pub is : l ≡ first ∷ others

in_first_lem : (x : ℕ) (l : List (List ℕ)) → Some (in_first x l)
in_first_lem x [] = record { first = x ∷ []; others = []; is = refl }
in_first_lem x (y ∷ l) = record { first = x ∷ y; others = l; is = refl }

module _ (b : ℕ) where
  parted_nil : parted b [] ≡ [] ∷ []
  unfolding parted
  parted_nil = refl

  pub parted_step : (x : ℕ) (xs : List ℕ) (t : Bool) → eqb x b ≡ t → parted b (x ∷ xs) ≡ elim t [ true ↦ [] ∷ parted b xs | false ↦ in_first x (parted b xs) ]
  unfolding parted
  parted_step x xs t e = ap (λ (y : Bool). elim y as (λ z. List (List ℕ)) [ true ↦ [] ∷ parted b xs | false ↦ in_first x (parted b xs) ]) e

  pub parted_some : (xs : List ℕ) → Some (parted b xs)
  parted_some [] = record { first = []; others = []; is = parted_nil }
  parted_some (x ∷ xs) = go (eqb x b) refl
    where
      go : (t : Bool) → eqb x b ≡ t → Some (parted b (x ∷ xs))
      go true e = record { first = []; others = parted b xs; is = parted_step x xs true e }
      go false e = subst Some (sym (parted_step x xs false e)) (in_first_lem x (parted b xs))

  -- no byte is b
  abbrev pub Free : List ℕ → Type 0
  Free [] = Unit {0}
  Free (x ∷ xs) = (eqb x b ≡ false) × Free xs

  pub free_append : (xs ys : List ℕ) → Free xs → Free ys → Free (xs ++ ys)
  free_append [] ys f g = g
  free_append (x ∷ xs) ys f g = (f.0, free_append xs ys f.1 g)

  pub free_drop : (i : ℕ) (xs : List ℕ) → Free xs → Free (drop i xs)
  free_drop zero xs f = f
  free_drop (suc i) [] f = tt
  free_drop (suc i) (x ∷ xs) f = free_drop i xs f.1

  pub before_free : (xs : List ℕ) → length_before b xs ≡ length xs → Free xs
  before_free [] h = tt
  before_free (x ∷ xs) h = go (eqb x b) refl (before_free xs)
    where
      go : (t : Bool) → eqb x b ≡ t → (length_before b xs ≡ length xs → Free xs) → (eqb x b ≡ false) × Free xs
      go true e ih = absurd (omega (arith, before_step b x xs true e))
      go false e ih = (e, ih (omega (arith, before_step b x xs false e)))

  pub free_before : (xs : List ℕ) → Free xs → length_before b xs ≡ length xs
  free_before [] f = before_nil b
  free_before (x ∷ xs) f = before_step b x xs false f.0 ∙ ap suc (free_before xs f.1)

  -- the first b stands behind what has none
  pub before_at : (xs ys : List ℕ) → Free xs → length_before b (xs ++ (b ∷ []) ++ ys) ≡ length xs
  before_at [] ys f = before_step b b ys true (eq-eqb b b refl)
  before_at (x ∷ xs) ys f = before_step b x (xs ++ (b ∷ []) ++ ys) false f.0 ∙ ap suc (before_at xs ys f.1)

  -- the byte there
  pub at_before : (xs : List ℕ) → length_before b xs < length xs → get_or xs (length_before b xs) 0 ≡ b
  at_before [] h = absurd (omega arith)
  at_before (x ∷ xs) h = go (eqb x b) refl (at_before xs)
    where
      go : (t : Bool) → eqb x b ≡ t → (length_before b xs < length xs → get_or xs (length_before b xs) 0 ≡ b) → get_or (x ∷ xs) (length_before b (x ∷ xs)) 0 ≡ b
      go true e ih = rw (before_step b x xs true e) (eqb-true _ _ e)
      go false e ih = rw (before_step b x xs false e) (ih (omega (arith, before_step b x xs false e)))

  -- with no b a text is one part
  pub parted_whole : (xs : List ℕ) → Free xs → parted b xs ≡ xs ∷ []
  parted_whole [] f = parted_nil
  parted_whole (x ∷ xs) f = parted_step x xs false f.0 ∙ ap (in_first x) (parted_whole xs f.1)

  pub parted_none : (xs : List ℕ) → length_before b xs ≡ length xs → parted b xs ≡ xs ∷ []
  parted_none xs h = parted_whole xs (before_free xs h)

  -- else it is what stands before the first b, and the parts of what stands behind it
  pub parted_cut : (xs ys : List ℕ) → Free xs → parted b (xs ++ (b ∷ []) ++ ys) ≡ xs ∷ parted b ys
  parted_cut [] ys f = parted_step b ys true (eq-eqb b b refl)
  parted_cut (x ∷ xs) ys f = parted_step x (xs ++ (b ∷ []) ++ ys) false f.0 ∙ ap (in_first x) (parted_cut xs ys f.1)

  parted_first : (xs : List ℕ) → length_before b xs < length xs → parted b xs ≡ take (length_before b xs) xs ∷ parted b (drop (suc (length_before b xs)) xs)
  parted_first [] h = absurd (omega arith)
  parted_first (x ∷ xs) h = go (eqb x b) refl (parted_first xs)
    where
      go : (t : Bool) → eqb x b ≡ t
          → (length_before b xs < length xs → parted b xs ≡ take (length_before b xs) xs ∷ parted b (drop (suc (length_before b xs)) xs))
          → parted b (x ∷ xs) ≡ take (length_before b (x ∷ xs)) (x ∷ xs) ∷ parted b (drop (suc (length_before b (x ∷ xs))) (x ∷ xs))
      go true e ih = parted_step x xs true e ∙ rw (before_step b x xs true e) refl
      go false e ih = parted_step x xs false e ∙ ap (in_first x) (ih (omega (arith, before_step b x xs false e))) ∙ rw (before_step b x xs false e) refl

  -- the same by the place that code has found
  pub parted_at : (xs : List ℕ) (i : ℕ) → i ≡ length_before b xs → (i ≡ length xs → ⊥) → parted b xs ≡ take i xs ∷ parted b (behind i xs)
  parted_at xs i e n =
      let l : length_before b xs < length xs = omega (arith, before_le b xs) in
      parted_first xs l ∙ ap (λ (k : ℕ). take k xs ∷ parted b (drop (suc k) xs)) (sym e)
      ∙ ap (λ (k : ℕ). take i xs ∷ parted b (drop k xs)) (sym (add-one i))
      ∙ ap (λ (u : List ℕ). take i xs ∷ parted b u) (sym (tail_is (i + 1) xs))

  -- ---- parts put together

  abbrev pub joined : List (List ℕ) → List ℕ
  joined [] = []
  joined (x ∷ []) = x
  joined (x ∷ y ∷ more) = x ++ (b ∷ []) ++ joined (y ∷ more)

  joined_first : (x : ℕ) (l : List (List ℕ)) → Some l → joined (in_first x l) ≡ x ∷ joined l
  joined_first x [] s = let z : ◌≡◌ {A = List (List ℕ)} [] (s.first ∷ s.others) = s.is in absurd (nil_cons z)
    where
      nil_cons : {y : List ℕ} {l : List (List ℕ)} → ◌≡◌ {A = List (List ℕ)} [] (y ∷ l) → ⊥
      nil_cons e = let z : ◌≡◌ {A = ℕ} 0 1 = cc in omega arith
  joined_first x (y ∷ []) s = refl
  joined_first x (y ∷ z ∷ l) s = refl

  joined_cut : (l : List (List ℕ)) → Some l → joined ([] ∷ l) ≡ b ∷ joined l
  joined_cut l s = rw s.is refl

  pub joined_parted : (xs : List ℕ) → joined (parted b xs) ≡ xs
  joined_parted [] = ap joined parted_nil
  joined_parted (x ∷ xs) = go (eqb x b) refl (joined_parted xs)
    where
      go : (t : Bool) → eqb x b ≡ t → joined (parted b xs) ≡ xs → joined (parted b (x ∷ xs)) ≡ x ∷ xs
      go true e ih =
          let i : x ≡ b = eqb-true _ _ e in
          ap joined (parted_step x xs true e) ∙ joined_cut (parted b xs) (parted_some xs) ∙ ap (λ (l : List ℕ). b ∷ l) ih
          ∙ ap (λ (y : ℕ). y ∷ xs) (sym i)
      go false e ih = ap joined (parted_step x xs false e) ∙ joined_first x (parted b xs) (parted_some xs) ∙ ap (λ (l : List ℕ). x ∷ l) ih
