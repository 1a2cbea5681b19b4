-- Where a byte stands first in a text. Assumes nothing.
-- `before_append`: what follows doesn't change it. `seeking_found`, `seeking_end`: what the loop that looks for it comes to.
use mathlib.Core.Path.{◌≡◌, refl, sym, ap, ◌∙◌}
use mathlib.Core.Bool.{Bool, true, false}
use mathlib.Core.List.{List, [], ◌∷◌, ◌++◌}
use Prim.Native.Nat.{ℕ, zero, suc, ◌+◌, ◌≤◌, ◌<◌}
use native.Mathlib.Omega.{arith}
use native.Mathlib.Numerals.{add-one}
use lib.Dec.{eqb, ltb}
use lib.ListN.{length, get_or, take, drop}
use lib.Seq.{drop-cons, drop-length}
use borrow.Author.Tests.{eq-eqb, ne_eqb}
use Rattle.std.proofs.Common.{ltb-false}
use Rattle.std.specs.Prelude.{Some, None, cond}
use Rattle.std.specs.List.{position, position_or_len}
use Rattle.std.specs.Option.{unwrap_or}
use Rattle.std.proofs.lemmas.List.Recursion.{is_position_or_len}
use Rattle.text.specs.Scan.{length_before}

-- past the end nothing is left
pub drop_past : (bs : List ℕ) (i : ℕ) → i ≡ length bs → drop i bs ≡ []
drop_past bs i e = ap (λ (j : ℕ). drop j bs) e ∙ drop-length bs

module _ (b : ℕ) where
  pub before_step : (x : ℕ) (xs : List ℕ) (t : Bool) → eqb x b ≡ t → length_before b (x ∷ xs) ≡ elim t [ true ↦ 0 | false ↦ suc (length_before b xs) ]
  unfolding length_before
  before_step x xs t e = ap (λ (y : Bool). elim y as (λ z. ℕ) [ true ↦ 0 | false ↦ suc (length_before b xs) ]) e

  pub before_nil : length_before b [] ≡ 0
  unfolding length_before
  before_nil = refl

  pub before_le : (bs : List ℕ) → length_before b bs ≤ length bs
  before_le [] = omega (arith, before_nil)
  before_le (x ∷ xs) = go (eqb x b) refl (before_le xs)
    where
      go : (t : Bool) → eqb x b ≡ t → length_before b xs ≤ length xs → length_before b (x ∷ xs) ≤ suc (length xs)
      go true e h = omega (arith, before_step x xs true e)
      go false e h = omega (arith, before_step x xs false e)

pub record Seeking (b : ℕ) (bs : List ℕ) (i : ℕ) : Type 0 where
  pub within : i ≤ length bs
  pub total : i + length_before b (drop i bs) ≡ length_before b bs

pub seeking_start : (b : ℕ) (bs : List ℕ) → Seeking b bs 0
seeking_start b bs = record { within = omega arith; total = omega arith }

module _ {b : ℕ} {bs : List ℕ} {i : ℕ} (s : Seeking b bs i) where
  here : i < length bs → (t : Bool) → eqb (get_or bs i 0) b ≡ t
      → length_before b (drop i bs) ≡ elim t [ true ↦ 0 | false ↦ suc (length_before b (drop (i + 1) bs)) ]
  here l t e =
      ap (length_before b) (drop-cons bs i 0 l) ∙ before_step b (get_or bs i 0) (drop (suc i) bs) t e
      ∙ ap (λ (j : ℕ). elim t as (λ z. ℕ) [ true ↦ 0 | false ↦ suc (length_before b (drop j bs)) ]) (sym (add-one i))

  pub seeking_found : i < length bs → get_or bs i 0 ≡ b → (i ≤ length bs) × (i ≡ length_before b bs)
  seeking_found l e = (s.within, omega (arith, s.total, here l true (eq-eqb _ _ e)))

  pub seeking_next : i < length bs → (get_or bs i 0 ≡ b → ⊥) → Seeking b bs (i + 1)
  seeking_next l e = record { within = omega arith; total = omega (arith, s.total, here l false (ne_eqb _ _ e)) }

  pub seeking_end : length bs ≤ i → (i ≤ length bs) × (i ≡ length_before b bs)
  seeking_end l =
      let e : i ≡ length bs = omega (arith, s.within) in
      (s.within, omega (arith, s.total, ap (length_before b) (drop_past bs i e), before_nil b))

-- what stands before b in the first m places: where b is among them, and where it isn't
module _ (b : ℕ) where
  pub before_take : (m : ℕ) (bs : List ℕ) → length_before b bs < m → length_before b (take m bs) ≡ length_before b bs
  before_take zero bs l = absurd (omega arith)
  before_take (suc m) [] l = refl
  before_take (suc m) (x ∷ xs) l = go (eqb x b) refl (before_take m xs)
    where
      go : (t : Bool) → eqb x b ≡ t → (length_before b xs < m → length_before b (take m xs) ≡ length_before b xs)
          → length_before b (x ∷ take m xs) ≡ length_before b (x ∷ xs)
      go true e ih = before_step b x (take m xs) true e ∙ sym (before_step b x xs true e)
      go false e ih =
          let s : length_before b (x ∷ xs) ≡ suc (length_before b xs) = before_step b x xs false e in
          before_step b x (take m xs) false e ∙ ap suc (ih (omega arith)) ∙ sym s

  -- where it is found in the first m places, it stands there
  pub before_taken : (m : ℕ) (bs : List ℕ) → length_before b (take m bs) < length (take m bs) → length_before b (take m bs) ≡ length_before b bs
  before_taken zero bs l = absurd (omega arith)
  before_taken (suc m) [] l = refl
  before_taken (suc m) (x ∷ xs) l = go (eqb x b) refl (before_taken m xs)
    where
      go : (t : Bool) → eqb x b ≡ t → (length_before b (take m xs) < length (take m xs) → length_before b (take m xs) ≡ length_before b xs)
          → length_before b (x ∷ take m xs) ≡ length_before b (x ∷ xs)
      go true e ih = before_step b x (take m xs) true e ∙ sym (before_step b x xs true e)
      go false e ih =
          let s : length_before b (x ∷ take m xs) ≡ suc (length_before b (take m xs)) = before_step b x (take m xs) false e in
          s ∙ ap suc (ih (omega (arith, l, s))) ∙ sym (before_step b x xs false e)

  pub before_far : (m : ℕ) (bs : List ℕ) → m ≤ length_before b bs → m ≤ length_before b (take m bs)
  before_far zero bs l = omega arith
  before_far (suc m) [] l = absurd (omega (arith, before_nil b))
  before_far (suc m) (x ∷ xs) l = go (eqb x b) refl (before_far m xs)
    where
      go : (t : Bool) → eqb x b ≡ t → (m ≤ length_before b xs → m ≤ length_before b (take m xs)) → suc m ≤ length_before b (x ∷ take m xs)
      go true e ih = absurd (omega (arith, before_step b x xs true e))
      go false e ih = omega (arith, before_step b x (take m xs) false e, ih (omega (arith, before_step b x xs false e)))

-- what follows the first b doesn't change where it stands
pub before_append : (b : ℕ) (bs more : List ℕ) → length_before b bs < length bs → length_before b (bs ++ more) ≡ length_before b bs
before_append b [] more l = absurd (omega arith)
before_append b (x ∷ xs) more l = go (eqb x b) refl (before_append b xs more)
  where
    go : (t : Bool) → eqb x b ≡ t → (length_before b xs < length xs → length_before b (xs ++ more) ≡ length_before b xs)
        → length_before b (x ∷ (xs ++ more)) ≡ length_before b (x ∷ xs)
    go true e ih = before_step b x (xs ++ more) true e ∙ sym (before_step b x xs true e)
    go false e ih =
        let s : length_before b (x ∷ xs) ≡ suc (length_before b xs) = before_step b x xs false e in
        before_step b x (xs ++ more) false e ∙ ap suc (ih (omega arith)) ∙ sym s

-- how many bytes stand before b, by where the first b stands
step_cond : (b x n : ℕ) → (t : Bool) → elim t as (λ z. ℕ) [ true ↦ 0 | false ↦ suc n ] ≡ cond t 0 (1 + n)
step_cond b x n true = refl
step_cond b x n false = omega arith

before_first : (b : ℕ) (bs : List ℕ) → length_before b bs ≡ position_or_len (λ x. eqb x b) bs
before_first b bs =
    is_position_or_len (length_before b) (λ x. eqb x b) (before_nil b)
    (λ x xs. before_step b x xs (eqb x b) refl ∙ step_cond b x (length_before b xs) (eqb x b)) bs

pub before_position : (b : ℕ) (bs : List ℕ) → unwrap_or (position (λ x. eqb x b) bs) (length bs) ≡ length_before b bs
before_position b bs = go (ltb (position_or_len (λ x. eqb x b) bs) (length bs)) refl
  where
    n : ℕ
    n = position_or_len (λ x. eqb x b) bs

    go : (t : Bool) → ltb n (length bs) ≡ t → unwrap_or (cond (ltb n (length bs)) (Some n) None) (length bs) ≡ length_before b bs
    go true e = rw e (sym (before_first b bs))
    go false e = rw e (let l : length bs ≤ n = ltb-false _ _ e in omega (arith, before_le b bs, before_first b bs))
