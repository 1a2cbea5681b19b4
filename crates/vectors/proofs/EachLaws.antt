-- An operation at each place, by a check of all places and then a store at each. Assumes nothing.
-- `stop_each`: the operation at each place stops as the check of the words does. `each_words`: where that finds all good, the result is the word
-- of each place. `each_stopped`, `each_done`: the answers of a vector form. `storing_next`, `storing_end`: a loop that stores. `unwrapped`: what
-- it stores at a place.
use mathlib.Core.Path.{◌≡◌, refl, sym, ap, ◌∙◌, subst}
use mathlib.Core.List.{List, [], ◌∷◌, ◌++◌, map, append_assoc, append-nil}
use Prim.Native.Nat.{ℕ, zero, suc, ◌+◌, ◌≤◌, ◌<◌}
use native.Mathlib.Omega.{arith}
use native.Mathlib.Nat.{not-suc-le-zero, le_of_suc-le-suc}
use native.Mathlib.Numerals.{add-one}
use lib.ListN.{length, take, drop, set, get_or, drop_of_length-le, length-set}
use lib.Seq.{drop-cons, take-suc-set, take_all}
use Rattle.slash.specs.Answers.{Outcome, stop, done, ◌then◌, WhenDone}
use Rattle.slash.specs.Steps.{or_zero}
use Rattle.slash.proofs.AnswerLaws.{no_stop}
use Rattle.slash.specs.declared.answer.Stop.{Stop}
use Rattle.vectors.specs.Each.{at_place, each, vector_after, stop_only, EachPlace}
use Rattle.vectors.specs.Places.{operands, places}
use Rattle.vectors.specs.Checks.{checks}
use Rattle.vectors.specs.Steps.{Storing}
use Rattle.std.specs.Prelude.{Ok, Err}
use Rattle.std.specs.Result.{result_unwrap_or}

-- ---- the operands at place i and after

pub word_at : (xs : List ℕ) (i : ℕ) → i < length xs → drop i xs ≡ get_or xs i 0 ∷ drop (i + 1) xs
word_at xs i h = rw add-one (drop-cons xs i 0 h)

shorter : (l r : List ℕ) (x y : ℕ) → length (x ∷ l) ≡ length (y ∷ r) → length l ≡ length r
shorter l r x y e = omega arith

places_next : (l r : List ℕ) (i : ℕ) → length l ≡ length r → i < length l → drop i (places l r) ≡ operands (get_or l i 0) (get_or r i 0) ∷ drop (suc i) (places l r)
unfolding places
places_next [] r i e h = absurd (not-suc-le-zero h)
places_next (x ∷ l) [] i e h = absurd (omega arith)
places_next (x ∷ l) (y ∷ r) zero e h = refl
places_next (x ∷ l) (y ∷ r) (suc i) e h = places_next l r i (shorter l r x y e) (le_of_suc-le-suc h)

pub operands_at : (l r : List ℕ) (i : ℕ) → length l ≡ length r → i < length l → drop i (places l r) ≡ operands (get_or l i 0) (get_or r i 0) ∷ drop (i + 1) (places l r)
operands_at l r i e h = rw add-one (places_next l r i e h)

pub length_places : (l r : List ℕ) → length l ≡ length r → length (places l r) ≡ length l
unfolding places
length_places [] r e = refl
length_places (x ∷ l) [] e = absurd (omega arith)
length_places (x ∷ l) (y ∷ r) e = ap suc (length_places l r (shorter l r x y e))

-- a call that is a check first tells what the check does
pub stop_checked : (c : Outcome (Unit {0})) (v : ℕ) (o : Outcome ℕ) → (c then λ _. done v) ≡ o → stop_only o ≡ c
unfolding stop_only
stop_checked c v o e = ap stop_only (sym e) ∙ go c
  where
    go : (d : Outcome (Unit {0})) → stop_only (d then λ _. done v) ≡ d
    go (Err t) = refl
    go (Ok u) = refl

stop_word : {B : Type 0} (o : Outcome B) (g : B → List ℕ) → stop_only (o then λ x. done (g x)) ≡ stop_only o
unfolding stop_only
stop_word (Err t) g = refl
stop_word (Ok x) g = refl

-- an answer by what is told of it
pub stop_back : {s : Stop} (o : Outcome (List ℕ)) → Err s ≡ stop_only o → Err s ≡ o
unfolding stop_only
stop_back (Err t) e = ap (λ (r : Stop). Err r) cc
stop_back (Ok ws) e = absurd (no_stop e)

pub done_back : (o : Outcome (List ℕ)) (old new : List ℕ) → done tt ≡ stop_only o → new ≡ vector_after o old → done new ≡ o
unfolding stop_only vector_after
done_back (Err t) old new e n = absurd (no_stop (sym e))
done_back (Ok ws) old new e n = ap done n

-- the word that is stored
pub unwrapped : (o : Outcome ℕ) {p : Outcome ℕ} {r : ℕ} → o ≡ p → r ≡ result_unwrap_or o 0 → r ≡ or_zero p
unfolding or_zero
unwrapped (Err s) e h = h ∙ ap or_zero e
unwrapped (Ok w) e h = h ∙ ap or_zero e

module _ {A : Type 0} where
  -- ---- the check, a place at a time

  module _ (check : A → Outcome (Unit {0})) (xs : List A) (i : ℕ) where
    pub check_next : (x : A) → drop i xs ≡ x ∷ drop (i + 1) xs → done tt ≡ check x → checks check (i + 1) (drop (i + 1) xs) ≡ checks check i (drop i xs)
    unfolding checks at_place
    check_next x e d = rw (e, ← d, add-one) refl

    pub check_stop : (x : A) {s : Stop} → drop i xs ≡ x ∷ drop (i + 1) xs → Err s ≡ check x → stop s.number i ≡ checks check i (drop i xs)
    unfolding checks at_place
    check_stop x e d = rw (e, ← d) refl

    pub check_end : length xs ≤ i → done tt ≡ checks check i (drop i xs)
    unfolding checks
    check_end h = rw (drop_of_length-le xs h) refl

  -- ---- the store, a place at a time

  module _ (g : A → ℕ) (xs : List A) (before : List ℕ) where
    module _ (out : List ℕ) (i : ℕ) (s : Storing g xs before out i) (equal : length xs ≡ length before) where
      pub storing_next : (x : A) (w : ℕ) → drop i xs ≡ x ∷ drop (i + 1) xs → i < length xs → w ≡ g x → Storing g xs before (set out i w) (i + 1)
      storing_next x w e h we =
          let room : i < length out = omega (arith, s.1) in
          let t : take (i + 1) (set out i w) ≡ take i out ++ (w ∷ []) = rw add-one (take-suc-set out i w room) in
          let next : take (i + 1) (set out i w) ++ map g (drop (i + 1) xs) ≡ take i out ++ map g (drop i xs) = rw (t, append_assoc, e, we) refl in
          (omega arith, length-set out i w ∙ s.1, next ∙ s.2)

      pub storing_end : length xs ≤ i → out ≡ map g xs
      storing_end h =
          let all : length out ≤ i = omega (arith, s.1) in
          let end : take i out ++ map g (drop i xs) ≡ out = rw (drop_of_length-le xs h, take_all i out all, append-nil) refl in
          sym end ∙ s.2

  -- ---- an operation that stops as its check does

  module _ (op : A → Outcome ℕ) (check : A → Outcome (Unit {0})) (agree : (x : A) → stop_only (op x) ≡ check x) where
    stop_each : (i : ℕ) (xs : List A) → stop_only (each op i xs) ≡ checks check i xs
    unfolding stop_only each checks at_place
    stop_each i [] = refl
    stop_each i (x ∷ xs) = go (op x) refl (stop_each (suc i) xs)
      where
        go : (o : Outcome ℕ) → op x ≡ o → stop_only (each op (suc i) xs) ≡ checks check (suc i) xs → stop_only (each op i (x ∷ xs)) ≡ checks check i (x ∷ xs)
        go (Err t) e ih = rw (← agree x, e) refl
        go (Ok w) e ih = rw (← agree x, e) (stop_word (each op (suc i) xs) (λ ws. w ∷ ws) ∙ ih)

    each_words : (i : ℕ) (xs : List A) → checks check i xs ≡ done tt → each op i xs ≡ done (map (λ x. or_zero (op x)) xs)
    unfolding stop_only each checks at_place or_zero
    each_words i [] c = refl
    each_words i (x ∷ xs) c = go (op x) refl (each_words (suc i) xs)
      where
        go : (o : Outcome ℕ) → op x ≡ o → (checks check (suc i) xs ≡ done tt → each op (suc i) xs ≡ done (map (λ y. or_zero (op y)) xs))
            → each op i (x ∷ xs) ≡ done (map (λ y. or_zero (op y)) (x ∷ xs))
        go (Err t) e ih =
            let d : stop t.number i ≡ checks check i (x ∷ xs) = rw (← agree x, e) refl in
            absurd (no_stop (d ∙ c))
        go (Ok w) e ih =
            let d : checks check (suc i) xs ≡ checks check i (x ∷ xs) = rw (← agree x, e) refl in
            rw (e, ih (d ∙ c)) refl

    -- the answers of a vector form
    module _ (P : A → ℕ → Type 0) (best : (x : A) → WhenDone (op x) (P x)) (xs : List A) (old : List ℕ) (o : Outcome (List ℕ)) where
      each_best : (i : ℕ) (ys : List A) → WhenDone (each op i ys) (λ ws. EachPlace P ys ws)
      unfolding each at_place EachPlace
      each_best i [] = tt
      each_best i (y ∷ ys) = go (op y) refl (each op (suc i) ys) refl (best y) (each_best (suc i) ys)
        where
          go : (p : Outcome ℕ) → op y ≡ p → (q : Outcome (List ℕ)) → each op (suc i) ys ≡ q → WhenDone (op y) (P y) → WhenDone (each op (suc i) ys) (λ ws. EachPlace P ys ws)
              → WhenDone (each op i (y ∷ ys)) (λ ws. EachPlace P (y ∷ ys) ws)
          go (Err t) e q d b r = rw e tt
          go (Ok w) e (Err t) d b r = rw (e, d) tt
          go (Ok w) e (Ok ws) d b r =
              let b₁ : P y w = subst (λ (p : Outcome ℕ). WhenDone p (P y)) e b in
              let r₁ : EachPlace P ys ws = subst (λ (p : Outcome (List ℕ)). WhenDone p (λ vs. EachPlace P ys vs)) d r in
              rw (e, d) (b₁, r₁)

      module _ (oe : each op 0 xs ≡ o) (res : Outcome (Unit {0})) (re : res ≡ checks check 0 xs) where
        pub each_stopped : (s : Stop) → res ≡ Err s
            → (Err s ≡ stop_only o) × ((old ≡ vector_after o old) × Unit {0})
        unfolding stop_only vector_after
        each_stopped s e =
            let t : Err s ≡ stop_only o = sym e ∙ re ∙ sym (stop_each 0 xs) ∙ ap stop_only oe in
            go o t
          where
            go : (p : Outcome (List ℕ)) → Err s ≡ stop_only p → (Err s ≡ stop_only p) × ((old ≡ vector_after p old) × Unit {0})
            go (Err r) t = (t, (refl, tt))
            go (Ok ws) t = absurd (no_stop t)

        pub each_done : res ≡ Ok tt → (new : List ℕ) → new ≡ map (λ x. or_zero (op x)) xs
            → (done tt ≡ stop_only o) × ((new ≡ vector_after o old) × EachPlace P xs new)
        unfolding stop_only vector_after
        each_done e new ne =
            let c : checks check 0 xs ≡ done tt = sym re ∙ e in
            let w : each op 0 xs ≡ done new = each_words 0 xs c ∙ ap done (sym ne) in
            let d : o ≡ done new = sym oe ∙ w in
            let b : EachPlace P xs new = subst (λ (p : Outcome (List ℕ)). WhenDone p (λ ws. EachPlace P xs ws)) w (each_best 0 xs) in
            (rw d refl, (rw d refl, b))

-- a stop before the words are looked at
pub refused : {s : Stop} (o : Outcome (List ℕ)) (old : List ℕ) → Err s ≡ o → (Err s ≡ stop_only o) × ((old ≡ vector_after o old) × Unit {0})
unfolding stop_only vector_after
refused o old e = (rw (← e) refl, (rw (← e) refl, tt))
