-- What a call returns and leaves behind a pointer. Assumes nothing. (The check finds each call's clauses alone, by the definitions.)
-- `status_stop`, `status_done`: the stop's number and place, and nothing stored; or 0, and the result stored. `vector_plain`, `vector_as`:
-- what a vector form returns, and what stands in the vector, without the clause `best` and with it.
-- `stored_best`, `stored_made`: and the clause `best` is handed on.
-- `loaded_done`, `loaded_stop`: what loading returns, and stores behind two pointers.
use mathlib.Core.Path.{◌≡◌, refl, sym, ap, ◌∙◌, subst}
use mathlib.Core.List.{List}
use Prim.Native.Nat.{ℕ, ◌+◌, ◌*◌, ◌%◌, ◌^◌}
use Rattle.std.specs.Prelude.{Ok, Err}
use Rattle.slash.specs.Answers.{Outcome, done, WhenDone}
use Rattle.vectors.specs.Each.{stop_only, vector_after}
use Rattle.slash.specs.declared.answer.Stop.{Stop}
use Rattle.loading.specs.declared.load.Counted.{Counted}
use Rattle.lekhnaom.specs.Status.{status, behind, breaths_of, total_of}

behind_done : (x old : ℕ) → behind (done x) old ≡ x
unfolding behind
behind_done x old = refl

-- an outcome q that is o, stored: the result is where o is done
module _ (o q : Outcome ℕ) (e : q ≡ o) where
  pub stored_as : (r old new : ℕ) → (r ≡ status q) × (new ≡ behind q old) → (r ≡ status o) × (new ≡ behind o old)
  stored_as r old new s = (s.0 ∙ ap status e, s.1 ∙ ap (λ (p : Outcome ℕ). behind p old) e)

  pub stored_best : (P : ℕ → Type 0) → WhenDone o P → (r old new : ℕ) → (r ≡ status q) × (new ≡ behind q old)
      → (r ≡ status o) × ((new ≡ behind o old) × WhenDone o (λ _. P new))
  stored_best P b r old new s = let t = stored_as r old new s in (t.0, (t.1, go o b t.1))
    where
      go : (p : Outcome ℕ) → WhenDone p P → new ≡ behind p old → WhenDone p (λ _. P new)
      go (Err t) w g = tt
      go (Ok x) w g = subst P (sym (g ∙ behind_done x old)) w

-- the same of one that comes with its demand 3
pub stored_made : (o q : Outcome ℕ) (P : ℕ → Type 0) → (q ≡ o) × WhenDone q P → (r old new : ℕ) → (r ≡ status q) × (new ≡ behind q old)
    → (r ≡ status o) × ((new ≡ behind o old) × WhenDone o (λ _. P new))
stored_made o q P m = stored_best o q m.0 P (subst (λ (p : Outcome ℕ). WhenDone p P) m.0 m.1)

-- a stop's status, and none
pub status_stop : {s : Stop} (q : Outcome ℕ) (r old : ℕ) → Err s ≡ q → r ≡ s.place % 2 ^ 56 * 256 + s.number % 256 → (r ≡ status q) × (old ≡ behind q old)
unfolding status behind
status_stop q r old e g = (rw (← e) g, rw (← e) refl)

pub status_done : (q : Outcome ℕ) (n old : ℕ) → done n ≡ q → (0 ≡ status q) × (n ≡ behind q old)
unfolding status behind
status_done q n old e = (rw (← e) refl, rw (← e) refl)

-- what is told of a vector, and is best at each place where nothing stopped
status_stop_only : (p : Outcome (List ℕ)) → status (stop_only p) ≡ status p
unfolding status stop_only
status_stop_only (Err s) = refl
status_stop_only (Ok x) = refl

when_stop_only : (p : Outcome (List ℕ)) (X : Type 0) → WhenDone (stop_only p) (λ _. X) → WhenDone p (λ _. X)
unfolding stop_only
when_stop_only (Err s) X w = w
when_stop_only (Ok x) X w = w

pub vector_plain : (o : Outcome (List ℕ)) (v : Outcome (Unit {0})) (r : ℕ) (old new : List ℕ) → (v ≡ stop_only o) × (new ≡ vector_after o old)
    → r ≡ status v → (r ≡ status o) × (new ≡ vector_after o old)
vector_plain o v r old new s e = (e ∙ ap status s.0 ∙ status_stop_only o, s.1)

pub vector_as : (o : Outcome (List ℕ)) (v : Outcome (Unit {0})) (X : Type 0) (r : ℕ) (old new : List ℕ) → (v ≡ stop_only o) × ((new ≡ vector_after o old) × WhenDone v (λ _. X))
    → r ≡ status v → (r ≡ status o) × ((new ≡ vector_after o old) × WhenDone o (λ _. X))
vector_as o v X r old new s e =
    let t = vector_plain o v r old new (s.0, s.1.0) e in
    (t.0, (t.1, when_stop_only o X (subst (λ (p : Outcome (Unit {0})). WhenDone p (λ _. X)) s.0 s.1.1)))

-- what loading answers, and leaves behind two pointers
module _ (o : Outcome Counted) (l : Outcome Counted) (e : l ≡ o) (old older : ℕ) where
  pub loaded_done : (c : Counted) → l ≡ Ok c → (0 ≡ status o) × ((c.breaths ≡ behind (breaths_of o) old) × (c.total ≡ behind (total_of o) older))
  unfolding status behind breaths_of total_of
  loaded_done c d =
      let h : done c ≡ o = sym d ∙ e in
      (rw (← h) refl, (rw (← h) refl, rw (← h) refl))

  pub loaded_stop : (s : Stop) → l ≡ Err s → (r : ℕ) → r ≡ s.place % 2 ^ 56 * 256 + s.number % 256
      → (r ≡ status o) × ((old ≡ behind (breaths_of o) old) × (older ≡ behind (total_of o) older))
  unfolding status behind breaths_of total_of
  loaded_stop s d r g =
      let h : Err s ≡ o = sym d ∙ e in
      (rw (← h) g, (rw (← h) refl, rw (← h) refl))
