-- Outcomes, by their cases. Assumes nothing.
-- `then_stop`, `then_done`: a stop ends the steps; a step that is done goes on to the next. `checked_stop`, `checked_made`: the same of a call
-- that is a check first and then makes a word. `plain_stop`: `Stop::plain` names place 0. `passed_on`: what `?` hands on.
use mathlib.Core.Path.{◌≡◌, refl, sym, ap, ap₂, ◌∙◌, subst}
use mathlib.Core.Bool.{Bool, true, false, ◌&&◌, false≢true}
use Prim.Native.Nat.{ℕ, ◌≤◌}
use native.Mathlib.Omega.{arith}
use lib.Dec.{eqb}
use borrow.Author.Tests.{ne_eqb}
use Rattle.std.specs.Prelude.{if◌then◌else◌}
use Rattle.std.specs.Prelude.{Ok, Err, IsErr, IsErrAnd}
use Rattle.slash.specs.Answers.{Outcome, stop, done, ◌then◌, WhenDone}
use Rattle.slash.specs.Steps.{or_zero}
use Rattle.slash.specs.declared.answer.Stop.{Stop}

-- a stop made by `Stop::plain`
pub plain_stop : {A : Type 0} (s : Stop) (n : ℕ) {o : Outcome A} → s ≡ record { number = n; place = 0 } → stop n 0 ≡ o → Err s ≡ o
plain_stop s n e h = ap (λ (t : Stop). Err t) e ∙ h

-- the stop that a call names
abbrev stop_of : {A : Type 0} → Outcome A → Stop
stop_of (Err s) = s
stop_of (Ok x) = record { number = 0; place = 0 }

pub stop_inj : {A : Type 0} {n p m q : ℕ} → ◌≡◌ {A = Outcome A} (stop n p) (stop m q) → (n ≡ m) × (p ≡ q)
stop_inj e = (ap (λ (s : Stop). s.number) (ap stop_of e), ap (λ (s : Stop). s.place) (ap stop_of e))

pub done_inj : {A : Type 0} {x y : A} → done x ≡ done y → x ≡ y
done_inj e = cc

pub no_stop : {A : Type 0} {s : Stop} {x : A} → ◌≡◌ {A = Outcome A} (Err s) (Ok x) → ⊥
no_stop e = let z : ◌≡◌ {A = ℕ} 0 1 = cc in omega arith

-- what `?` hands on is the stop that it met
pub passed_on : {A : Type 0} (r : Outcome A) {s : Stop} → IsErr r × IsErrAnd r (λ (t : Stop). t ≡ s) → r ≡ Err s
passed_on (Ok x) h = absurd h.1
passed_on (Err t) h = ap Err h.1

-- what a step that stopped, or is done, comes to
module _ {A B : Type 0} {o : Outcome A} (next : A → Outcome B) where
  pub then_stop : {s : Stop} → Err s ≡ o → Err s ≡ (o then next)
  then_stop {s} e = ap (λ (q : Outcome A). q then next) e

  pub then_done : {x : A} {r : Outcome B} → done x ≡ o → r ≡ next x → r ≡ (o then next)
  then_done {x} {r} e h = h ∙ ap (λ (q : Outcome A). q then next) e

-- and back, where the next step is always done
module _ {A : Type 0} (x : A) where
  pub then_stopped : {s : Stop} (o : Outcome (Unit {0})) → Err s ≡ (o then λ _. done x) → Err s ≡ o
  then_stopped (Err t) e = cc
  then_stopped (Ok u) e = absurd (no_stop e)

  pub then_made : {y : A} (o : Outcome (Unit {0})) → done y ≡ (o then λ _. done x) → o ≡ done tt
  then_made (Err t) e = absurd (no_stop (sym e))
  then_made (Ok u) e = refl

-- the word of an outcome, or 0
pub zero_stop : {s : Stop} {o : Outcome ℕ} → Err s ≡ o → 0 ≡ or_zero o
unfolding or_zero
zero_stop e = ap or_zero e

pub zero_done : {v : ℕ} {o : Outcome ℕ} → done v ≡ o → v ≡ or_zero o
unfolding or_zero
zero_done e = ap or_zero e

-- a call o that is a check first, and then makes v
module _ (c : Outcome (Unit {0})) (v : ℕ) {o : Outcome ℕ} (e : (c then λ _. done v) ≡ o) where
  pub checked_stop : {s : Stop} → Err s ≡ c → Err s ≡ o
  checked_stop h = then_stop (λ _. done v) h ∙ e

  pub checked_made : {r : ℕ} → done tt ≡ c → r ≡ v → done r ≡ o
  checked_made h re = then_done (λ _. done v) h (ap done re) ∙ e

  pub when_checked : (P : ℕ → Type 0) → (done tt ≡ c → P v) → WhenDone o P
  when_checked P good = subst (λ (q : Outcome ℕ). WhenDone q P) e (go c good)
    where
      go : (d : Outcome (Unit {0})) → (done tt ≡ d → P v) → WhenDone (d then λ _. done v) P
      go (Err s) g = tt
      go (Ok u) g = g refl

-- both of two tests
pub and_parts : (a b : Bool) → (a && b) ≡ true → (a ≡ true) × (b ≡ true)
and_parts true b h = (refl, h)
and_parts false b h = absurd (false≢true h)

pub some_not : (m : ℕ) → 1 ≤ m → eqb m 0 ≡ false
some_not m h = let z : m ≡ 0 → ⊥ = λ e. omega arith in ne_eqb _ _ z

-- what holds of either choice holds of the one that a test makes
pub if_case : {A : Type 0} (P : A → Type 0) (c : Bool) (x y : A) → (c ≡ true → P x) → (c ≡ false → P y) → P (if c then x else y)
if_case P true x y f g = f refl
if_case P false x y f g = g refl

-- what a function F comes to at a value that the code knows by its case
pub at_one : {A B : Type 0} (F : A → B) {x u : A} {r : B} → x ≡ u → r ≡ F u → r ≡ F x
at_one F e h = h ∙ ap F (sym e)

pub at_both : {A B C : Type 0} (F : A → B → C) {x u : A} {y v : B} {r : C} → x ≡ u → y ≡ v → r ≡ F u v → r ≡ F x y
at_both F e g h = h ∙ ap₂ F (sym e) (sym g)
