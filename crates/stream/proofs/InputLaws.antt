-- Bytes read behind those that a buffer has. Assumes nothing.
-- `turn_listed`, `turn_read`: a turn that takes a line, or reads on, leaves fewer turns. `of_read`: what follows of the count of a read.
use mathlib.Core.Path.{◌≡◌, refl}
use mathlib.Core.Bool.{Bool, true, false}
use mathlib.Core.Logic.{⊎_elim}
use mathlib.Core.List.{List}
use lib.Dec.{eqb}
use borrow.Author.Tests.{eqb-false}
use Prim.Native.Nat.{ℕ, ◌+◌, ◌-◌, ◌*◌, ◌≤◌, ◌<◌}
use native.Mathlib.Omega.{arith}
use lib.ListN.{length, length-take}
use Rattle.std.specs.Prelude.{Result, Ok, Err, IfOk, MatchResult}
use Rattle.io.specs.Counts.{IsPrefixLen}
use Rattle.listing.proofs.PieceLaws.{Waits, GoesOn}

pub counts : (n : ℕ) (xs : List ℕ) → n ≤ length xs → IsPrefixLen n xs
counts n xs h = (h, omega (arith, length-take n xs, h))

pub below : (a b : ℕ) → a < b → a ≤ b
below a b h = omega arith

-- what follows of the count of a read, by both of what it promises
pub of_read : {E : Type 0} (r : Result ℕ E) (P Q R : ℕ → Type 0) (S : E → Type 0) → IfOk r P → MatchResult r Q S → ((n : ℕ) → P n → Q n → R n) → IfOk r R
of_read (Ok n) P Q R S p q f = f n p q
of_read (Err e) P Q R S p q f = p

pub grown : (filled n : ℕ) → (eqb n 0 ≡ false → filled < filled + n) × (filled ≤ filled + n)
grown filled n = (λ e. let some : n ≡ 0 → ⊥ = eqb-false _ _ e in omega arith, omega arith)

-- one more than the turns that are left: a turn takes a line, or reads bytes of one, or finds the end
pub turns_left : (line filled : ℕ) (last : Bool) → ℕ
turns_left line filled true = (65539 - line) * 40 + (34 - filled)
turns_left line filled false = (65539 - line) * 40 + (34 - filled) + 1

-- a turn that listed lines and used bytes
pub turn_listed : (line line' filled filled' : ℕ) (last : Bool) → line < line' → line' ≤ 65538 → turns_left line' filled' last < turns_left line filled last
unfolding turns_left
turn_listed line line' filled filled' true h few = omega arith
turn_listed line line' filled filled' false h few = omega arith

-- a turn that read on
pub turn_read : (line filled filled' : ℕ) (last last' : Bool) → last ≡ false → filled < 33 → (last' ≡ false → filled < filled') × (filled ≤ filled')
    → turns_left line filled' last' < turns_left line filled last
unfolding turns_left
turn_read line filled filled' last true e h g = rw e (omega (arith, g.1))
turn_read line filled filled' last false e h g = rw e (omega (arith, g.0 refl))

-- which of the two it is, by the bytes that the piece used
module _ (line : ℕ) (bs : List ℕ) (last : Bool) (used line' : ℕ) (g : GoesOn line bs last used line') where
  pub listed_on : 1 ≤ used → line < line'
  listed_on h = ⊎_elim (λ a. a.0) (λ w. absurd (omega (arith, w.0))) g

  pub waits_on : used ≤ 0 → Waits bs last
  waits_on h = ⊎_elim (λ a. absurd (omega (arith, a.1))) (λ w. w.1) g
