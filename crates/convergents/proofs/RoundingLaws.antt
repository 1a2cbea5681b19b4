-- A loop that rounds: what it keeps, and what it comes to. Assumes nothing.
-- `going_end`, `going_stop`: whether nothing is left to divide by or the next convergent isn't held, the pair that the loop has reached is the
-- rounding, marked just where its value isn't N/D, and the best.
use Prim.Native.Nat.{ℕ, ◌*◌, ◌%◌, ◌≤◌}
use mathlib.Core.Path.{◌≡◌, sym, ap, ◌∙◌}
use mathlib.Core.Bool.{Bool, true, false, not}
use borrow.Author.Tests.{eq-eqb, ne_eqb}
use native.Mathlib.Omega.{arith}
use Rattle.convergents.specs.Pairs.{Pair, pair, miss, differs}
use Rattle.convergents.specs.Rounding.{Limit, held, round}
use Rattle.convergents.specs.Best.{Best}
use Rattle.convergents.proofs.ConvergentLaws.{Inv, inv_start, miss_is, up, inv_next, up_den}
use Rattle.convergents.proofs.Optimal.{held_is, one_held, Last, exact, stopped, last_best}
use Rattle.convergents.proofs.BestLaws.{best_is_round}

-- a pair differs from N/D where its miss isn't 0
pub differs_not : (N D : ℕ) (x : Pair) → miss N D x ≡ 0 → false ≡ differs N D x
unfolding differs
differs_not N D x z =
    let e : x.denominator * N ≡ x.numerator * D = omega arith in
    sym (ap not (eq-eqb _ _ e))

pub differs_some : (N D : ℕ) (x : Pair) → 1 ≤ miss N D x → true ≡ differs N D x
unfolding differs
differs_some N D x z =
    let f : x.denominator * N ≡ x.numerator * D → ⊥ = λ e. omega arith in
    sym (ap not (ne_eqb _ _ f))

-- the loop's invariant: p/q is the convergent reached, it is held, and p₀/q₀ is the one before it
pub record Going (holds : ℕ → ℕ → Bool) (N D p₀ q₀ p q n d : ℕ) : Type 0 where
  pub inv : Inv N D p₀ q₀ p q n d
  pub here : held holds (pair p q) ≡ true

pub going_start : (holds : ℕ → ℕ → Bool) (N D : ℕ) → Going holds N D 0 1 1 0 N D
going_start holds N D = record { inv = inv_start N D; here = one_held holds }

-- what a way out of the loop shows of the pair x and the mark a
pub record Rounds (holds : ℕ → ℕ → Bool) (N D : ℕ) (x : Pair) (a : Bool) : Type 0 where
  pub is : x ≡ round holds N D
  pub mark : a ≡ differs N D x
  pub best : Best holds N D x

module _ {holds : ℕ → ℕ → Bool} {N D p₀ q₀ p q n d : ℕ} (g : Going holds N D p₀ q₀ p q n d) where
  pub going_next : 1 ≤ d → holds (up p₀ p n d) (up q₀ q n d) ≡ true
      → Going holds N D p q (up p₀ p n d) (up q₀ q n d) d (n % d)
  going_next l t =
      record {
        inv = inv_next g.inv l;
        here = held_is holds (up p₀ p n d) (up q₀ q n d) (up_den g.inv l) ∙ t;
      }

  -- the two ways out: nothing is left to divide by, or the next convergent is not held
  module _ (lim : Limit holds) (pos : 1 ≤ D) where
    out : Last holds N D (pair p q) → (a : Bool) → a ≡ differs N D (pair p q) → Rounds holds N D (pair p q) a
    out w a e =
        let b : Best holds N D (pair p q) = last_best holds lim N D pos (pair p q) w in
        record { is = best_is_round holds lim N D pos (pair p q) b; mark = e; best = b }

    pub going_end : d ≡ 0 → Rounds holds N D (pair p q) false
    going_end e = out (exact g.inv g.here e) false (differs_not N D (pair p q) (miss_is g.inv ∙ e))

    pub going_stop : 1 ≤ d → holds (up p₀ p n d) (up q₀ q n d) ≡ false → Rounds holds N D (pair p q) true
    going_stop l f =
        out (stopped g.inv g.here l f) true (differs_some N D (pair p q) (omega (arith, miss_is g.inv)))
