-- The greatest common divisor. Assumes nothing.
-- `common_end`, `greatest_is`: what Euclid's algorithm comes to is the greatest number that divides both.
use mathlib.Core.Path.{◌≡◌, refl, sym, ap₂, ◌∙◌, subst}
use mathlib.Core.Bool.{Bool, true, false, ◌&&◌, true≢false}
use Prim.Native.Nat.{ℕ, zero, suc, ◌+◌, ◌%◌, ◌≤◌, ◌∣◌}
use native.Mathlib.Omega.{arith}
use native.Mathlib.Decide.{ℕ_discrete}
use native.Mathlib.Nat.{dvd_refl, dvd-zero, eq-zero_of_zero-dvd, dvd-mod_iff, dvd_iff_mod-eq-zero, le_of_dvd}
use borrow.Author.Tests.{eqb-true, eq-eqb}
use Rattle.slash.proofs.AnswerLaws.{and_parts}
use Rattle.euclid.specs.Divisor.{divides, greatest_from, gcd_of}

-- ---- what the algorithm keeps

-- u and v have the common divisors of N and D
pub record Common (N D u v : ℕ) : Type 0 where
  pub down : (g : ℕ) → g ∣ N → g ∣ D → (g ∣ u) × (g ∣ v)
  pub up : (g : ℕ) → g ∣ u → g ∣ v → (g ∣ N) × (g ∣ D)

pub common_start : (N D : ℕ) → Common N D N D
common_start N D = record { down = λ g a b. (a, b); up = λ g a b. (a, b) }

pub common_next : {N D u v : ℕ} → Common N D u v → Common N D v (u % v)
common_next {N} {D} {u} {v} c =
    record {
      down = λ g a b. let w = c.down g a b in (w.1, (dvd-mod_iff g {m = u} {n = v} w.1).1 w.0);
      up = λ g a b. c.up g ((dvd-mod_iff g {m = u} {n = v} a).0 b) a;
    }

-- ---- what it comes to

-- u is the greatest common divisor: it divides both, and every common divisor divides it
pub record Greatest (N D u : ℕ) : Type 0 where
  pub left : u ∣ N
  pub right : u ∣ D
  pub greatest : (g : ℕ) → g ∣ N → g ∣ D → g ∣ u

pub common_end : {N D u v : ℕ} → Common N D u v → v ≡ 0 → Greatest N D u
common_end {N} {D} {u} {v} c z =
    let w = c.up u (dvd_refl u) (subst (λ (m : ℕ). u ∣ m) (sym z) (dvd-zero u)) in
    record { left = w.0; right = w.1; greatest = λ g a b. (c.down g a b).0 }

-- the test is divisibility
module _ (g n : ℕ) where
  divides_is : divides g n ≡ true → g ∣ n
  unfolding divides
  divides_is h = (dvd_iff_mod-eq-zero g {n = n}).1 (eqb-true _ _ h)

  is_divides : g ∣ n → divides g n ≡ true
  unfolding divides
  is_divides h = eq-eqb _ _ ((dvd_iff_mod-eq-zero g {n = n}).0 h)

module _ (N D u : ℕ) (w : Greatest N D u) where
  -- searching from above it, the first that is found is it
  found : 1 ≤ u → (g : ℕ) → u ≤ g → greatest_from g N D ≡ u
  unfolding greatest_from
  found pos zero l = absurd (omega arith)
  found pos (suc g) l = pick (divides (suc g) N && divides (suc g) D) refl (λ n. found pos g n)
    where
      pick : (b : Bool) → (divides (suc g) N && divides (suc g) D) ≡ b → (u ≤ g → greatest_from g N D ≡ u)
          → elim b [ true ↦ suc g | false ↦ greatest_from g N D ] ≡ u
      pick true t f =
          let h = and_parts _ _ t in
          let k : suc g ≤ u = le_of_dvd pos (w.greatest (suc g) (divides_is (suc g) N h.0) (divides_is (suc g) D h.1)) in
          omega arith
      pick false t f = f (other (ℕ_discrete u (suc g)))
        where
          other : Dec (u ≡ suc g) → u ≤ g
          other (yes e) =
              let a : divides (suc g) N ≡ true = is_divides (suc g) N (subst (λ (m : ℕ). m ∣ N) e w.left) in
              let b : divides (suc g) D ≡ true = is_divides (suc g) D (subst (λ (m : ℕ). m ∣ D) e w.right) in
              absurd (true≢false (sym (ap₂ ◌&&◌ a b) ∙ t))
          other (no n) = omega arith

  pub greatest_is : u ≡ gcd_of N D
  unfolding gcd_of greatest_from
  greatest_is = go (ℕ_discrete u 0) (ℕ_discrete N 0) (ℕ_discrete D 0)
    where
      go : Dec (u ≡ 0) → Dec (N ≡ 0) → Dec (D ≡ 0) → u ≡ greatest_from (N + D) N D
      go (yes e) a b =
          let n : N ≡ 0 = eq-zero_of_zero-dvd (subst (λ (m : ℕ). m ∣ N) e w.left) in
          let d : D ≡ 0 = eq-zero_of_zero-dvd (subst (λ (m : ℕ). m ∣ D) e w.right) in
          none n d
        where
          none : N ≡ 0 → D ≡ 0 → u ≡ greatest_from (N + D) N D
          none n d = rw (n, d) e
      go (no e) (no a) b =
          let l : u ≤ N = le_of_dvd (omega arith) w.left in
          sym (found (omega arith) (N + D) (omega arith))
      go (no e) (yes a) (no b) =
          let l : u ≤ D = le_of_dvd (omega arith) w.right in
          sym (found (omega arith) (N + D) (omega arith))
      go (no e) (yes a) (yes b) =
          let z : 0 ∣ u = w.greatest 0 (subst (λ (m : ℕ). 0 ∣ m) (sym a) (dvd_refl 0)) (subst (λ (m : ℕ). 0 ∣ m) (sym b) (dvd_refl 0)) in
          absurd (e (eq-zero_of_zero-dvd z))
