-- The states that Euclid's algorithm on N and D goes through. Assumes nothing.
-- `inv_next`: a turn leads from one to the next. `miss_is`: a convergent's miss is the remainder then left. `turn_bounds`: all that a turn
-- computes is at most N or D.
use Prim.Native.Nat.{ℕ, zero, suc, ◌+◌, ◌*◌, ◌/◌, ◌%◌, ◌≤◌, ◌<◌}
use mathlib.Core.Path.{◌≡◌, refl, sym, ap}
use mathlib.Core.Logic.{◌⊎◌, inl, inr}
use native.Mathlib.Omega.{arith}
use native.Mathlib.Decide.{dec_le}
use native.Mathlib.Nat.{mul-le-mul_right, le-mul_of_pos_right, div-add-mod', mod-lt}
use Rattle.convergents.specs.Pairs.{pair, miss}
use Rattle.convergents.proofs.Neighbours.{Det}

-- the first turn has 0/1 and then 1/0; later the misses fall and the denominator is at least 1
abbrev pub Phase : ℕ → ℕ → ℕ → ℕ → ℕ → ℕ → Type 0
Phase p₀ q₀ p q n d = ((p₀ ≡ 0) × (q₀ ≡ 1) × (p ≡ 1) × (q ≡ 0)) ⊎ ((1 ≤ q) × (d < n))

-- of the two last convergents p₀/q₀ and p/q, whose misses are n and d
pub record Inv (N D p₀ q₀ p q n d : ℕ) : Type 0 where
  pub numer : N ≡ p * n + p₀ * d
  pub denom : D ≡ q * n + q₀ * d
  pub det : Det p q p₀ q₀
  pub phase : Phase p₀ q₀ p q n d

pub inv_start : (N D : ℕ) → Inv N D 0 1 1 0 N D
inv_start N D =
    record { numer = omega arith; denom = omega arith; det = inl refl; phase = inl (refl, refl, refl, refl) }

-- p/q misses by d
pub miss_is : {N D p₀ q₀ p q n d : ℕ} → Inv N D p₀ q₀ p q n d → miss N D (pair p q) ≡ d
miss_is {N} {D} {p₀} {q₀} {p} {q} {n} {d} i = go i.det
  where
    go : Det p q p₀ q₀ → miss N D (pair p q) ≡ d
    go (inl e) = omega (arith, ap (λ (x : ℕ). q * x) i.numer, ap (λ (x : ℕ). p * x) i.denom, ap (λ (x : ℕ). x * d) e)
    go (inr e) = omega (arith, ap (λ (x : ℕ). q * x) i.numer, ap (λ (x : ℕ). p * x) i.denom, ap (λ (x : ℕ). x * d) e)

-- one of p₀ and q₀ is not 0
before_pos : (p q p₀ q₀ : ℕ) → Det p q p₀ q₀ → 1 ≤ p₀ + q₀
before_pos p q p₀ q₀ x = go (dec_le 1 (p₀ + q₀)) x
  where
    go : Dec (1 ≤ p₀ + q₀) → Det p q p₀ q₀ → 1 ≤ p₀ + q₀
    go (yes h) e = h
    go (no h) (inl e) = let z : q₀ ≡ 0 = omega arith in omega (arith, ap (λ (y : ℕ). p * y) z)
    go (no h) (inr e) = let z : p₀ ≡ 0 = omega arith in omega (arith, ap (λ (y : ℕ). y * q) z)

-- a quotient times d, and what that says of the quotient
pub quotient_pos : (n d a m : ℕ) → n ≡ a * d + m → m < d → d < n → 1 ≤ a
quotient_pos n d zero m e l h = omega arith
quotient_pos n d (suc a) m e l h = omega arith

pub quotient_two : (n d a : ℕ) → n ≡ a * d + 0 → d < n → 2 ≤ a
quotient_two n d zero e h = omega arith
quotient_two n d (suc zero) e h = omega arith
quotient_two n d (suc (suc a)) e h = omega arith

-- One turn, over the quotient a and the remainder m. Used only here: `a` and `m` are `n / d` and `n % d` from there on.
module _ (N D p₀ q₀ p q n d a m : ℕ) (e : n ≡ a * d + m) (l : m < d) (i : Inv N D p₀ q₀ p q n d) where
  next_det : Det p q p₀ q₀ → Det (a * p + p₀) (a * q + q₀) p q
  next_det (inl f) = inr (omega arith)
  next_det (inr f) = inl (omega arith)

  next_den : Phase p₀ q₀ p q n d → 1 ≤ a * q + q₀
  next_den (inl f) = omega arith
  next_den (inr f) = omega (arith, mul-le-mul_right q (quotient_pos n d a m e l f.1))

  next : Inv N D p q (a * p + p₀) (a * q + q₀) d m
  next = record {
    numer = omega (arith, i.numer, ap (λ (x : ℕ). p * x) e);
    denom = omega (arith, i.denom, ap (λ (x : ℕ). q * x) e);
    det = next_det i.det;
    phase = inr (next_den i.phase, l);
  }

-- the next numerator and denominator
abbrev pub up : ℕ → ℕ → ℕ → ℕ → ℕ
up p₀ p n d = n / d * p + p₀

module _ {N D p₀ q₀ p q n d : ℕ} (i : Inv N D p₀ q₀ p q n d) (l : 1 ≤ d) where
  pub inv_next : Inv N D p q (up p₀ p n d) (up q₀ q n d) d (n % d)
  inv_next = next N D p₀ q₀ p q n d (n / d) (n % d) (sym (div-add-mod' n d)) (mod-lt n l) i

  pub up_den : 1 ≤ up q₀ q n d
  up_den = next_den N D p₀ q₀ p q n d (n / d) (n % d) (sym (div-add-mod' n d)) (mod-lt n l) i i.phase

  -- after the first turn the parts grow
  pub up_le : d < n → (p ≤ up p₀ p n d) × (q ≤ up q₀ q n d)
  up_le h =
      let j : 1 ≤ n / d = quotient_pos n d (n / d) (n % d) (sym (div-add-mod' n d)) (mod-lt n l) h in
      omega (arith, mul-le-mul_right p j, mul-le-mul_right q j)

  -- all that a turn computes is at most N or D
  pub turn_bounds : (n / d * p ≤ N) × (up p₀ p n d ≤ N) × (n / d * q ≤ D) × (up q₀ q n d ≤ D)
  turn_bounds =
      omega (
        arith,
        inv_next.numer,
        inv_next.denom,
        le-mul_of_pos_right (up p₀ p n d) l,
        le-mul_of_pos_right (up q₀ q n d) l,
      )

  -- where the next convergent is exact its quotient is at least 2, so that its parts are more than twice as large together;
  -- at 1/0 that is asked for
  pub up_wide : (q ≡ 0 → 2 ≤ n / d) → n % d ≡ 0 → 2 * (p + q) < up p₀ p n d + up q₀ q n d
  up_wide f z = go i.phase
    where
      two : Phase p₀ q₀ p q n d → 2 ≤ n / d
      two (inl g) = f g.3
      two (inr g) = quotient_two n d (n / d) (omega (arith, div-add-mod' n d)) g.1

      go : Phase p₀ q₀ p q n d → 2 * (p + q) < up p₀ p n d + up q₀ q n d
      go g = omega (arith, mul-le-mul_right (p + q) (two g), before_pos p q p₀ q₀ i.det)
