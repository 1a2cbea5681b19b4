-- Counting partial quotients. Assumes nothing.
-- `next_quotient`, `no_quotient`: one turn of Euclid's algorithm, and its end. `two_quotients`: where the rest is nearer to the divisor than
-- to 0, the quotient that follows is 1, so that one division counts two; `nearer`: the same of a first quotient 1. `count_end`, `take_more`,
-- `take_end`, `taken`: what the loops come to. `few`: n/d has at most 2j quotients where d is below 2^j.
use mathlib.Core.Path.{◌≡◌, refl, sym, ap, ◌∙◌, subst}
use mathlib.Core.Bool.{true, false, not}
use mathlib.Core.List.{List, [], ◌∷◌}
use Prim.Native.Nat.{ℕ, zero, suc, ◌+◌, ◌-◌, ◌*◌, ◌/◌, ◌%◌, ◌^◌, ◌≤◌, ◌<◌}
use native.Mathlib.Omega.{arith}
use native.Mathlib.Nat.{mod-lt, mod-eq_of_lt, add-mod_left, add-mod_right, zero-lt-suc, le-div_iff_mul-le, div-add-mod', mul-le-mul_right, pow-suc}
use native.Mathlib.Decide.{ℕ_discrete}
use lib.ListN.{length}
use lib.Dec.{ltb, eqb}
use borrow.Author.Tests.{le-ltb, lt-ltb, eq-eqb, ne_eqb}
use Rattle.convergents.specs.Convergents.{euclid, quotients}
use Rattle.convergents.proofs.BestLaws.{euclid_enough, euclid_done}

-- ---- one turn, and the end

pub next_quotient : (n d : ℕ) → 1 ≤ d → quotients n d ≡ n / d ∷ quotients d (n % d)
unfolding quotients euclid
next_quotient n zero l = absurd (omega arith)
next_quotient n (suc d) l =
    let m : n % suc d < suc d = mod-lt n (zero-lt-suc d) in
    ap (λ (more : List ℕ). n / suc d ∷ more) (euclid_enough d (n % suc d) (suc d) (n % suc d) (omega arith) (omega arith))

pub no_quotient : (n d : ℕ) → d ≡ 0 → quotients n d ≡ []
unfolding quotients
no_quotient n d z = rw z (euclid_done 0 n)

-- ---- two at once

-- where b is less than a, the first quotient of a + b by a is 1, and those behind it are as many as those of a + b by b
one_more_lem : (a b : ℕ) → b < a → length (quotients (a + b) a) ≡ 1 + length (quotients (a + b) b)
one_more_lem a b l =
    let first : (a + b) % a ≡ b = add-mod_left a b ∙ mod-eq_of_lt l in
    let large : 1 ≤ a = omega arith in
    omega (arith, ap length (next_quotient (a + b) a large), ap (λ (r : ℕ). length (quotients a r)) first, behind (ℕ_discrete b 0))
  where
    behind : Dec (b ≡ 0) → length (quotients a b) ≡ length (quotients (a + b) b)
    behind (yes z) = ap length (no_quotient a b z ∙ sym (no_quotient (a + b) b z))
    behind (no n) =
        let some : 1 ≤ b = omega arith in
        let second : (a + b) % b ≡ a % b = add-mod_right a b in
        omega (arith, ap length (next_quotient a b some), ap length (next_quotient (a + b) b some), ap (λ (r : ℕ). length (quotients b r)) second)

-- the same of a number and a part of it that is more than its half
pub nearer : (u v : ℕ) → v ≤ u → u - v < v → length (quotients u v) ≡ 1 + length (quotients u (u - v))
nearer u v h l =
    let whole : v + (u - v) ≡ u = omega arith in
    subst (λ (x : ℕ). length (quotients x v) ≡ 1 + length (quotients x (u - v))) whole (one_more_lem v (u - v) l)

pub two_quotients : (u v : ℕ) → 1 ≤ v → v - u % v < u % v → length (quotients u v) ≡ 2 + length (quotients v (v - u % v))
two_quotients u v some l =
    let m : u % v ≤ v = omega (arith, mod-lt u some) in
    omega (arith, ap length (next_quotient u v some), nearer v (u % v) m l)

-- ---- the loop

pub record Counting (N D u v i : ℕ) : Type 0 where
  pub few : i + v ≤ D
  pub total : i + length (quotients u v) ≡ length (quotients N D)

-- how the loop begins
pub count_start : (N D : ℕ) → Counting N D N D 0
count_start N D = record { few = omega arith; total = omega arith }

-- or with the larger part first
abbrev pub Begun : (N D : ℕ) → ℕ × ℕ × ℕ → Type 0
Begun N D t = Counting N D t.0 t.1 t.2 × (t.1 ≤ t.0) × (t.2 ≤ 1)

module _ (N D : ℕ) {t : ℕ × ℕ × ℕ} where
  -- below 1 the first quotient is 0 and leaves N
  pub count_below : N < D → t ≡ (D, N, 1) → Begun N D t
  count_below l e =
      let some : 1 ≤ D = omega arith in
      let r : length (quotients D (N % D)) ≡ length (quotients D N) = ap (λ (x : ℕ). length (quotients D x)) (mod-eq_of_lt l) in
      let c : Counting N D D N 1 = record { few = omega arith; total = omega (arith, ap length (next_quotient N D some)) } in
      rw e (c, omega arith, omega arith)

  pub count_above : D ≤ N → t ≡ (N, D, 0) → Begun N D t
  count_above l e = rw e (count_start N D, l, omega arith)

module _ {N D u v i : ℕ} (c : Counting N D u v i) where
  -- a first quotient 1
  pub count_nearer : v ≤ u → u - v < v → {x j : ℕ} → x ≡ u - v → j ≡ i + 1 → Counting N D u x j
  count_nearer h l e f =
      let d : Counting N D u (u - v) (i + 1) = record { few = omega (arith, c.few); total = omega (arith, c.total, nearer u v h l) } in
      rw (e, f) d

  pub count_as : {x j : ℕ} → x ≡ v → j ≡ i → Counting N D u x j
  count_as e f = rw (e, f) c

  module _ (some : 1 ≤ v) where
    pub rest_less : u % v < v
    rest_less = mod-lt u some

    pub count_one : Counting N D v (u % v) (i + 1)
    count_one =
        let m : u % v < v = rest_less in
        record { few = omega (arith, c.few); total = omega (arith, c.total, ap length (next_quotient u v some)) }

    pub count_two : v - u % v < u % v → Counting N D v (v - u % v) (i + 2)
    count_two l =
        let m : u % v < v = rest_less in
        record { few = omega (arith, c.few); total = omega (arith, c.total, two_quotients u v some l) }

  pub count_end : v ≡ 0 → i ≡ length (quotients N D)
  count_end z = omega (arith, c.total, ap length (no_quotient u v z))

-- the loop that looks whether there are more quotients than places, of which so many are free
pub record Taking (N D places u v free : ℕ) : Type 0 where
  pub total : length (quotients N D) + free ≡ length (quotients u v) + places

pub take_start : (N D places : ℕ) → Taking N D places N D places
take_start N D places = record { total = refl }

module _ {N D places u v free : ℕ} (t : Taking N D places u v free) where
  module _ (some : 1 ≤ v) where
    pub take_next : 1 ≤ free → Taking N D places v (u % v) (free - 1)
    take_next l = record { total = omega (arith, t.total, ap length (next_quotient u v some)) }

    pub take_more : free ≡ 0 → true ≡ ltb places (length (quotients N D))
    take_more z =
        let l : places < length (quotients N D) = omega (arith, t.total, ap length (next_quotient u v some)) in
        sym (lt-ltb _ _ l)

  pub take_end : v ≡ 0 → false ≡ ltb places (length (quotients N D))
  take_end z =
      let l : length (quotients N D) ≤ places = omega (arith, t.total, ap length (no_quotient u v z)) in
      sym (le-ltb _ _ l)

  -- where no place is free, the divisor that is left tells it
  pub taken : free ≡ 0 → not (eqb v 0) ≡ ltb places (length (quotients N D))
  taken z = go (ℕ_discrete v 0)
    where
      go : Dec (v ≡ 0) → not (eqb v 0) ≡ ltb places (length (quotients N D))
      go (yes e) = rw (eq-eqb v 0 e) (take_end e)
      go (no n) = let some : 1 ≤ v = omega arith in rw (ne_eqb v 0 n) (take_more some z)

-- ---- how many there can be

-- two turns at least halve the denominator
pub few : (j n d : ℕ) → d < 2 ^ j → length (quotients n d) ≤ 2 * j
few zero n d h = let e : d ≡ 0 = omega arith in omega (arith, ap length (no_quotient n d e))
few (suc j) n d h = go (ℕ_discrete d 0) (ℕ_discrete (n % d) 0) (few j (n % d) (d % (n % d)))
  where
    go : Dec (d ≡ 0) → Dec (n % d ≡ 0) → (d % (n % d) < 2 ^ j → length (quotients (n % d) (d % (n % d))) ≤ 2 * j)
        → length (quotients n d) ≤ 2 * suc j
    go (yes z) r ih = omega (arith, ap length (no_quotient n d z))
    go (no z) (yes r) ih =
        let one : 1 ≤ d = omega arith in
        omega (arith, ap length (next_quotient n d one), ap length (no_quotient d (n % d) r))
    go (no z) (no r) ih =
        let one : 1 ≤ d = omega arith in
        let two : 1 ≤ n % d = omega arith in
        let m : n % d < d = mod-lt n one in
        let l : d % (n % d) < n % d = mod-lt d two in
        let q : 1 ≤ d / (n % d) = (le-div_iff_mul-le {k = n % d} {x = 1} {y = d} two).1 (omega arith) in
        let half : d % (n % d) < 2 ^ j = omega (arith, div-add-mod' d (n % d), mul-le-mul_right (n % d) q, pow-suc 2 j) in
        omega (arith, ih half, ap length (next_quotient n d one), ap length (next_quotient d (n % d) two))
