-- Where the rounding stops, the pair is the best. Assumes nothing.
-- `last_best`: where no convergent is left, or the next isn't held, no held pair does better than the one reached. `one_held`: 1/0 is held.
use Prim.Native.Nat.{ℕ, zero, suc, ◌+◌, ◌*◌, ◌/◌, ◌%◌, ◌≤◌, ◌<◌}
use mathlib.Core.Path.{◌≡◌, refl, sym, ap, subst, ◌∙◌}
use mathlib.Core.Logic.{◌⊎◌, inl, inr, ◌≢◌}
use mathlib.Core.Bool.{Bool, true, false, true≢false}
use borrow.Author.Tests.{eqb-true}
use native.Mathlib.Omega.{arith}
use native.Mathlib.Decide.{dec_le, ℕ_discrete}
use native.Mathlib.Nat.{eq_of_mul-eq-mul_right, mod-lt}
use Rattle.convergents.specs.Pairs.{Pair, pair, miss, Better}
use Rattle.convergents.specs.Rounding.{Limit, held}
use Rattle.convergents.specs.Best.{Best}
use Rattle.convergents.proofs.Neighbours.{Det, det_mirror, none_between, not_both, outside, multiple}
use Rattle.convergents.proofs.ConvergentLaws.{Inv, Phase, miss_is, up, inv_next, up_den, up_wide}

-- which way two numbers stand
data Tri (a b : ℕ) : Type 0 where
  less : a < b → Tri a b
  same : a ≡ b → Tri a b
  more : b < a → Tri a b

tri : (a b : ℕ) → Tri a b
tri a b = go (dec_le (suc a) b) (dec_le (suc b) a)
  where
    go : Dec (a < b) → Dec (b < a) → Tri a b
    go (yes h) k = less h
    go (no h) (yes k) = more k
    go (no h) (no k) = same (omega arith)

-- No convergent is left: the miss is 0, and what misses by 0 is a multiple.
module _ (N D p₀ q₀ p q n : ℕ) (i : Inv N D p₀ q₀ p q n 0) (pos : 1 ≤ D) (r s : ℕ) (l : 1 ≤ r + s)
    (ne : (r ≡ p) × (s ≡ q) → ⊥) where
  gcd_pos : 1 ≤ n
  gcd_pos = go n refl
    where
      go : (x : ℕ) → n ≡ x → 1 ≤ n
      go zero f = omega (arith, i.denom, ap (λ (x : ℕ). q * x) f)
      go (suc x) f = omega arith

  cross : s * N ≡ r * D → s * p ≡ r * q
  cross h =
      eq_of_mul-eq-mul_right n gcd_pos (s * p) (r * q)
      (omega (arith, ap (λ (x : ℕ). s * x) i.numer, ap (λ (x : ℕ). r * x) i.denom))

  sum_less : s * N ≡ r * D → Det p q p₀ q₀ → p + q < r + s
  sum_less h (inl e) = multiple p q p₀ q₀ r s e (cross h) l ne
  sum_less h (inr e) =
      let t : q + p < s + r =
      multiple q p q₀ p₀ s r (omega arith) (sym (cross h)) (omega arith) (λ f. ne (f.1, f.0))
      in
      omega arith

  finish : Better N D (pair p q) (pair r s)
  finish = go (ℕ_discrete (s * N) (r * D))
    where
      go : Dec (s * N ≡ r * D) → Better N D (pair p q) (pair r s)
      go (yes h) = inr (omega (arith, miss_is i), sum_less h i.det)
      go (no h) = inl (omega (arith, miss_is i))

-- The next convergent P/Q, whose miss is m, is beyond reach: no rival r/s has parts as large.
module _ (N D P Q p q d m : ℕ) (i : Inv N D p q P Q d m) (here : miss N D (pair p q) ≡ d) (lt : m < d)
    (size : 1 ≤ Q) (wide : m ≡ 0 → 2 * (p + q) < P + Q)
    (r s : ℕ) (l : 1 ≤ r + s) (ne : (r ≡ p) × (s ≡ q) → ⊥) (far : P ≤ r → Q ≤ s → ⊥) where
  right : r * Q < s * P → r * q ≤ s * p → Better N D (pair p q) (pair r s)
  right h k = go (outside N D P Q p q d m r s i.numer i.denom (omega arith) i.det wide ne h k)
    where
      go : (r * D + d < s * N) ⊎ ((r * D + d ≡ s * N) × (p + q < r + s)) → Better N D (pair p q) (pair r s)
      go (inl f) = inl (omega arith)
      go (inr f) = inr (omega arith)

  left : s * P < r * Q → s * p ≤ r * q → Better N D (pair p q) (pair r s)
  left h k =
      go
      (outside D N Q P q p d m s r i.denom i.numer (omega arith) (det_mirror P Q p q i.det) (λ e. omega (arith, wide e))
      (λ f. ne (f.1, f.0)) h k)
    where
      go : (s * N + d < r * D) ⊎ ((s * N + d ≡ r * D) × (q + p < s + r)) → Better N D (pair p q) (pair r s)
      go (inl f) = inl (omega arith)
      go (inr f) = inr (omega arith)

  -- between P/Q and p/q there is nothing within reach
  none_above : r * Q ≤ s * P → s * p < r * q → Better N D (pair p q) (pair r s)
  none_above h k = absurd (none_between P Q p q r s i.det (omega arith) far h k)

  none_below : s * P ≤ r * Q → r * q < s * p → Better N D (pair p q) (pair r s)
  none_below h k =
      absurd (none_between Q P q p s r (det_mirror P Q p q i.det) (omega arith) (λ x y. far y x) h k)

  stop : Better N D (pair p q) (pair r s)
  stop = go (tri (r * Q) (s * P)) (tri (s * p) (r * q))
    where
      go : Tri (r * Q) (s * P) → Tri (s * p) (r * q) → Better N D (pair p q) (pair r s)
      go (less h) (less k) = none_above (omega arith) k
      go (less h) (same k) = right h (omega arith)
      go (less h) (more k) = right h (omega arith)
      go (same h) (less k) = none_above (omega arith) k
      go (same h) (same k) = absurd (not_both P Q p q r s i.det h k l)
      go (same h) (more k) = none_below (omega arith) k
      go (more h) (less k) = left h (omega arith)
      go (more h) (same k) = left h (omega arith)
      go (more h) (more k) = none_below (omega arith) k

pub pair_path : {x y : Pair} → x.numerator ≡ y.numerator → x.denominator ≡ y.denominator → x ≡ y
pair_path e f i = record { numerator = e i; denominator = f i }

pub true_false : (b : Bool) → b ≡ true → b ≡ false → ⊥
true_false b e f = true≢false (sym e ∙ f)

-- The limit.
module _ (holds : ℕ → ℕ → Bool) where
  pub held_is : (P Q : ℕ) → 1 ≤ Q → held holds (pair P Q) ≡ holds P Q
  unfolding held
  held_is P zero l = absurd (omega arith)
  held_is P (suc Q) l = refl

  pub one_held : held holds (pair 1 0) ≡ true
  unfolding held
  one_held = refl

  -- a pair that is held: 1/0, or one that the limit holds
  cases : (r s : ℕ) → held holds (pair r s) ≡ true → ((r ≡ 1) × (s ≡ 0)) ⊎ ((1 ≤ s) × (holds r s ≡ true))
  unfolding held
  cases r zero h = inl (eqb-true r 1 h, refl)
  cases r (suc s) h = inr (omega arith, h)

  some_part : (r s : ℕ) → held holds (pair r s) ≡ true → 1 ≤ r + s
  some_part r s h = go (cases r s h)
    where
      go : ((r ≡ 1) × (s ≡ 0)) ⊎ ((1 ≤ s) × (holds r s ≡ true)) → 1 ≤ r + s
      go (inl f) = omega arith
      go (inr f) = omega arith

  -- what is held has not both parts of a pair that is not
  out_of_reach : Limit holds → (P Q r s : ℕ) → 1 ≤ Q → holds P Q ≡ false → held holds (pair r s) ≡ true → P ≤ r → Q ≤ s → ⊥
  out_of_reach lim P Q r s l f t h k = go (cases r s t)
    where
      go : ((r ≡ 1) × (s ≡ 0)) ⊎ ((1 ≤ s) × (holds r s ≡ true)) → ⊥
      go (inl g) = omega arith
      go (inr g) = true_false (holds P Q) (lim.downward r s P Q g.1 h l k) f

  -- Where the rounding stops at x: no convergent is left, or the next is not held.
  pub data Last (N D : ℕ) : Pair → Type 0 where
    exact : {p₀ q₀ p q n d : ℕ} → Inv N D p₀ q₀ p q n d → held holds (pair p q) ≡ true → d ≡ 0 → Last N D (pair p q)
    stopped : {p₀ q₀ p q n d : ℕ} → Inv N D p₀ q₀ p q n d → held holds (pair p q) ≡ true → 1 ≤ d
        → holds (up p₀ p n d) (up q₀ q n d) ≡ false → Last N D (pair p q)

  module _ (lim : Limit holds) (N D : ℕ) (pos : 1 ≤ D) where
    -- at 1/0 the next convergent is not 0/1 or 1/1, which are held
    pub first_two : (p₀ q₀ p q n d : ℕ) → Inv N D p₀ q₀ p q n d → 1 ≤ d → holds (up p₀ p n d) (up q₀ q n d) ≡ false
        → q ≡ 0 → 2 ≤ n / d
    first_two p₀ q₀ p q n d i l f z = go i.phase (dec_le 2 (n / d))
      where
        go : Phase p₀ q₀ p q n d → Dec (2 ≤ n / d) → 2 ≤ n / d
        go g (yes h) = h
        go (inr g) (no h) = omega arith
        go (inl g) (no h) =
            let a = ap (λ (y : ℕ). n / d * y) g.2 in
            let b = ap (λ (y : ℕ). n / d * y) g.3 in
            absurd (true_false (holds (up p₀ p n d) (up q₀ q n d))
            (lim.downward 1 1 (up p₀ p n d) (up q₀ q n d) lim.one (omega arith) (omega arith) (omega arith)) f)

    pub last_better : (x : Pair) → Last N D x → (y : Pair) → held holds y ≡ true → y ≢ x → Better N D x y
    last_better x (exact {p₀} {q₀} {p} {q} {n} {d} i h z) y t ne =
        finish N D p₀ q₀ p q n (subst (λ (e : ℕ). Inv N D p₀ q₀ p q n e) z i) pos y.numerator y.denominator
        (some_part y.numerator y.denominator t) (λ e. ne (pair_path e.0 e.1))
    last_better x (stopped {p₀} {q₀} {p} {q} {n} {d} i h l f) y t ne =
        stop N D (up p₀ p n d) (up q₀ q n d) p q d (n % d) (inv_next i l) (miss_is i) (mod-lt n l) (up_den i l)
        (up_wide i l (first_two p₀ q₀ p q n d i l f)) y.numerator y.denominator
        (some_part y.numerator y.denominator t) (λ e. ne (pair_path e.0 e.1))
        (out_of_reach lim (up p₀ p n d) (up q₀ q n d) y.numerator y.denominator (up_den i l) f t)

    last_is_held : (x : Pair) → Last N D x → held holds x ≡ true
    last_is_held x (exact i h z) = h
    last_is_held x (stopped i h l f) = h

    pub last_best : (x : Pair) → Last N D x → Best holds N D x
    last_best x w = record { is_held = last_is_held x w; better = last_better x w }

  pub zero_held : Limit holds → held holds (pair 0 1) ≡ true
  zero_held lim = held_is 0 1 (omega arith) ∙ lim.downward 1 1 0 1 lim.one (omega arith) (omega arith) (omega arith)
