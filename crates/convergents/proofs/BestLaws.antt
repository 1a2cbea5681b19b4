-- Why the rounding is the best pair, and what else is known of it. Assumes nothing.
-- `round_best`, THE THEOREM: under any limit the rounding of N/D is held, and better than every other held pair, 1/0 included.
-- `best_unique`, `best_is_round`: it is the only best pair. `round_lowest`: it is in lowest terms.
-- `round_exact`, `round_held`: it is exact as soon as some held pair is; a held pair in lowest terms is rounded to itself.
-- `held_first`: the held convergents come first in the list. `euclid_enough`, `last_quotient`: the steps of Euclid's algorithm are enough, and
-- the last quotient is at least 2 unless it is the only one.
use Prim.Native.Nat.{ℕ, zero, suc, ◌*◌, ◌/◌, ◌%◌, ◌≤◌, ◌<◌, ◌∣◌}
use mathlib.Core.Path.{◌≡◌, refl, sym, ap, subst, ◌∙◌}
use mathlib.Core.Logic.{◌⊎◌, inl, inr, ◌≢◌}
use mathlib.Core.Bool.{Bool, true, false}
use mathlib.Core.List.{List, [], ◌∷◌}
use native.Mathlib.Omega.{arith}
use native.Mathlib.Decide.{ℕ_discrete}
use native.Mathlib.Nat.{mod-lt, zero-lt-suc, div-add-mod', dvd-mul_left}
use Rattle.convergents.specs.Pairs.{Pair, pair, Lowest, miss, Better}
use Rattle.convergents.specs.Convergents.{euclid, quotients, recurrence, convergents}
use Rattle.convergents.specs.Rounding.{Limit, held, last_held, round, NoneHeld, HeldFirst, rest, more}
use Rattle.convergents.specs.Best.{Best}
use Rattle.convergents.proofs.Neighbours.{Det, coprime}
use Rattle.convergents.proofs.ConvergentLaws.{Inv, inv_start, miss_is, up, inv_next, up_den, up_le, quotient_two}
use Rattle.convergents.proofs.Optimal.{pair_path, true_false, held_is, one_held, Last, exact, stopped, last_best}

-- ---- the list of quotients

-- any number of steps from d on gives the same quotients
pub euclid_enough : (k j n d : ℕ) → d ≤ k → d ≤ j → euclid k n d ≡ euclid j n d
unfolding euclid
euclid_enough zero zero n d h l = refl
euclid_enough zero (suc j) n zero h l = refl
euclid_enough zero (suc j) n (suc d) h l = absurd (omega arith)
euclid_enough (suc k) zero n zero h l = refl
euclid_enough (suc k) zero n (suc d) h l = absurd (omega arith)
euclid_enough (suc k) (suc j) n zero h l = refl
euclid_enough (suc k) (suc j) n (suc d) h l =
    let lt : n % suc d < suc d = mod-lt n (zero-lt-suc d) in
    ap (λ (more : List ℕ). n / suc d ∷ more) (euclid_enough k j (suc d) (n % suc d) (omega arith) (omega arith))

-- the last of a list, or x where it has none
abbrev pub last_of : ℕ → List ℕ → ℕ
last_of x [] = x
last_of x (a ∷ following) = last_of a following

pub euclid_done : (k n : ℕ) → euclid k n 0 ≡ []
unfolding euclid
euclid_done zero n = refl
euclid_done (suc k) n = refl

last_of_euclid : (k n d x : ℕ) → d ≤ k → 1 ≤ d → d < n → 2 ≤ last_of x (euclid k n d)
unfolding euclid
last_of_euclid zero n d x h l g = absurd (omega arith)
last_of_euclid (suc k) n zero x h l g = absurd (omega arith)
last_of_euclid (suc k) n (suc d) x h l g =
    let lt : n % suc d < suc d = mod-lt n (zero-lt-suc d) in
    go (n % suc d) refl (λ pos. last_of_euclid k (suc d) (n % suc d) (n / suc d) (omega arith) pos lt)
  where
    go : (m : ℕ) → n % suc d ≡ m → (1 ≤ n % suc d → 2 ≤ last_of (n / suc d) (euclid k (suc d) (n % suc d)))
        → 2 ≤ last_of (n / suc d) (euclid k (suc d) (n % suc d))
    go zero e f =
        rw (e, euclid_done k (suc d)) (quotient_two n (suc d) (n / suc d) (omega (arith, div-add-mod' n (suc d))) g)
    go (suc m) e f = f (omega arith)

-- The last quotient is at least 2 unless it is the only one.
pub last_quotient : (N D : ℕ) → 1 ≤ D → (quotients N D ≡ N / D ∷ []) ⊎ (2 ≤ last_of 0 (quotients N D))
unfolding quotients euclid
last_quotient N zero l = absurd (omega arith)
last_quotient N (suc D) l = go (N % suc D) refl
  where
    go : (m : ℕ) → N % suc D ≡ m
        → (N / suc D ∷ euclid D (suc D) (N % suc D) ≡ N / suc D ∷ []) ⊎ (2 ≤ last_of (N / suc D) (euclid D (suc D) (N % suc D)))
    go zero e = inl (rw (e, euclid_done D (suc D)) refl)
    go (suc m) e =
        let lt : N % suc D < suc D = mod-lt N (zero-lt-suc D) in
        inr (last_of_euclid D (suc D) (N % suc D) (N / suc D) (omega arith) (omega arith) lt)

-- ---- the last held convergent

-- a test, with what it came to
split {ℓ} : {A : Type ℓ} (b : Bool) → (b ≡ true → A) → (b ≡ false → A) → A
split true f g = f refl
split false f g = g refl

is_false : (b : Bool) → (b ≡ true → ⊥) → b ≡ false
is_false true f = absurd (f refl)
is_false false f = refl

module _ (holds : ℕ → ℕ → Bool) where
  last_take : (x y : Pair) (ys : List Pair) → held holds y ≡ true → last_held holds x (y ∷ ys) ≡ last_held holds y ys
  unfolding last_held
  last_take x y ys e = rw (e, last_held) refl

  last_none : (x : Pair) (ys : List Pair) → NoneHeld holds ys → last_held holds x ys ≡ x
  unfolding last_held
  last_none x [] h = refl
  last_none x (y ∷ ys) h = rw (h.0, last_held) (last_none x ys h.1)

-- what follows p/q in the list, where p₀/q₀ is before it and n and d are left to divide
abbrev after : (k p₀ q₀ p q n d : ℕ) → List Pair
after k p₀ q₀ p q n d = recurrence (pair p₀ q₀) (pair p q) (euclid k n d)

module _ (holds : ℕ → ℕ → Bool) (lim : Limit holds) (N D : ℕ) where
  -- past a convergent that is not held there is none that is
  none_after : (k p₀ q₀ p q n d : ℕ) → Inv N D p₀ q₀ p q n d → d < n → 1 ≤ q → holds p q ≡ false
      → NoneHeld holds (after k p₀ q₀ p q n d)
  unfolding recurrence euclid
  none_after zero p₀ q₀ p q n d i l g f = tt
  none_after (suc k) p₀ q₀ p q n zero i l g f = tt
  none_after (suc k) p₀ q₀ p q n (suc d) i l g f =
      let P : ℕ = up p₀ p n (suc d) in
      let Q : ℕ = up q₀ q n (suc d) in
      let j : 1 ≤ suc d = omega arith in
      let u = up_le i j l in
      let h : holds P Q ≡ false =
      is_false (holds P Q) (λ t. true_false (holds p q) (lim.downward P Q p q t u.0 g u.1) f)
      in (
        held_is holds P Q (up_den i j) ∙ h,
        none_after k p q P Q (suc d) (n % suc d) (inv_next i j) (mod-lt n j) (up_den i j) h,
      )

  -- one induction: the held ones come first, and the last of them is where the rounding stops
  from : (k p₀ q₀ p q n d : ℕ) → d ≤ k → Inv N D p₀ q₀ p q n d → held holds (pair p q) ≡ true
      → (HeldFirst holds (after k p₀ q₀ p q n d)) × (Last holds N D (last_held holds (pair p q) (after k p₀ q₀ p q n d)))
  unfolding recurrence euclid last_held
  from zero p₀ q₀ p q n d l i h = (rest tt, exact i h (omega arith))
  from (suc k) p₀ q₀ p q n zero l i h = (rest tt, exact i h refl)
  from (suc k) p₀ q₀ p q n (suc d) l i h =
      let P : ℕ = up p₀ p n (suc d) in
      let Q : ℕ = up q₀ q n (suc d) in
      let j : 1 ≤ suc d = omega arith in
      let e : held holds (pair P Q) ≡ holds P Q = held_is holds P Q (up_den i j) in
      let lt : n % suc d < suc d = mod-lt n j in
      split (holds P Q)
      (λ t.
      let w = from k p q P Q (suc d) (n % suc d) (omega arith) (inv_next i j) (e ∙ t) in
      (more (e ∙ t) w.0, rw (last_take holds (pair p q) (pair P Q) (after k p q P Q (suc d) (n % suc d)) (e ∙ t)) w.1))
      (λ f.
      let w : NoneHeld holds (pair P Q ∷ after k p q P Q (suc d) (n % suc d)) =
      (e ∙ f, none_after k p q P Q (suc d) (n % suc d) (inv_next i j) lt (up_den i j) f)
      in
      (rest w, rw (last_none holds (pair p q) (pair P Q ∷ after k p q P Q (suc d) (n % suc d)) w) (stopped i h j f)))

  -- The held convergents come first in the list.
  pub held_first : HeldFirst holds (convergents N D)
  unfolding convergents quotients
  held_first = more (one_held holds) (from D 0 1 1 0 N D (omega arith) (inv_start N D) (one_held holds)).0

  pub round_last : Last holds N D (round holds N D)
  unfolding round convergents quotients
  round_last =
      rw (last_take holds (pair 1 0) (pair 1 0) (after D 0 1 1 0 N D) (one_held holds))
      (from D 0 1 1 0 N D (omega arith) (inv_start N D) (one_held holds)).1

  -- THE THEOREM: the rounding is held, and it is better than every other pair that is held.
  pub round_best : 1 ≤ D → Best holds N D (round holds N D)
  round_best pos = last_best holds lim N D pos (round holds N D) round_last

  -- the rounding, with a convergent before it
  abbrev Before : Pair → Type 0
  Before x = (p₀ : ℕ) × (q₀ : ℕ) × Det x.numerator x.denominator p₀ q₀

  before : (x : Pair) → Last holds N D x → Before x
  before x (exact {p₀} {q₀} i h z) = (p₀, q₀, i.det)
  before x (stopped {p₀} {q₀} i h l f) = (p₀, q₀, i.det)

  -- The rounding is in lowest terms: only 1 divides both its parts.
  pub round_lowest : Lowest (round holds N D).numerator (round holds N D).denominator
  round_lowest g h k =
      let w = before (round holds N D) round_last in
      coprime (round holds N D).numerator (round holds N D).denominator w.0 w.1 g w.2 h k

-- ---- the only best pair

-- There is at most one best pair.
pub best_unique : (holds : ℕ → ℕ → Bool) (N D : ℕ) (x y : Pair) → Best holds N D x → Best holds N D y → x ≡ y
best_unique holds N D x y b c = go (ℕ_discrete x.numerator y.numerator) (ℕ_discrete x.denominator y.denominator)
  where
    clash : Better N D x y → Better N D y x → ⊥
    clash (inl f) (inl g) = omega arith
    clash (inl f) (inr g) = omega arith
    clash (inr f) (inl g) = omega arith
    clash (inr f) (inr g) = omega arith

    apart : y ≢ x → ⊥
    apart ne = clash (b.better y c.is_held ne) (c.better x b.is_held (λ e. ne (sym e)))

    go : Dec (x.numerator ≡ y.numerator) → Dec (x.denominator ≡ y.denominator) → x ≡ y
    go (yes e) (yes f) = pair_path e f
    go (no e) f = absurd (apart (λ g. e (ap (λ (z : Pair). z.numerator) (sym g))))
    go (yes e) (no f) = absurd (apart (λ g. f (ap (λ (z : Pair). z.denominator) (sym g))))

-- So whatever is best is the rounding.
pub best_is_round : (holds : ℕ → ℕ → Bool) → Limit holds → (N D : ℕ) → 1 ≤ D → (x : Pair) → Best holds N D x → x ≡ round holds N D
best_is_round holds lim N D pos x b = best_unique holds N D x (round holds N D) b (round_best holds lim N D pos)

-- ---- rounding what is held

module _ (holds : ℕ → ℕ → Bool) (lim : Limit holds) (N D : ℕ) (pos : 1 ≤ D) where
  -- The rounding is exact as soon as some held pair is.
  pub round_exact : (y : Pair) → held holds y ≡ true → miss N D y ≡ 0 → miss N D (round holds N D) ≡ 0
  round_exact y h z = go (ℕ_discrete (miss N D (round holds N D)) 0)
    where
      apart : ¬ (miss N D (round holds N D) ≡ 0) → Better N D (round holds N D) y → ⊥
      apart e (inl f) = omega arith
      apart e (inr f) = omega arith

      go : Dec (miss N D (round holds N D) ≡ 0) → miss N D (round holds N D) ≡ 0
      go (yes e) = e
      go (no e) =
          absurd
          (apart e
          ((round_best holds lim N D pos).better y h (λ w. e (subst (λ (x : Pair). miss N D x ≡ 0) w z))))

  -- an exact rounding is N/D itself where N/D is in lowest terms
  lowest_is : (x : Pair) → Last holds N D x → miss N D x ≡ 0 → Lowest N D → x ≡ pair N D
  lowest_is x (stopped {p₀} {q₀} {p} {q} {n} {d} i h l f) z low = absurd (omega (arith, miss_is i))
  lowest_is x (exact {p₀} {q₀} {p} {q} {n} {d} i h e) z low =
      let a : N ≡ p * n = omega (arith, i.numer, ap (λ (y : ℕ). p₀ * y) e) in
      let b : D ≡ q * n = omega (arith, i.denom, ap (λ (y : ℕ). q₀ * y) e) in
      let one : n ≡ 1 = low n (subst (λ (y : ℕ). n ∣ y) (sym a) (dvd-mul_left n p)) (subst (λ (y : ℕ). n ∣ y) (sym b) (dvd-mul_left n q)) in
      pair_path (omega (arith, ap (λ (y : ℕ). p * y) one)) (omega (arith, ap (λ (y : ℕ). q * y) one))

  -- A held pair in lowest terms is rounded to itself.
  pub round_held : held holds (pair N D) ≡ true → Lowest N D → round holds N D ≡ pair N D
  round_held h low =
      lowest_is (round holds N D) (round_last holds lim N D) (round_exact (pair N D) h (omega arith)) low
