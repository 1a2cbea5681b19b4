-- A field is taken for a tick mark just where it is the decimal of a number from 0 to 4294967295. Assumes nothing.
-- `tick_of_decimal`: every such decimal is taken. `decimal_of_tick`: nothing else is.
use mathlib.Core.Path.{◌≡◌, refl, sym, ap, ◌∙◌, subst}
use mathlib.Core.Bool.{Bool, true, false, ◌&&◌}
use mathlib.Core.Logic.{◌⊎◌, inl, inr}
use mathlib.Core.List.{List, [], ◌∷◌, ◌++◌, append_assoc, append-nil}
use Prim.Native.Nat.{ℕ, zero, suc, ◌+◌, ◌-◌, ◌*◌, ◌/◌, ◌%◌, ◌≤◌, ◌<◌}
use native.Mathlib.Omega.{arith}
use native.Mathlib.Decide.{dec_lt, ℕ_discrete}
use lib.Dec.{leb}
use lib.ListN.{length, get_or, length-append, get_or-append}
use borrow.Author.Tests.{le-leb, leb-true}
use Rattle.std.specs.Prelude.{Option, Some, None}
use Rattle.text.specs.Numbers.{decimal_from, decimal}
use Rattle.text.specs.Scan.{is_digit}
use Rattle.recording.specs.Lines.{digits_from, read_tick}
use Rattle.text.proofs.NumberLaws.{from_small, from_more, decimal_small, decimal_more, decimal_length}
use Rattle.recording.proofs.LineLaws.{digits_step, digit_good, no_tick, digit_bounds, tick_empty, tick_leading, tick_digits}

-- ---- every such decimal is taken

-- one digit more at the end
digits_last : (v : ℕ) (t : List ℕ) (x : ℕ) → digits_from v (t ++ (x ∷ [])) ≡ elim (digits_from v t) [ Some w ↦ digits_from w (x ∷ []) | None ↦ None ]
unfolding digits_from
digits_last v [] x = refl
digits_last v (y ∷ ys) x = go (is_digit y && leb (v * 10 + (y - 48)) 4294967295) refl (digits_last (v * 10 + (y - 48)) ys x)
  where
    go : (t : Bool) → (is_digit y && leb (v * 10 + (y - 48)) 4294967295) ≡ t
        → digits_from (v * 10 + (y - 48)) (ys ++ (x ∷ []))
        ≡ elim (digits_from (v * 10 + (y - 48)) ys) [ Some w ↦ digits_from w (x ∷ []) | None ↦ None ]
        → digits_from v (y ∷ (ys ++ (x ∷ []))) ≡ elim (digits_from v (y ∷ ys)) [ Some w ↦ digits_from w (x ∷ []) | None ↦ None ]
    go true e ih =
        digits_step v y (ys ++ (x ∷ [])) true e ∙ ih
        ∙ sym (ap (λ (m : Option ℕ). elim m as (λ z. Option ℕ) [ Some w ↦ digits_from w (x ∷ []) | None ↦ None ]) (digits_step v y ys true e))
    go false e ih =
        digits_step v y (ys ++ (x ∷ [])) false e
        ∙ sym (ap (λ (m : Option ℕ). elim m as (λ z. Option ℕ) [ Some w ↦ digits_from w (x ∷ []) | None ↦ None ]) (digits_step v y ys false e))

one_digit : (v d n : ℕ) → d < 10 → n ≡ v * 10 + d → n ≤ 4294967295 → digits_from v ((48 + d) ∷ []) ≡ Some n
unfolding digits_from
one_digit v d n h e l =
    let s : 48 + d - 48 ≡ d = omega arith in
    let m : v * 10 + (48 + d - 48) ≤ 4294967295 = omega arith in
    digits_step v (48 + d) [] true (digit_good (48 + d) (omega arith) (omega arith) _ ∙ le-leb _ _ m)
    ∙ ap (λ (x : ℕ). Some (v * 10 + x)) s ∙ ap Some (sym e)

decimal_digits : (s n : ℕ) → n ≤ s → n ≤ 4294967295 → digits_from 0 (decimal_from s n) ≡ Some n
decimal_digits zero n h l =
    ap (digits_from 0) (from_small zero n (omega arith)) ∙ one_digit 0 n n (omega arith) (omega arith) l
decimal_digits (suc s) n h l = go (dec_lt n 10) (decimal_digits s (n / 10))
  where
    go : Dec (n < 10) → (n / 10 ≤ s → n / 10 ≤ 4294967295 → digits_from 0 (decimal_from s (n / 10)) ≡ Some (n / 10))
        → digits_from 0 (decimal_from (suc s) n) ≡ Some n
    go (yes k) ih = ap (digits_from 0) (from_small (suc s) n k) ∙ one_digit 0 n n k (omega arith) l
    go (no k) ih =
        ap (digits_from 0) (from_more s n (omega arith))
        ∙ digits_last 0 (decimal_from s (n / 10)) (48 + n % 10)
        ∙ ap (λ (m : Option ℕ). elim m as (λ z. Option ℕ) [ Some w ↦ digits_from w ((48 + n % 10) ∷ []) | None ↦ None ]) (ih (omega arith) (omega arith))
        ∙ one_digit (n / 10) (n % 10) n (omega arith) (omega arith) l

-- only 0 begins with a zero
pub record Leads (t : List ℕ) : Type 0 where
  pub some : 1 ≤ length t
  pub nonzero : get_or t 0 0 ≡ 48 → ⊥

leads : (s n : ℕ) → n ≤ s → 1 ≤ n → Leads (decimal_from s n)
leads zero n h l = absurd (omega arith)
leads (suc s) n h l = go (dec_lt n 10) (leads s (n / 10))
  where
    go : Dec (n < 10) → (n / 10 ≤ s → 1 ≤ n / 10 → Leads (decimal_from s (n / 10))) → Leads (decimal_from (suc s) n)
    go (yes k) ih = subst Leads (sym (from_small (suc s) n k)) (record { some = omega arith; nonzero = λ e. omega arith })
    go (no k) ih =
        let w = ih (omega arith) (omega arith) in
        let t : List ℕ = decimal_from s (n / 10) in
        let u : List ℕ = (48 + n % 10) ∷ [] in
        subst Leads (sym (from_more s n (omega arith)))
        (record { some = omega (arith, length-append t u, w.some); nonzero = λ e. w.nonzero (sym (get_or-append t u 0 0 w.some) ∙ e) })

pub tick_of_decimal : (n : ℕ) → n ≤ 4294967295 → read_tick (decimal n) ≡ Some n
unfolding decimal
tick_of_decimal n l = go (ℕ_discrete n 0)
  where
    go : Dec (n ≡ 0) → read_tick (decimal_from n n) ≡ Some n
    go (yes z) =
        let one : length (decimal_from n n) ≡ 1 = ap length (from_small n n (omega arith)) in
        sym (tick_digits (decimal_from n n) (omega arith) (inr (omega arith))) ∙ decimal_digits n n (omega arith) l
    go (no z) =
        let w = leads n n (omega arith) (omega arith) in
        sym (tick_digits (decimal_from n n) w.some (inl w.nonzero)) ∙ decimal_digits n n (omega arith) l

-- ---- and nothing else is

tick_inj : {m n : ℕ} → Some m ≡ Some n → m ≡ n
tick_inj e = cc

-- digits that go on from v, which isn't 0
digits_decimal : (v : ℕ) (xs : List ℕ) (n : ℕ) → 1 ≤ v → v ≤ 4294967295 → digits_from v xs ≡ Some n → (decimal v ++ xs ≡ decimal n) × (n ≤ 4294967295)
unfolding digits_from
digits_decimal v [] n p l e =
    let same : v ≡ n = tick_inj e in
    (append-nil (decimal v) ∙ ap decimal same, omega arith)
digits_decimal v (x ∷ xs) n p l e = go (is_digit x && leb (v * 10 + (x - 48)) 4294967295) refl (digits_decimal (v * 10 + (x - 48)) xs n)
  where
    go : (t : Bool) → (is_digit x && leb (v * 10 + (x - 48)) 4294967295) ≡ t
        → (1 ≤ v * 10 + (x - 48) → v * 10 + (x - 48) ≤ 4294967295 → digits_from (v * 10 + (x - 48)) xs ≡ Some n
        → (decimal (v * 10 + (x - 48)) ++ xs ≡ decimal n) × (n ≤ 4294967295))
        → (decimal v ++ (x ∷ xs) ≡ decimal n) × (n ≤ 4294967295)
    go false f ih = absurd (no_tick n (sym (digits_step v x xs false f) ∙ e))
    go true f ih =
        let b = digit_bounds x _ f in
        let small : v * 10 + (x - 48) ≤ 4294967295 = leb-true _ _ b.2 in
        let w = ih (omega arith) small (sym (digits_step v x xs true f) ∙ e) in
        let m : ℕ = v * 10 + (x - 48) in
        let q : m / 10 ≡ v = omega (arith, b.0, b.1) in
        let d : x ≡ 48 + m % 10 = omega (arith, b.0, b.1) in
        let more : decimal v ++ (x ∷ []) ≡ decimal m =
        ap (λ (j : ℕ). decimal j ++ (x ∷ [])) (sym q) ∙ decimal_more m x (omega arith) d
        in
        (sym (append_assoc (decimal v) (x ∷ []) xs) ∙ ap (λ (t : List ℕ). t ++ xs) more ∙ w.0, w.1)

none : (xs : List ℕ) → (0 < length xs → ⊥) → xs ≡ []
none [] h = refl
none (x ∷ xs) h = absurd (h (omega arith))

pub decimal_of_tick : (f : List ℕ) (n : ℕ) → read_tick f ≡ Some n → (f ≡ decimal n) × (n ≤ 4294967295)
unfolding digits_from
decimal_of_tick [] n e = absurd (no_tick n (tick_empty [] refl ∙ e))
decimal_of_tick (x ∷ xs) n e = go (is_digit x && leb (0 * 10 + (x - 48)) 4294967295) refl (ℕ_discrete x 48) (dec_lt 0 (length xs))
  where
    -- what the digits say, where there is no leading zero
    digits : (x ≡ 48 → ⊥) ⊎ (suc (length xs) ≤ 1) → digits_from 0 (x ∷ xs) ≡ Some n
    digits w = tick_digits (x ∷ xs) (omega arith) w ∙ e

    go : (t : Bool) → (is_digit x && leb (0 * 10 + (x - 48)) 4294967295) ≡ t → Dec (x ≡ 48) → Dec (0 < length xs)
        → ((x ∷ xs) ≡ decimal n) × (n ≤ 4294967295)
    go t f (yes z) (yes l) = absurd (no_tick n (tick_leading (x ∷ xs) z (omega arith) ∙ e))
    go false f (yes z) (no l) = absurd (no_tick n (sym (digits_step 0 x xs false f) ∙ digits (inr (omega arith))))
    go false f (no z) l = absurd (no_tick n (sym (digits_step 0 x xs false f) ∙ digits (inl z)))
    go true f (yes z) (no l) =
        let nil : xs ≡ [] = none xs l in
        let v : ℕ = 0 * 10 + (x - 48) in
        let said : digits_from v xs ≡ Some n = sym (digits_step 0 x xs true f) ∙ digits (inr (omega arith)) in
        let same : v ≡ n = tick_inj (sym (ap (digits_from v) nil) ∙ said) in
        (ap (λ (u : List ℕ). x ∷ u) nil ∙ decimal_small n x (omega arith) (omega arith), omega arith)
    go true f (no z) l =
        let b = digit_bounds x _ f in
        let v : ℕ = 0 * 10 + (x - 48) in
        let some : 1 ≤ v = omega (arith, b.0) in
        let small : v ≤ 4294967295 = omega (arith, b.1) in
        let w = digits_decimal v xs n some small (sym (digits_step 0 x xs true f) ∙ digits (inl z)) in
        let first : (x ∷ []) ≡ decimal v = decimal_small v x (omega (arith, b.1)) (omega (arith, b.0)) in
        (ap (λ (t : List ℕ). t ++ xs) first ∙ w.0, w.1)

-- So it has at most ten digits.
pub tick_long : (f : List ℕ) → 10 < length f → None ≡ read_tick f
tick_long f h = go (read_tick f) refl
  where
    go : (m : Option ℕ) → read_tick f ≡ m → None ≡ read_tick f
    go None e = sym e
    go (Some n) e =
        let d = decimal_of_tick f n e in
        absurd (omega (arith, h, ap length d.0, decimal_length 9 n (omega (arith, d.1))))
