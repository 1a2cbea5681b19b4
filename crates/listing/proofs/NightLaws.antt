-- Which nights there are. Assumes nothing.
-- `real_next`: a breath more, up to breath 65,536, makes a night of a recording one again. `night_fits`: its sums have room for any breath.
use mathlib.Core.Path.{◌≡◌, refl, sym, ap, ◌∙◌}
use mathlib.Core.Bool.{Bool, true, false, ◌&&◌, ◌||◌, and-eq-true_iff}
use Prim.Native.Nat.{ℕ, suc, ◌+◌, ◌-◌, ◌*◌, ◌^◌, ◌≤◌, ◌<◌}
use native.Mathlib.Omega.{arith}
use native.Mathlib.Nat.{mul-le-mul}
use native.Mathlib.Numerals.{add-one}
use native.Mathlib.Decide.{ℕ_discrete}
use lib.Dec.{eqb, leb, ltb}
use borrow.Author.Tests.{le-leb, lt-leb, leb-true, ltb-true, ltb-false, eqb-false, ne_eqb}
use Rattle.std.specs.Prelude.{Option, Some, None}
use Rattle.slash.specs.Answers.{done}
use Rattle.slash.proofs.AnswerLaws.{done_inj, no_stop}
use Rattle.breaths.specs.Sums.{no_sums, with_breath, added_outcome, one_more}
use Rattle.breaths.specs.Steps.{Proper}
use Rattle.breaths.specs.declared.breath.Breath.{Breath}
use Rattle.breaths.specs.declared.rate.Rate.{Rate}
use Rattle.breaths.specs.declared.sums.Sums.{Sums}
use Rattle.breaths.proofs.RatioLaws.{or_parts}
use Rattle.breaths.proofs.SumLaws.{sum_bounds, sum_proper, more_done}
use Rattle.listing.specs.Nights.{rated, with_line, is_rated, is_night}
use Rattle.listing.specs.Steps.{next_line}
use Rattle.listing.specs.declared.night.Night.{Night}
use Rattle.listing.specs.declared.night.Night.TheVariants.{Begun, Rated}
use Rattle.listing.specs.declared.night.RatedNight.{RatedNight}

-- ---- nights of a recording

pub record Real (night : RatedNight) : Type 0 where
  pub some : 1 ≤ night.breath
  pub few : night.breath ≤ 65537
  pub small : night.sums.whole ≤ (night.breath - 1) * (120 * night.rate.ticks)
  pub proper : Proper night.sums

pub night_real : (night : RatedNight) → is_rated night ≡ true → Real night
unfolding is_rated
night_real night e =
    let halves = (and-eq-true_iff _ _).0 e in
    let breath = (and-eq-true_iff _ _).0 halves.0 in
    let sums = (and-eq-true_iff _ _).0 halves.1 in
    record { some = leb-true _ _ breath.0; few = leb-true _ _ breath.1; small = leb-true _ _ sums.0; proper = leb-true _ _ sums.1 }

pub real_night : (night : RatedNight) → Real night → is_rated night ≡ true
unfolding is_rated
real_night night r = rw (le-leb _ _ r.some, le-leb _ _ r.few, le-leb _ _ r.small, le-leb _ _ r.proper) refl

pub opened_is : (rate : Rate) → record { rate = rate; breath = 1; sums = no_sums } ≡ rated rate
unfolding rated
opened_is rate = refl

pub opened_real : (rate : Rate) → Real (rated rate)
unfolding rated
opened_real rate = record { some = omega arith; few = omega arith; small = omega arith; proper = omega arith }

-- the same of a night whose rate may not be read yet
abbrev pub RealNight : Night → Type 0
RealNight Begun = Unit {0}
RealNight (Rated night) = Real night

pub real_is : (night : Night) → RealNight night → is_night night ≡ true
unfolding is_night
real_is Begun r = refl
real_is (Rated night) r = real_night night r

pub begun_night : is_night Begun ≡ true
begun_night = real_is Begun tt

-- its next line is one of a recording
pub night_lines : (night : Night) → is_night night ≡ true → (1 ≤ next_line night) × (next_line night ≤ 65538)
unfolding is_night
night_lines Begun e = (omega arith, omega arith)
night_lines (Rated night) e = let r : Real night = night_real night e in (omega arith, omega (arith, r.few))

-- ---- what the test of a night computes

module _ (night : RatedNight) where
  none_is : Dec (night.breath ≡ 0) → (eqb night.breath 0 || ltb 65537 night.breath) ≡ true → (leb 1 night.breath && leb night.breath 65537) ≡ false
  none_is (yes z) h = let l : night.breath < 1 = omega arith in rw (lt-leb _ _ l) refl
  none_is (no z) h =
      let over : ltb 65537 night.breath ≡ true = ap (λ (t : Bool). t || ltb 65537 night.breath) (sym (ne_eqb _ _ z)) ∙ h in
      let some : 1 ≤ night.breath = omega arith in
      rw (le-leb _ _ some, lt-leb _ _ (ltb-true _ _ over)) refl

  pub night_none : (eqb night.breath 0 || ltb 65537 night.breath) ≡ true → false ≡ is_rated night
  unfolding is_rated
  night_none h = rw (none_is (ℕ_discrete night.breath 0) h) refl

  module _ (h : (eqb night.breath 0 || ltb 65537 night.breath) ≡ false) where
    pub night_few : (1 ≤ night.breath) × (night.breath ≤ 65537)
    night_few =
        let w = or_parts (eqb night.breath 0) (ltb 65537 night.breath) h in
        let z : night.breath ≡ 0 → ⊥ = eqb-false _ _ w.0 in
        (omega arith, ltb-false _ _ w.1)

    pub night_some : (longest : ℕ) → longest ≡ 120 * night.rate.ticks
        → (leb night.sums.whole ((night.breath - 1) * longest) && leb night.sums.inspiration night.sums.whole) ≡ is_rated night
    unfolding is_rated
    night_some longest e = rw (e, le-leb _ _ night_few.0, le-leb _ _ night_few.1) refl

-- the largest sum has room
pub most_fits : (breath ticks longest : ℕ) → breath ≤ 65537 → ticks < 2 ^ 32 → longest ≡ 120 * ticks → (breath - 1) * longest + longest < 2 ^ 64
most_fits breath ticks longest b t e =
    let i : breath - 1 ≤ 65536 = omega arith in
    let j : longest ≤ 515396075400 = omega arith in
    let m : (breath - 1) * longest ≤ 65536 * 515396075400 = mul-le-mul i j in
    omega (arith, m, j)

-- ---- one breath more

-- one breath more has room for one more of the longest
one_longer : (n x : ℕ) → 1 ≤ n → (n - 1) * x + x ≡ (suc n - 1) * x
one_longer n x h =
    let e : suc n - 1 ≡ (n - 1) + 1 = omega arith in
    let f : (suc n - 1) * x ≡ ((n - 1) + 1) * x = ap (λ (m : ℕ). m * x) e in
    omega (arith, f)

module _ (night : RatedNight) (r : Real night) where
  pub real_next : (b : Breath) → night.breath ≤ 65536 → Real (with_line night b)
  unfolding with_line
  real_next b few =
      record {
        some = omega arith;
        few = omega arith;
        small = omega (arith, r.small, sum_bounds night.rate.ticks night.sums b, one_longer night.breath (120 * night.rate.ticks) r.some);
        proper = sum_proper night.rate.ticks night.sums b r.proper;
      }

  -- no sum runs out of room
  pub night_fits : night.rate.ticks < 2 ^ 32 → (b : Breath) → one_more night.rate.ticks night.sums b ≡ done (with_breath night.rate.ticks night.sums b)
  night_fits t b =
      let s : Sums = with_breath night.rate.ticks night.sums b in
      let p : Proper s = sum_proper night.rate.ticks night.sums b r.proper in
      let w : s.whole < 2 ^ 64 =
      omega (arith, r.small, sum_bounds night.rate.ticks night.sums b, most_fits night.breath night.rate.ticks (120 * night.rate.ticks) r.few t refl)
      in
      more_done night.rate.ticks night.sums b (omega (arith, p, w)) w

-- what the function answers
module _ (night : RatedNight) (e : is_rated night ≡ true) (t : night.rate.ticks < 2 ^ 32) (b : Breath) (a : Option Sums) (ae : added_outcome a ≡ one_more night.rate.ticks night.sums b) where
  added : added_outcome a ≡ done (with_breath night.rate.ticks night.sums b)
  added = ae ∙ night_fits night (night_real night e) t b

  pub with_line_lem : (s : Sums) → a ≡ Some s → record { rate = night.rate; breath = night.breath + 1; sums = s } ≡ with_line night b
  unfolding with_line
  with_line_lem s d = rw (done_inj (sym (ap added_outcome d) ∙ added), add-one night.breath) refl

  pub never_full : a ≡ None → ⊥
  never_full d = no_stop (sym (ap added_outcome d) ∙ added)

pub breath_suc : (night : RatedNight) (b : Breath) → (with_line night b).breath ≡ suc night.breath
unfolding with_line
breath_suc night b = refl

pub rate_same : (night : RatedNight) (b : Breath) → (with_line night b).rate ≡ night.rate
unfolding with_line
rate_same night b = refl
