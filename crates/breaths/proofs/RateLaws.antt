-- Rates, what is void at one, and the word that is stored at a caller's. Assumes nothing.
-- `rate_words`: a rate is a number from 1 to 4096. `rate_made`: what is made of a number is that number, and it is a rate. `void_words`: a breath is
-- void where its whole is 0, or its in exceeds it, or it is greater than 120 times the rate. `longest_good`, `overlong_void`: so at the edge.
-- `backward_void`: a next onset before its onset makes a breath of nearly the whole clock, and it is void.
use Rattle.std.proofs.Common.{◌≡◌, ℕ, ◌+◌, ◌-◌, ◌*◌, ◌^◌, ◌<◌, ◌≤◌, Bool, true, false, not, ◌&&◌, ◌||◌, ltb, leb, ◌⊎◌, ◌↔◌, sym, refl, ap, ◌∙◌, subst, inl, inr, true≢false, arith, le-ltb, lt-ltb, ne_eqb, le-leb, leb-true}
use mathlib.Core.Bool.{and-eq-true_iff}
use native.Mathlib.Decide.{dec_le, dec_lt, ℕ_discrete}
use borrow.Author.Tests.{lt-leb, not-true, not-false}
use Rattle.std.specs.Prelude.{Ok, Err}
use Rattle.slash.specs.Answers.{Outcome, stop, done, WhenDone}
use Rattle.slash.specs.declared.answer.Stop.{Stop}
use Rattle.slash.proofs.AnswerLaws.{done_inj, no_stop, then_stop, then_done}
use Rattle.breaths.specs.Rates.{is_rate, make_rate}
use Rattle.breaths.specs.Ratios.{word_of, ratio_of, BestRatio}
use Rattle.breaths.specs.Breaths.{span, breath_of, is_void, breath_ratio, breath_word, breath_stored}
use Rattle.breaths.specs.declared.breath.Breath.{Breath}
use Rattle.breaths.specs.declared.rate.Rate.{Rate}
use Rattle.breaths.specs.declared.ratio.Ratio.{Ratio}
use Rattle.breaths.proofs.RatioLaws.{Promised, good_breath, breath_proportion, ratio_of_word}

-- ---- which numbers are rates

module _ (ticks : ℕ) where
  pub rate_words : is_rate ticks ≡ true → (1 ≤ ticks) × (ticks ≤ 4096)
  unfolding is_rate
  rate_words h = let w = (and-eq-true_iff _ _).0 h in (leb-true _ _ w.0, leb-true _ _ w.1)

  pub rate_is : 1 ≤ ticks → ticks ≤ 4096 → is_rate ticks ≡ true
  unfolding is_rate
  rate_is h l = rw (le-leb _ _ h, le-leb _ _ l) refl

  -- the test of `Rate::make`, and its answers
  test_is : (ltb ticks 1 || ltb 4096 ticks) ≡ not (is_rate ticks)
  unfolding is_rate
  test_is = go (dec_le 1 ticks) (dec_le ticks 4096)
    where
      go : Dec (1 ≤ ticks) → Dec (ticks ≤ 4096) → (ltb ticks 1 || ltb 4096 ticks) ≡ not (leb 1 ticks && leb ticks 4096)
      go (no h) d = let l : ticks < 1 = omega arith in rw (lt-ltb _ _ l, lt-leb _ _ l) refl
      go (yes h) (no l) = let o : 4096 < ticks = omega arith in rw (le-ltb _ _ h, lt-ltb _ _ o, le-leb _ _ h, lt-leb _ _ o) refl
      go (yes h) (yes l) = rw (le-ltb _ _ h, le-ltb _ _ l, le-leb _ _ h, le-leb _ _ l) refl

  rate_stop : is_rate ticks ≡ false → stop 19 0 ≡ make_rate ticks
  unfolding make_rate
  rate_stop h = rw h refl

  pub rate_refused : (ltb ticks 1 || ltb 4096 ticks) ≡ true → stop 19 0 ≡ make_rate ticks
  rate_refused h = rate_stop (not-true _ (sym test_is ∙ h))

  pub rate_tested : (ltb ticks 1 || ltb 4096 ticks) ≡ false → is_rate ticks ≡ true
  rate_tested h = not-false _ (sym test_is ∙ h)

  pub rate_done : is_rate ticks ≡ true → done (record { ticks = ticks }) ≡ make_rate ticks
  unfolding make_rate
  rate_done h = rw h refl

  pub rate_made : (rate : Rate) → make_rate ticks ≡ done rate → (rate.ticks ≡ ticks) × (is_rate ticks ≡ true)
  rate_made rate e = go (is_rate ticks) refl
    where
      go : (t : Bool) → is_rate ticks ≡ t → (rate.ticks ≡ ticks) × (is_rate ticks ≡ true)
      go true h = (ap (λ (r : Rate). r.ticks) (done_inj (sym e ∙ sym (rate_done h))), h)
      go false h = absurd (no_stop (rate_stop h ∙ e))

  pub rate_not_made : {s : Stop} → make_rate ticks ≡ Err s → is_rate ticks ≡ false
  rate_not_made e = go (is_rate ticks) refl
    where
      go : (t : Bool) → is_rate ticks ≡ t → is_rate ticks ≡ false
      go false h = h
      go true h = absurd (no_stop (sym e ∙ sym (rate_done h)))

-- ---- what is void, in the papers' words

module _ (rate : ℕ) (b : Breath) where
  abbrev pub IsVoid : Type 0
  IsVoid = (b.whole ≡ 0) ⊎ ((b.whole < b.inspiration) ⊎ (120 * rate < b.whole))

  not_void_lem : (b.whole ≡ 0 → ⊥) → b.inspiration ≤ b.whole → b.whole ≤ 120 * rate → is_void rate b ≡ false
  unfolding is_void
  not_void_lem z i w = rw (ne_eqb _ _ z, le-ltb _ _ i, le-ltb _ _ w) refl

  pub void_words : is_void rate b ≡ true ↔ IsVoid
  void_words = (λ h. some h (ℕ_discrete b.whole 0) (dec_lt b.whole b.inspiration) (dec_lt (120 * rate) b.whole), λ v. back (is_void rate b) refl v)
    where
      some : is_void rate b ≡ true → Dec (b.whole ≡ 0) → Dec (b.whole < b.inspiration) → Dec (120 * rate < b.whole) → IsVoid
      some h (yes z) i w = inl z
      some h (no z) (yes i) w = inr (inl i)
      some h (no z) (no i) (yes w) = inr (inr w)
      some h (no z) (no i) (no w) = absurd (true≢false (sym h ∙ not_void_lem z (omega arith) (omega arith)))

      back : (t : Bool) → is_void rate b ≡ t → IsVoid → is_void rate b ≡ true
      back true e v = e
      back false e (inl z) = absurd (omega (arith, (good_breath rate b e).0, z))
      back false e (inr (inl i)) = absurd (omega (arith, (good_breath rate b e).1, i))
      back false e (inr (inr w)) = absurd (omega (arith, (good_breath rate b e).2, w))

-- At 1024 ticks a second a whole of two minutes isn't void,
pub longest_good : is_void 1024 (record { inspiration = 1; whole = 122880 }) ≡ false
unfolding is_void
longest_good = refl

-- and one tick more is.
pub overlong_void : is_void 1024 (record { inspiration = 1; whole = 122881 }) ≡ true
unfolding is_void
overlong_void = refl

-- A next onset before its onset reads as a breath of nearly the whole clock,
pub backward_whole : (onset peak next : ℕ) → onset < 2 ^ 32 → next < onset → (breath_of onset peak next).whole ≡ 2 ^ 32 - (onset - next)
unfolding breath_of span
backward_whole onset peak next o h = omega arith

-- so that it is void, but where it is before it by nearly the whole clock itself.
pub backward_void : (rate onset peak next : ℕ) → onset < 2 ^ 32 → next < onset → onset - next + 120 * rate < 2 ^ 32 → is_void rate (breath_of onset peak next) ≡ true
backward_void rate onset peak next o h l =
    (void_words rate (breath_of onset peak next)).1 (inr (inr (omega (arith, backward_whole onset peak next o h))))

-- ---- the answers of `stored_word`

module _ (rate onset peak next : ℕ) where
  abbrev StoresBest : Outcome ℕ → Type 0
  StoresBest o = WhenDone o (λ w. BestRatio (breath_of onset peak next).inspiration (breath_of onset peak next).whole (ratio_of w))

  pub stored_done : (known : Rate) → Ok known ≡ make_rate rate → (b : Breath) → b ≡ breath_of onset peak next → (r : Ratio)
      → Promised (breath_ratio known.ticks b) (breath_word known.ticks b) b.inspiration b.whole r → (w : ℕ) → w ≡ word_of r
      → (done w ≡ breath_stored rate onset peak next) × StoresBest (done w)
  unfolding breath_stored
  stored_done known made b be r p w we =
      let word : w ≡ breath_word known.ticks (breath_of onset peak next) = we ∙ p.1.0 ∙ ap (breath_word known.ticks) be in
      let shown : ratio_of (word_of r) ≡ r = subst (λ (x : Ratio). ratio_of (word_of x) ≡ x) (sym p.0) (ratio_of_word _ (breath_proportion known.ticks b)) in (
        ap done word ∙ then_done (λ (k : Rate). done (breath_word k.ticks (breath_of onset peak next))) made refl,
        subst (λ (c : Breath). BestRatio c.inspiration c.whole (ratio_of w)) be (subst (BestRatio b.inspiration b.whole) (sym (ap ratio_of we ∙ shown)) p.1.1),
      )

  pub stored_stopped : {s : Stop} → Err s ≡ make_rate rate → Err s ≡ breath_stored rate onset peak next
  unfolding breath_stored
  stored_stopped e = then_stop _ e
