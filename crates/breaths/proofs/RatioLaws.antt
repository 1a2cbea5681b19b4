-- Durations, what is void, and ratios. Assumes nothing.
-- `breath_best`, `night_best`, `breaths_best`: demand 3, of a breath, a night and each of some breaths. `breath_rounded`, `night_rounded`: demand
-- 2, of a breath and a night. `breath_mark`, `night_mark`: the mark of their words. `ratio_proportion`: the word of a ratio from 0 to 1 is a
-- fraction from 0 to 1. `span_is`, `span_leads`: a difference modulo 2^32 leads from the first tick mark to the second,
-- and any number below 2^32 that does is it. `good_breath`: a breath that isn't void has a whole, an in that doesn't exceed it, and isn't
-- longer than 120 times the rate.
use Rattle.std.proofs.Common.{◌≡◌, ℕ, zero, suc, ◌+◌, ◌*◌, ◌%◌, ◌^◌, ◌<◌, ◌≤◌, Bool, true, false, not, ◌&&◌, ◌||◌, eqb, ltb, leb, List, [], ◌∷◌, sym, refl, ap, ◌∙◌, subst, ⊎_elim, true≢false, mul-le-mul_right, mod-lt, mul-le-mul_left, arith, ltb-false, eq-eqb, ne_eqb, eqb-true, leb-true}
use native.Mathlib.Decide.{dec_le, ℕ_discrete}
use borrow.Author.Tests.{eqb-false, not-true}
use Rattle.std.specs.Prelude.{if◌then◌else◌, Ok, Err}
use Rattle.convergents.specs.Pairs.{Pair, pair, differs}
use Rattle.convergents.specs.Rounding.{Limit, held, round}
use Rattle.convergents.specs.Best.{Best}
use Rattle.convergents.proofs.Optimal.{held_is, zero_held}
use Rattle.convergents.proofs.BestLaws.{round_best}
use Rattle.slash.specs.Answers.{Outcome, stop, done, WhenDone}
use Rattle.slash.specs.Bits.{bits, bit, word_of_fields}
use Rattle.slash.specs.Formats.{holds}
use Rattle.slash.specs.Reading.{fixed_value, fixed_number, number_of}
use Rattle.slash.specs.Writing.{fixed_word, pair_word, word_for, is_over_zero, write_number, exact_ratio}
use Rattle.slash.specs.Numbers.{is_nan, pair_of}
use Rattle.slash.specs.Best.{BestForRatio, BestForValue}
use Rattle.slash.specs.declared.answer.Stop.{Stop}
use Rattle.slash.specs.declared.format.Format.{Format}
use Rattle.slash.specs.declared.number.Value.{Value}
use Rattle.slash.proofs.AnswerLaws.{done_inj, no_stop, and_parts, some_not, if_case}
use Rattle.slash.proofs.BitLaws.{bit_lt, bit_false}
use Rattle.slash.proofs.FormatLaws.{format_limit, fixed_parts}
use Rattle.slash.proofs.WritingLaws.{write_done, write_over_zero, word_best}
use Rattle.slash.proofs.WordLaws.{word_rounded, word_mark}
use Rattle.breaths.specs.Breaths.{span, breath_of, is_void, breath_ratio, breath_word, BestBreaths}
use Rattle.breaths.specs.Ratios.{ratio_format, ratio_word, parts_ratio, word_of, ratio_of, fraction_of, BestRatio}
use Rattle.breaths.specs.Sums.{none_left, night_ratio, night_word}
use Rattle.breaths.specs.Steps.{Proportion, PrintableRatio, Proper}
use Rattle.breaths.specs.declared.breath.Breath.{Breath}
use Rattle.breaths.specs.declared.sums.Sums.{Sums}
use Rattle.breaths.specs.declared.ratio.Ratio.{Ratio}
use Rattle.breaths.specs.declared.ratio.Ratio.TheVariants.{Void, Word}
use Rattle.breaths.proofs.ProportionLaws.{known_format}

-- a difference modulo 2^32 is the one number that leads from the first tick mark to the second
pub span_is : (from to r : ℕ) → from < 2 ^ 32 → r < 2 ^ 32 → (r + from) % 2 ^ 32 ≡ to → r ≡ span from to
unfolding span
span_is from to r f h e = omega arith

-- and it leads there
pub span_leads : (from to : ℕ) → from < 2 ^ 32 → to < 2 ^ 32 → (span from to + from) % 2 ^ 32 ≡ to
unfolding span
span_leads from to f h = omega arith

pub between_is : (onset peak next i w : ℕ) → onset < 2 ^ 32 → i < 2 ^ 32 → w < 2 ^ 32
    → (i + onset) % 2 ^ 32 ≡ peak → (w + onset) % 2 ^ 32 ≡ next → record { inspiration = i; whole = w } ≡ breath_of onset peak next
unfolding breath_of
between_is onset peak next i w o h l e f = rw (span_is onset peak i o h e, span_is onset next w o l f) refl

-- ---- the best pair for a ratio from 0 to 1 is one too

module _ (limit : ℕ → ℕ → Bool) (lim : Limit limit) (N D : ℕ) (pos : 1 ≤ D) (l : N ≤ D) where
  -- 0/1 does better than 1/0
  finite : (r : ℕ) → Best limit N D (pair r 0) → ⊥
  unfolding held
  finite r b =
      let one : r ≡ 1 = eqb-true r 1 b.is_held in
      let differ : pair 0 1 ≡ pair r 0 → ⊥ = λ e. let z : ◌≡◌ {A = ℕ} 1 0 = ap (λ (x : Pair). x.denominator) e in omega arith in
      ⊎_elim (λ h. omega (arith, ap (λ (x : ℕ). x * D) one)) (λ h. omega (arith, ap (λ (x : ℕ). x * D) one, h.0)) (b.better (pair 0 1) (zero_held limit lim) differ)

  -- 1/1 does better than what is above 1
  below_one : (r s : ℕ) → 1 ≤ s → Best limit N D (pair r s) → r ≤ s
  below_one r s p b = go (dec_le r s)
    where
      go : Dec (r ≤ s) → r ≤ s
      go (yes h) = h
      go (no n) =
          let above : s + 1 ≤ r = omega arith in
          let one_held : held limit (pair 1 1) ≡ true = held_is limit 1 1 (omega arith) ∙ lim.one in
          let differ : pair 1 1 ≡ pair r s → ⊥ =
          λ e. let i : 1 ≡ r = ap (λ (x : Pair). x.numerator) e in let j : 1 ≡ s = ap (λ (x : Pair). x.denominator) e in omega arith
          in
          let i : (s + 1) * D ≤ r * D = mul-le-mul_right D above in
          let j : s * N ≤ s * D = mul-le-mul_left s l in
          absurd (⊎_elim (λ h. omega (arith, i, j)) (λ h. omega (arith, i, j, h.0, h.1)) (b.better (pair 1 1) one_held differ))

  from_zero_to_one : (x : Pair) → Best limit N D x → (1 ≤ x.denominator) × (x.numerator ≤ x.denominator)
  from_zero_to_one x b = go x.numerator x.denominator b
    where
      go : (r s : ℕ) → Best limit N D (pair r s) → (1 ≤ s) × (r ≤ s)
      go r zero c = absurd (finite r c)
      go r (suc s) c = let p : 1 ≤ suc s = omega arith in (p, below_one r (suc s) p c)

-- ---- the word of a ratio

module _ (N D : ℕ) (pos : 1 ≤ D) where
  not_over : is_over_zero (exact_ratio N D).value ≡ false
  unfolding is_over_zero
  not_over = some_not D pos

  ratio_written : done (ratio_word N D) ≡ write_number ratio_format (exact_ratio N D)
  unfolding ratio_word
  ratio_written = write_done ratio_format _ known_format not_over

  -- demand 3
  pub ratio_best : BestForRatio ratio_format N D (ratio_word N D)
  unfolding ratio_word BestForValue
  ratio_best = word_best ratio_format known_format false (exact_ratio N D).value not_over

  -- demand 2, and the mark
  pub ratio_rounded : fraction_of (ratio_word N D) ≡ round (holds ratio_format) N D
  unfolding fraction_of ratio_word
  ratio_rounded = word_rounded ratio_format known_format false (exact_ratio N D).value not_over

  pub ratio_mark : (number_of ratio_format (ratio_word N D)).approximate ≡ differs N D (fraction_of (ratio_word N D))
  unfolding fraction_of ratio_word is_nan
  ratio_mark = word_mark ratio_format known_format false (exact_ratio N D).value not_over

  pub parts_some : parts_ratio N D ≡ Word (ratio_word N D)
  unfolding parts_ratio
  parts_some = rw (some_not D pos) refl

  -- its sign is 0, and 8 hexadecimal digits are all of it
  pub ratio_unsigned : ratio_word N D < 2 ^ 31
  unfolding ratio_word word_for pair_word fixed_word word_of_fields
  ratio_unsigned =
      let x : Pair = round (holds ratio_format) N D in
      let h : held (holds ratio_format) x ≡ true = (round_best (holds ratio_format) (format_limit ratio_format known_format) N D pos).is_held in
      let l = fixed_parts ratio_format x.numerator x.denominator known_format h refl in
      omega (arith, l, bit_lt (differs N D x), bit_false false refl)

  pub ratio_proportion : N ≤ D → Proportion (ratio_word N D)
  unfolding fraction_of BestForRatio
  ratio_proportion l =
      let x : Pair = fraction_of (ratio_word N D) in
      let b : Best (holds ratio_format) N D x = ratio_best in
      let p = from_zero_to_one (holds ratio_format) (format_limit ratio_format known_format) N D pos l x b in
      record { unsigned = ratio_unsigned; some = p.0; proper = p.1 }

-- the ratios that `Ratio::of_parts` takes a way of its own for, and its answer there
module _ (n d : ℕ) where
  pub short_parts : ((not (eqb n 0) && leb n d) && leb n 4294967295) ≡ true → (1 ≤ n) × (n ≤ d) × (n ≤ 4294967295)
  short_parts e =
      let t = and_parts _ _ e in
      let u = and_parts _ _ t.0 in
      let z : n ≡ 0 → ⊥ = eqb-false n 0 (not-true _ u.0) in
      (omega arith, leb-true _ _ u.1, leb-true _ _ t.1)

  pub short_word : 1 ≤ d → (w : ℕ) → w ≡ ratio_word n d → (Word w ≡ parts_ratio n d) × BestRatio n d (Word w)
  unfolding BestRatio
  short_word pos w e = (ap Word e ∙ sym (parts_some n d pos), subst (λ (v : ℕ). BestForRatio ratio_format n d v) (sym e) (ratio_best n d pos))

-- the answers of `Ratio::of_parts`, by what `slash::round_word` answers
module _ (N D : ℕ) (f : Format) (fe : f ≡ ratio_format) (a : Outcome ℕ)
    (w : (a ≡ write_number f (exact_ratio N D)) × WhenDone a (λ v. BestForRatio f N D v)) where
  answer : a ≡ write_number ratio_format (exact_ratio N D)
  answer = w.0 ∙ ap (λ (g : Format). write_number g (exact_ratio N D)) fe

  over_zero : D ≡ 0 → stop 6 0 ≡ write_number ratio_format (exact_ratio N D)
  unfolding is_over_zero
  over_zero z = write_over_zero ratio_format _ known_format (eq-eqb D 0 z)

  pub parts_done : (v : ℕ) → a ≡ Ok v → (Word v ≡ parts_ratio N D) × BestRatio N D (Word v)
  unfolding BestRatio
  parts_done v e =
      let made : done v ≡ write_number ratio_format (exact_ratio N D) = sym e ∙ answer in
      let best : BestForRatio f N D v = subst (λ (o : Outcome ℕ). WhenDone o (λ u. BestForRatio f N D u)) e w.1 in
      (go made (ℕ_discrete D 0), subst (λ (g : Format). BestForRatio g N D v) fe best)
    where
      go : done v ≡ write_number ratio_format (exact_ratio N D) → Dec (D ≡ 0) → Word v ≡ parts_ratio N D
      go made (yes z) = absurd (no_stop (over_zero z ∙ sym made))
      go made (no z) = let pos : 1 ≤ D = omega arith in ap Word (done_inj (made ∙ sym (ratio_written N D pos))) ∙ sym (parts_some N D pos)

  pub parts_stop : (s : Stop) → a ≡ Err s → (Void ≡ parts_ratio N D) × BestRatio N D Void
  unfolding parts_ratio BestRatio
  parts_stop s e = (go (ℕ_discrete D 0), tt)
    where
      go : Dec (D ≡ 0) → Void ≡ parts_ratio N D
      go (yes z) = rw (eq-eqb D 0 z) refl
      go (no z) = let pos : 1 ≤ D = omega arith in absurd (no_stop (sym e ∙ answer ∙ sym (ratio_written N D pos)))

-- the parts of whatever word are small
value_small : (s : Bool) (n d : ℕ) → n < 2 ^ 15 → d < 2 ^ 15 → ((pair_of (fixed_value s n d)).numerator < 2 ^ 15) × ((pair_of (fixed_value s n d)).denominator < 2 ^ 15)
unfolding fixed_value pair_of
value_small s n d i j =
    let P : Value → Type 0 = λ v. ((pair_of v).numerator < 2 ^ 15) × ((pair_of v).denominator < 2 ^ 15) in
    if_case P (eqb n 0) _ _
    (λ e. if_case P (eqb (d % 2) 1) _ _ (λ o. (omega arith, omega arith)) (λ o. (omega arith, omega arith)))
    (λ e. if_case P (eqb d 0) _ _
    (λ z. if_case P (eqb (n % 2) 1) _ _ (λ o. (omega arith, omega arith)) (λ o. (omega arith, omega arith)))
    (λ z. (i, j)))

pub fraction_small : (w : ℕ) → ((fraction_of w).numerator < 2 ^ 15) × ((fraction_of w).denominator < 2 ^ 15)
unfolding fraction_of number_of fixed_number bits
fraction_small w = value_small _ _ _ (mod-lt _ (omega arith)) (mod-lt _ (omega arith))

-- the answers of `Ratio::word`
module _ (r : Ratio) where
  pub word_void : r ≡ Void → 0 ≡ word_of r
  unfolding word_of
  word_void e = rw e refl

  pub word_word : (w : ℕ) → r ≡ Word w → w ≡ word_of r
  unfolding word_of
  word_word w e = rw e refl

-- the answers of `Ratio::of_word`
module _ (w : ℕ) where
  pub of_zero : w ≡ 0 → Void ≡ ratio_of w
  unfolding ratio_of
  of_zero z = rw (eq-eqb w 0 z) refl

  pub of_some : (w ≡ 0 → ⊥) → Word w ≡ ratio_of w
  unfolding ratio_of
  of_some z = rw (ne_eqb w 0 z) refl

  -- and its word is the word again
  pub word_of_ratio : word_of (ratio_of w) ≡ w
  unfolding word_of
  word_of_ratio = go (ℕ_discrete w 0)
    where
      go : Dec (w ≡ 0) → word_of (ratio_of w) ≡ w
      go (yes z) = ap word_of (sym (of_zero z)) ∙ sym z
      go (no z) = ap word_of (sym (of_some z))

zero_over : (fraction_of 0).denominator ≡ 0
unfolding fraction_of pair_of number_of fixed_number fixed_value bits bit
zero_over = refl

-- a ratio that a line shows is that of its word
pub ratio_of_word : (r : Ratio) → PrintableRatio r → ratio_of (word_of r) ≡ r
unfolding word_of
ratio_of_word Void s = sym (of_zero 0 refl)
ratio_of_word (Word w) s =
    let z : w ≡ 0 → ⊥ = λ e. omega (arith, s.some, ap (λ (v : ℕ). (fraction_of v).denominator) e, zero_over) in
    sym (of_some w z)

-- what the ratio of a breath and of a night promises: what it is, its word, and demand 3
abbrev pub Promised : (ratio : Ratio) (word N D : ℕ) → Ratio → Type 0
Promised ratio word N D r = (r ≡ ratio) × ((word_of r ≡ word) × BestRatio N D r)

-- ---- a breath

pub or_parts : (s t : Bool) → (s || t) ≡ false → (s ≡ false) × (t ≡ false)
or_parts true t e = absurd (true≢false e)
or_parts false t e = (refl, e)

module _ (rate : ℕ) (b : Breath) where
  pub void_is : (longest : ℕ) → longest ≡ 120 * rate → ((eqb b.whole 0 || ltb b.whole b.inspiration) || ltb longest b.whole) ≡ is_void rate b
  unfolding is_void
  void_is longest e = ap (λ (n : ℕ). (eqb b.whole 0 || ltb b.whole b.inspiration) || ltb n b.whole) e

  -- a breath that isn't void
  pub good_breath : is_void rate b ≡ false → (1 ≤ b.whole) × (b.inspiration ≤ b.whole) × (b.whole ≤ 120 * rate)
  good_breath h =
      let v = or_parts (eqb b.whole 0 || ltb b.whole b.inspiration) (ltb (120 * rate) b.whole) (void_is (120 * rate) refl ∙ h) in
      let w = or_parts (eqb b.whole 0) (ltb b.whole b.inspiration) v.0 in
      let n : b.whole ≡ 0 → ⊥ = eqb-false _ _ w.0 in
      (omega arith, ltb-false _ _ w.1, ltb-false _ _ v.1)

  pub breath_void : is_void rate b ≡ true → Promised (breath_ratio rate b) (breath_word rate b) b.inspiration b.whole Void
  unfolding breath_ratio breath_word word_of BestRatio
  breath_void h = (rw h refl, (rw h refl, tt))

  pub breath_word_lem : is_void rate b ≡ false → (r : Ratio)
      → (r ≡ parts_ratio b.inspiration b.whole) × BestRatio b.inspiration b.whole r
      → Promised (breath_ratio rate b) (breath_word rate b) b.inspiration b.whole r
  unfolding breath_ratio breath_word word_of
  breath_word_lem h r w =
      let e : r ≡ Word (ratio_word b.inspiration b.whole) = w.0 ∙ parts_some _ _ (good_breath h).0 in
      (e ∙ rw h refl, (ap word_of e ∙ rw h refl, w.1))

  -- Demand 3, of every breath.
  pub breath_best : BestRatio b.inspiration b.whole (breath_ratio rate b)
  unfolding breath_ratio BestRatio
  breath_best = if_case (BestRatio b.inspiration b.whole) (is_void rate b) _ _ (λ h. tt) (λ h. ratio_best _ _ (good_breath h).0)

  module _ (h : is_void rate b ≡ false) where
    -- Every breath line is the exact result, in over whole, cut to its last continued-fraction convergent that the format holds.
    pub breath_rounded : fraction_of (breath_word rate b) ≡ round (holds ratio_format) b.inspiration b.whole
    unfolding breath_word
    breath_rounded = rw h (ratio_rounded _ _ (good_breath h).0)

    -- Its mark is 1 if rounding changed the value.
    pub breath_mark : (number_of ratio_format (breath_word rate b)).approximate ≡ differs b.inspiration b.whole (fraction_of (breath_word rate b))
    unfolding breath_word
    breath_mark = rw h (ratio_mark _ _ (good_breath h).0)

  pub breath_proportion : PrintableRatio (breath_ratio rate b)
  unfolding breath_ratio
  breath_proportion = if_case PrintableRatio (is_void rate b) _ _ (λ h. tt) (λ h. ratio_proportion _ _ (good_breath h).0 (good_breath h).1)

-- ---- a night

module _ (s : Sums) where
  pub night_parts : (r : Ratio)
      → (r ≡ parts_ratio s.inspiration s.whole) × BestRatio s.inspiration s.whole r
      → Promised (night_ratio s) (night_word s) s.inspiration s.whole r
  unfolding night_ratio night_word none_left parts_ratio word_of
  night_parts r w = (w.0, (ap word_of w.0 ∙ go (eqb s.whole 0), w.1))
    where
      go : (t : Bool) → word_of (if t then Void else Word (ratio_word s.inspiration s.whole)) ≡ (if t then 0 else ratio_word s.inspiration s.whole)
      go true = refl
      go false = refl

  -- a breath is left
  pub some_left : none_left s ≡ false → 1 ≤ s.whole
  unfolding none_left
  some_left h = let n : s.whole ≡ 0 → ⊥ = eqb-false _ _ h in omega arith

  -- Demand 3, of every night.
  pub night_best : BestRatio s.inspiration s.whole (night_ratio s)
  unfolding night_ratio BestRatio
  night_best = if_case (BestRatio s.inspiration s.whole) (none_left s) _ _ (λ h. tt) (λ h. ratio_best _ _ (some_left h))

  module _ (h : none_left s ≡ false) where
    -- Every whole-night total is the exact result, the sum of in over the sum of whole, cut to its last continued-fraction convergent that the
    -- format holds.
    pub night_rounded : fraction_of (night_word s) ≡ round (holds ratio_format) s.inspiration s.whole
    unfolding night_word
    night_rounded = rw h (ratio_rounded _ _ (some_left h))

    -- Its mark is 1 if rounding changed the value.
    pub night_mark : (number_of ratio_format (night_word s)).approximate ≡ differs s.inspiration s.whole (fraction_of (night_word s))
    unfolding night_word
    night_mark = rw h (ratio_mark _ _ (some_left h))

  pub night_proportion : Proper s → PrintableRatio (night_ratio s)
  unfolding night_ratio
  night_proportion p = if_case PrintableRatio (none_left s) _ _ (λ h. tt) (λ h. ratio_proportion _ _ (some_left h) p)

-- Demand 3, of some breaths.
pub breaths_best : (rate : ℕ) (bs : List Breath) → BestBreaths rate bs
unfolding BestBreaths
breaths_best rate [] = tt
breaths_best rate (b ∷ bs) = (breath_best rate b, breaths_best rate bs)
