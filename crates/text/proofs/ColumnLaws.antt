-- The columns of a line. Assumes nothing.
-- `nearest_even`: no whole number is nearer to 1000 n/d than its thousandths, and where another is as near they are even; `nearest_even_unique`:
-- of no other number is that so. `at_most_1000`: of a fraction up to 1 they are at most 1000. `sixteenths`: the examples 6.2 and 18.8.
-- `columns_length`: the columns of a ratio that is printed have at most 26 bytes.
use mathlib.Core.Path.{◌≡◌, refl, sym, ap, ◌∙◌, subst}
use mathlib.Core.Logic.{◌⊎◌, inl, inr}
use mathlib.Core.Bool.{Bool, true, false, ◌&&◌}
use mathlib.Core.List.{List, [], ◌∷◌, ◌++◌}
use Prim.Native.Nat.{ℕ, ◌+◌, ◌*◌, ◌/◌, ◌%◌, ◌^◌, ◌≤◌, ◌<◌}
use native.Mathlib.Omega.{arith}
use native.Mathlib.Nat.{mod-lt, mul-le-mul_right, div-add-mod'}
use native.Mathlib.Decide.{dec_le}
use lib.Dec.{leb, ltb, eqb}
use borrow.Author.Tests.{lt-leb, lt-ltb, le-ltb, ltb-true, ltb-false, eqb-true, eqb-false}
use lib.ListN.{length, length-append}
use Rattle.convergents.specs.Pairs.{Pair, pair}
use Rattle.slash.specs.Answers.{stop}
use Rattle.slash.specs.Formats.{k_fits, known, width_of}
use Rattle.slash.specs.Reading.{number_in, check_word, is_above}
use Rattle.slash.specs.Numbers.{parts_of, pair_of}
use Rattle.slash.proofs.AnswerLaws.{no_stop, if_case}
use Rattle.slash.proofs.ReadingLaws.{check_fixed}
use Rattle.slash.specs.declared.format.Format.{Format}
use Rattle.slash.specs.declared.number.Parts.{Parts}
use Rattle.slash.specs.declared.number.Value.{Value}
use Rattle.text.specs.Numbers.{tab, slash, point, decimal_from, decimal, hexadecimal}
use Rattle.breaths.specs.Ratios.{ratio_format, word_of, fraction_of}
use Rattle.text.specs.Columns.{distance, thousandths, percentage, fraction_text, fraction_and_percentage, columns}
use Rattle.text.specs.Lines.{is_printable}
use Rattle.breaths.specs.Steps.{Proportion, PrintableRatio}
use Rattle.breaths.specs.declared.ratio.Ratio.{Ratio}
use Rattle.breaths.specs.declared.ratio.Ratio.TheVariants.{Void, Word}
use Rattle.breaths.proofs.RatioLaws.{fraction_small}
use Rattle.text.proofs.NumberLaws.{decimal_small, decimal_length, hexadecimal_length}

-- ---- a fraction from its word

-- a word of sign 0 is good
pub unsigned_good : (w : ℕ) (f : Format) → f ≡ ratio_format → w < 2 ^ 31 → {n p : ℕ} → stop n p ≡ check_word f w → ⊥
unfolding known k_fits is_above width_of
unsigned_good w f fe l e =
    let small : w < 2 ^ 32 = omega arith in
    let below : leb (2 ^ 32) w ≡ false = lt-leb _ _ small in
    no_stop (e ∙ ap (λ (g : Format). check_word g w) fe ∙ sym (check_fixed ratio_format w refl below refl))

-- the parts p of the value v that the word says
module _ (w : ℕ) (f : Format) (fe : f ≡ ratio_format) (v : Value) (ve : v ≡ (number_in f w).value) (p : Parts) (pe : p ≡ parts_of v) where
  pub fraction_parts : pair p.numerator p.denominator ≡ fraction_of w
  unfolding fraction_of pair_of number_in k_fits
  fraction_parts = rw (pe, ve, fe) refl

  pub parts_small : (p.numerator < 2 ^ 32) × (p.denominator < 2 ^ 32)
  parts_small =
      let i : p.numerator ≡ (fraction_of w).numerator = ap (λ (x : Pair). x.numerator) fraction_parts in
      let j : p.denominator ≡ (fraction_of w).denominator = ap (λ (x : Pair). x.denominator) fraction_parts in
      (omega (arith, (fraction_small w).0), omega (arith, (fraction_small w).1))

-- ---- the percentage

-- The request's examples: 1/16, 6.25 percent, prints 6.2, and 3/16, 18.75 percent, prints 18.8. (The bytes of both.)
pub sixteenths : (percentage (thousandths 1 16) ≡ 54 ∷ 46 ∷ 50 ∷ []) × (percentage (thousandths 3 16) ≡ 49 ∷ 56 ∷ 46 ∷ 56 ∷ [])
unfolding percentage thousandths decimal decimal_from
sixteenths = (refl, refl)

-- No whole number is nearer to 1000 n/d than t, and where another is as near t is even.
pub record NearestEven (n d t : ℕ) : Type 0 where
  pub nearest : (u : ℕ) → distance n d t ≤ distance n d u
  pub even : (u : ℕ) → distance n d u ≡ distance n d t → (u ≡ t) ⊎ (t % 2 ≡ 0)

-- two whole numbers are the same, or at least 1 apart (times d)
module _ (d t u : ℕ) where
  by_order : (P : Type 0) → (t ≡ u → P) → (t * d + d ≤ u * d → t < u → P) → (u * d + d ≤ t * d → u < t → P) → P
  by_order P same less more = go (dec_le u t) (dec_le t u)
    where
      go : Dec (u ≤ t) → Dec (t ≤ u) → P
      go (yes i) (yes j) = same (omega arith)
      go (no i) j = let l : t < u = omega arith in less (omega (arith, mul-le-mul_right d l)) l
      go (yes i) (no j) = let l : u < t = omega arith in more (omega (arith, mul-le-mul_right d l)) l

module _ (n d : ℕ) where
  -- what is at most a half off is nearest, and what is less than that the only one
  at_most_half : (t : ℕ) → 2 * distance n d t ≤ d → (u : ℕ) → distance n d t ≤ distance n d u
  at_most_half t h u = by_order d t u _ (λ e. omega (arith, ap (λ (x : ℕ). x * d) e)) (λ l _. omega (arith, l)) (λ l _. omega (arith, l))

  below_half : (t : ℕ) → 2 * distance n d t < d → NearestEven n d t
  below_half t h =
      let only : (u : ℕ) → distance n d u ≡ distance n d t → u ≡ t =
      λ u e. by_order d t u (u ≡ t) sym (λ l _. absurd (omega (arith, e, l))) (λ l _. absurd (omega (arith, e, l)))
      in
      record { nearest = at_most_half t (omega arith); even = λ u e. inl (only u e) }

  even_at_half : (t : ℕ) → 2 * distance n d t ≡ d → t % 2 ≡ 0 → NearestEven n d t
  even_at_half t h e = record { nearest = at_most_half t (omega (arith, h)); even = λ u f. inr e }

module _ (n d : ℕ) (pos : 1 ≤ d) where
  -- No two numbers are so.
  not_two : (t u : ℕ) → t < u → NearestEven n d t → NearestEven n d u → ⊥
  not_two t u l a b = go (dec_le (t + 2) u)
    where
      equal : distance n d t ≡ distance n d u
      equal = omega (arith, a.nearest u, b.nearest t)

      -- u is t + 1, and one of the two is odd
      next : (u ≡ t) ⊎ (t % 2 ≡ 0) → (t ≡ u) ⊎ (u % 2 ≡ 0) → u ≡ t + 1 → ⊥
      next (inl e) f g = omega arith
      next (inr e) (inl f) g = omega arith
      next (inr e) (inr f) g = omega arith

      -- else t + 1 is nearer
      go : Dec (t + 2 ≤ u) → ⊥
      go (yes i) = omega (arith, equal, a.nearest (t + 1), mul-le-mul_right d i)
      go (no i) = next (a.even u (sym equal)) (b.even t equal) (omega arith)

  pub nearest_even_unique : (t u : ℕ) → NearestEven n d t → NearestEven n d u → t ≡ u
  nearest_even_unique t u a b = by_order d t u (t ≡ u) (λ e. e) (λ _ l. absurd (not_two t u l a b)) (λ _ l. absurd (not_two u t l b a))

  whole : 1000 * n ≡ 1000 * n / d * d + 1000 * n % d
  whole = omega (arith, div-add-mod' (1000 * n) d)

  rest : 1000 * n % d < d
  rest = mod-lt (1000 * n) pos

  -- Thousandths are the nearest whole number to 1000 n/d, at a tie the even one.
  pub nearest_even : NearestEven n d (thousandths n d)
  unfolding thousandths
  nearest_even =
      let below : ℕ = 1000 * n / d in
      let above : ℕ = below + 1 in
      let a : ℕ = distance n d below in
      let b : ℕ = distance n d above in
      let together : a + b ≡ d = omega (arith, whole, rest) in
      if_case (NearestEven n d) (ltb a b) _ _
      (λ h. let l : a < b = ltb-true a b h in below_half n d below (omega (arith, together, l)))
      (λ h. if_case (NearestEven n d) (ltb b a) _ _
      (λ i. let l : b < a = ltb-true b a i in below_half n d above (omega (arith, together, l)))
      (λ i.
      let l : b ≤ a = ltb-false a b h in
      let m : a ≤ b = ltb-false b a i in
      if_case (NearestEven n d) (eqb (below % 2) 0) _ _
      (λ e. even_at_half n d below (omega (arith, together, l, m)) (eqb-true (below % 2) 0 e))
      (λ e. let odd : below % 2 ≡ 0 → ⊥ = eqb-false (below % 2) 0 e in even_at_half n d above (omega (arith, together, l, m)) (omega arith))))

  is_thousandths : (t : ℕ) → NearestEven n d t → t ≡ thousandths n d
  is_thousandths t a = nearest_even_unique t (thousandths n d) a nearest_even

  -- what `in_thousandths` answers, from the whole part and twice the rest
  module _ (q s : ℕ) (qe : q ≡ 1000 * n / d) (se : s ≡ 2 * (1000 * n % d)) where
    parts : 1000 * n ≡ q * d + 1000 * n % d
    parts = rw qe whole

    pub thousandths_up : d < s + q % 2 → q + 1 ≡ thousandths n d
    thousandths_up l = is_thousandths (q + 1) (go (dec_le s d))
      where
        go : Dec (s ≤ d) → NearestEven n d (q + 1)
        go (yes i) = even_at_half n d (q + 1) (omega (arith, parts, rest, se, l)) (omega (arith, l))
        go (no i) = below_half n d (q + 1) (omega (arith, parts, rest, se))

    pub thousandths_down : s + q % 2 ≤ d → q ≡ thousandths n d
    thousandths_down l = is_thousandths q (go (dec_le d s))
      where
        go : Dec (d ≤ s) → NearestEven n d q
        go (yes i) = even_at_half n d q (omega (arith, parts, rest, se, l)) (omega (arith, l))
        go (no i) = below_half n d q (omega (arith, parts, rest, se))

-- the percentage of a fraction from 0 to 1 is at most 100.0
pub at_most_1000 : (n d : ℕ) → 1 ≤ d → n ≤ d → thousandths n d < 1001
at_most_1000 n d p l = go (dec_le 1001 (thousandths n d))
  where
    go : Dec (1001 ≤ thousandths n d) → thousandths n d < 1001
    go (yes h) = absurd (omega (arith, (nearest_even n d p).nearest 1000, mul-le-mul_right d h))
    go (no h) = omega arith

-- ---- the columns by their pieces

pub percentage_digits : (t a : ℕ) → a ≡ 48 + t % 10 → decimal (t / 10) ++ point ++ (a ∷ []) ≡ percentage t
unfolding percentage
percentage_digits t a e = ap (λ (u : List ℕ). decimal (t / 10) ++ point ++ u) (decimal_small (t % 10) a (mod-lt t (omega arith)) e)

module _ (w n d : ℕ) (e : pair n d ≡ fraction_of w) where
  pub word_shares : (t : ℕ) → t ≡ thousandths n d → fraction_text (pair n d) ++ tab ++ percentage t ≡ fraction_and_percentage (Word w)
  unfolding fraction_and_percentage
  word_shares t f =
      ap (λ (u : ℕ). fraction_text (pair n d) ++ tab ++ percentage u) f
      ∙ ap (λ (x : Pair). fraction_text x ++ tab ++ percentage (thousandths x.numerator x.denominator)) e

  module _ (s : Proportion w) where
    proportion_numerator : n ≤ d
    proportion_numerator = omega (arith, ap (λ (x : Pair). x.numerator) e, ap (λ (x : Pair). x.denominator) e, s.proper)

    proportion_denominator : (1 ≤ d) × (d ≤ 32767)
    proportion_denominator =
        let j : d ≡ (fraction_of w).denominator = ap (λ (x : Pair). x.denominator) e in
        (omega (arith, s.some), omega (arith, (fraction_small w).1))

    pub proportion_parts : (n < 100000) × (d < 100000) × (1 ≤ d)
    proportion_parts = (omega (arith, proportion_numerator, proportion_denominator.1), omega (arith, proportion_denominator.1), proportion_denominator.0)

    pub proportion_percentage : (t : ℕ) → t ≡ thousandths n d → t < 1001
    proportion_percentage t f = omega (arith, at_most_1000 n d proportion_denominator.0 proportion_numerator)

module _ (r : Ratio) where
  pub columns_are : (w : ℕ) → w ≡ word_of r → hexadecimal 8 w ++ tab ++ fraction_and_percentage r ≡ columns r
  unfolding columns
  columns_are w e = ap (λ (v : ℕ). hexadecimal 8 v ++ tab ++ fraction_and_percentage r) e

  pub shares_void : r ≡ Void → (45 ∷ 9 ∷ 45 ∷ []) ≡ fraction_and_percentage r
  unfolding fraction_and_percentage
  shares_void e = rw e refl

  module _ (w : ℕ) (e : r ≡ Word w) where
    pub shares_word : fraction_and_percentage (Word w) ≡ fraction_and_percentage r
    shares_word = ap fraction_and_percentage (sym e)

    pub proportion_word : PrintableRatio r → Proportion w
    proportion_word s = subst PrintableRatio e s

-- ---- which ratios are shown

module _ (w n d : ℕ) (e : pair n d ≡ fraction_of w) where
  pub word_proportion : w < 2 ^ 31 → (leb 1 d && leb n d) ≡ is_printable (Word w)
  unfolding is_printable
  word_proportion l =
      ap (λ (x : Pair). leb 1 x.denominator && leb x.numerator x.denominator) e
      ∙ ap (λ (b : Bool). b && (leb 1 (fraction_of w).denominator && leb (fraction_of w).numerator (fraction_of w).denominator)) (sym (lt-ltb _ _ l))

pub signed_unprintable : (w : ℕ) → 2 ^ 31 ≤ w → false ≡ is_printable (Word w)
unfolding is_printable
signed_unprintable w l = rw (le-ltb _ _ l) refl

module _ (r : Ratio) where
  pub void_printable : r ≡ Void → true ≡ is_printable r
  unfolding is_printable
  void_printable e = rw e refl

  pub ratio_proportion : (w : ℕ) → r ≡ Word w → (t : Bool) → t ≡ is_printable (Word w) → t ≡ is_printable r
  ratio_proportion w e t h = h ∙ ap is_printable (sym e)

-- ---- how long the columns are

percentage_length : (t : ℕ) → t < 1001 → length (percentage t) ≤ 5
unfolding percentage
percentage_length t h =
    omega (arith, length-append (decimal (t / 10) ++ point) (decimal (t % 10)), length-append (decimal (t / 10)) point, decimal_length 2 (t / 10) (omega arith), decimal_length 0 (t % 10) (omega arith))

fraction_length : (x : Pair) → x.numerator < 100000 → x.denominator < 100000 → length (fraction_text x) ≤ 11
unfolding fraction_text
fraction_length x n d =
    omega (arith, length-append (decimal x.numerator ++ slash) (decimal x.denominator), length-append (decimal x.numerator) slash, decimal_length 4 x.numerator n, decimal_length 4 x.denominator d)

word_length : (w : ℕ) → Proportion w → length (fraction_and_percentage (Word w)) ≤ 17
unfolding fraction_and_percentage
word_length w s =
    let x : Pair = fraction_of w in
    let t : ℕ = thousandths x.numerator x.denominator in
    omega (
      arith,
      length-append (fraction_text x ++ tab) (percentage t),
      length-append (fraction_text x) tab,
      fraction_length x (omega (arith, (fraction_small w).0)) (omega (arith, (fraction_small w).1)),
      percentage_length t (at_most_1000 x.numerator x.denominator s.some s.proper),
    )

pub shares_length : (r : Ratio) → PrintableRatio r → length (fraction_and_percentage r) ≤ 17
shares_length Void s = omega (arith, ap length (shares_void Void refl))
shares_length (Word w) s = word_length w s

-- eight digits and a tab stand before them
pub columns_long : (r : Ratio) → length (columns r) ≡ 9 + length (fraction_and_percentage r)
unfolding columns
columns_long r =
    omega (
      arith,
      length-append (hexadecimal 8 (word_of r) ++ tab) (fraction_and_percentage r),
      length-append (hexadecimal 8 (word_of r)) tab,
      hexadecimal_length 8 (word_of r),
    )

pub columns_length : (r : Ratio) → PrintableRatio r → length (columns r) ≤ 26
columns_length r s = omega (arith, columns_long r, shares_length r s)
