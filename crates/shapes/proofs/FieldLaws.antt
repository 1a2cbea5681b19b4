-- The fields of a line. Assumes nothing.
-- `whole_decimal`, `fraction_shape`, `decimal_shape`: what is printed of a number, a fraction and a percentage has the shape of one.
-- `fraction_is`, `decimal_is`, `two_parts` and those beside them: what the functions that look at a field answer.
use mathlib.Core.Path.{◌≡◌, refl, sym, ap, ◌∙◌, subst}
use mathlib.Core.Bool.{Bool, true, false, not, ◌&&◌, ◌||◌, and-true, and-false, true≢false}
use mathlib.Core.List.{List, [], ◌∷◌, ◌++◌}
use Prim.Native.Nat.{ℕ, zero, suc, ◌+◌, ◌/◌, ◌%◌, ◌≤◌, ◌<◌}
use native.Mathlib.Omega.{arith}
use native.Mathlib.Nat.{mod-lt}
use native.Mathlib.Decide.{ℕ_discrete, dec_lt}
use lib.Dec.{eqb, leb, ltb}
use lib.ListN.{length, get_or}
use borrow.Author.Tests.{eqb-true, ne_eqb, le-leb, leb-true, lt-ltb}
use Rattle.convergents.specs.Pairs.{Pair}
use Rattle.slash.proofs.AnswerLaws.{and_parts}
use Rattle.text.specs.Numbers.{slash, point, decimal_from, decimal}
use Rattle.text.specs.Scan.{is_digit, length_before, parted}
use Rattle.text.specs.Columns.{percentage, fraction_text}
use Rattle.text.proofs.NumberLaws.{from_small, from_more}
use Rattle.text.proofs.ScanLaws.{before_le}
use Rattle.text.proofs.PartLaws.{Free, free_before, parted_some, parted_whole, parted_none, parted_cut, parted_at}
use Rattle.std.specs.Prelude.{Option, Some, None}
use Rattle.std.specs.Option.{MatchOption, is_some}
use Rattle.std.specs.List.{list_all}
use Rattle.shapes.specs.Fields.{is_whole, is_place, in_two, are_wholes, is_fraction, are_whole_and_place, is_decimal}

-- ---- what is printed of a number

pub digit_is : (d : ℕ) → d < 10 → is_digit (48 + d) ≡ true
unfolding is_digit
digit_is d h =
    let i : 48 ≤ 48 + d = omega arith in
    let j : 48 + d ≤ 57 = omega arith in
    rw (le-leb _ _ i, le-leb _ _ j) refl

pub every_append : (is : ℕ → Bool) (xs ys : List ℕ) → list_all is xs ≡ true → list_all is ys ≡ true → list_all is (xs ++ ys) ≡ true
every_append is [] ys e f = f
every_append is (x ∷ xs) ys e f =
    let w = and_parts (is x) (list_all is xs) e in
    rw w.0 (every_append is xs ys w.1 f)

pub every_one : (is : ℕ → Bool) (x : ℕ) → is x ≡ true → list_all is (x ∷ []) ≡ true
every_one is x e = rw e refl

module _ (is : ℕ → Bool) (digit : (d : ℕ) → d < 10 → is (48 + d) ≡ true) where
  every_from : (s n : ℕ) → n ≤ s → list_all is (decimal_from s n) ≡ true
  every_from zero n h = ap (list_all is) (from_small zero n (omega arith)) ∙ every_one is (48 + n) (digit n (omega arith))
  every_from (suc s) n h = go (dec_lt n 10) (every_from s (n / 10))
    where
      go : Dec (n < 10) → (n / 10 ≤ s → list_all is (decimal_from s (n / 10)) ≡ true) → list_all is (decimal_from (suc s) n) ≡ true
      go (yes l) ih = ap (list_all is) (from_small (suc s) n l) ∙ every_one is (48 + n) (digit n l)
      go (no l) ih =
          let m : n % 10 < 10 = mod-lt n (omega arith) in
          ap (list_all is) (from_more s n (omega arith))
          ∙ every_append is (decimal_from s (n / 10)) ((48 + n % 10) ∷ []) (ih (omega arith)) (every_one is (48 + n % 10) (digit (n % 10) m))

  pub every_decimal : (n : ℕ) → list_all is (decimal n) ≡ true
  unfolding decimal
  every_decimal n = every_from n n (omega arith)

-- only 0 begins with a zero
record Leads (t : List ℕ) : Type 0 where
  some : 1 ≤ length t
  nonzero : get_or t 0 0 ≡ 48 → ⊥

leads_append : (t u : List ℕ) → Leads t → Leads (t ++ u)
leads_append [] u l = absurd (omega (arith, l.some))
leads_append (x ∷ xs) u l = record { some = omega arith; nonzero = l.nonzero }

leads : (s n : ℕ) → n ≤ s → 1 ≤ n → Leads (decimal_from s n)
leads zero n h l = absurd (omega arith)
leads (suc s) n h l = go (dec_lt n 10) (leads s (n / 10))
  where
    go : Dec (n < 10) → (n / 10 ≤ s → 1 ≤ n / 10 → Leads (decimal_from s (n / 10))) → Leads (decimal_from (suc s) n)
    go (yes k) ih = subst Leads (sym (from_small (suc s) n k)) (record { some = omega arith; nonzero = λ e. omega arith })
    go (no k) ih =
        subst Leads (sym (from_more s n (omega arith)))
        (leads_append (decimal_from s (n / 10)) ((48 + n % 10) ∷ []) (ih (omega arith) (omega arith)))

whole_leads : (t : List ℕ) → list_all is_digit t ≡ true → Leads t → is_whole t ≡ true
unfolding is_whole
whole_leads [] e l = absurd (omega (arith, l.some))
whole_leads (x ∷ xs) e l = rw (e, ne_eqb x 48 l.nonzero) refl

whole_one : (x : ℕ) → is_digit x ≡ true → is_whole (x ∷ []) ≡ true
unfolding is_whole
whole_one x e = rw (e, and-false (eqb x 48)) refl

pub whole_decimal : (n : ℕ) → is_whole (decimal n) ≡ true
unfolding decimal
whole_decimal n = go (ℕ_discrete n 0)
  where
    go : Dec (n ≡ 0) → is_whole (decimal_from n n) ≡ true
    go (yes z) = let l : n < 10 = omega arith in ap is_whole (from_small n n l) ∙ whole_one (48 + n) (digit_is n l)
    go (no z) = whole_leads (decimal_from n n) (every_decimal is_digit digit_is n) (leads n n (omega arith) (omega arith))

-- ---- bytes from k on, and so no byte below k

pub free_above : (k b : ℕ) (xs : List ℕ) → b < k → list_all (leb k) xs ≡ true → Free b xs
free_above k b [] h e = tt
free_above k b (x ∷ xs) h e =
    let w = and_parts (leb k x) (list_all (leb k) xs) e in
    let l : k ≤ x = leb-true _ _ w.0 in
    (ne_eqb x b (λ i. omega arith), free_above k b xs h w.1)

pub decimal_above : (k n : ℕ) → k ≤ 48 → list_all (leb k) (decimal n) ≡ true
decimal_above k n h = every_decimal (leb k) (λ d l. le-leb k (48 + d) (omega arith)) n

-- ---- and of a fraction and a percentage

pub fraction_shape : (x : Pair) → is_fraction (fraction_text x) ≡ true
unfolding is_fraction fraction_text in_two are_wholes
fraction_shape x =
    let n : List ℕ = decimal x.numerator in
    let d : List ℕ = decimal x.denominator in
    let i : Free 47 n = free_above 48 47 n (omega arith) (decimal_above 48 x.numerator (omega arith)) in
    let j : Free 47 d = free_above 48 47 d (omega arith) (decimal_above 48 x.denominator (omega arith)) in
    let parts : parted 47 (n ++ slash ++ d) ≡ n ∷ d ∷ [] = parted_cut 47 n d i ∙ ap (λ (l : List (List ℕ)). n ∷ l) (parted_whole 47 d j) in
    ap (in_two are_wholes) parts ∙ rw (whole_decimal x.numerator, whole_decimal x.denominator) refl

place_small : (m : ℕ) → m < 10 → is_place (decimal m) ≡ true
unfolding is_place decimal
place_small m h = ap (λ (t : List ℕ). eqb (length t) 1 && list_all is_digit t) (from_small m m h) ∙ every_one is_digit (48 + m) (digit_is m h)

pub decimal_shape : (t : ℕ) → is_decimal (percentage t) ≡ true
unfolding is_decimal percentage in_two are_whole_and_place
decimal_shape t =
    let n : List ℕ = decimal (t / 10) in
    let d : List ℕ = decimal (t % 10) in
    let i : Free 46 n = free_above 48 46 n (omega arith) (decimal_above 48 (t / 10) (omega arith)) in
    let j : Free 46 d = free_above 48 46 d (omega arith) (decimal_above 48 (t % 10) (omega arith)) in
    let parts : parted 46 (n ++ point ++ d) ≡ n ∷ d ∷ [] = parted_cut 46 n d i ∙ ap (λ (l : List (List ℕ)). n ∷ l) (parted_whole 46 d j) in
    ap (in_two are_whole_and_place) parts ∙ rw (whole_decimal (t / 10), place_small (t % 10) (mod-lt t (omega arith))) refl

-- ---- numbers

pub whole_empty : (f : List ℕ) → true ≡ eqb (length f) 0 → false ≡ is_whole f
unfolding is_whole
whole_empty [] e = refl
whole_empty (x ∷ xs) e = let z : suc (length xs) ≡ 0 = eqb-true _ _ (sym e) in absurd (omega arith)

pub whole_zero : (f : List ℕ) → false ≡ eqb (length f) 0 → get_or f 0 0 ≡ 48 → eqb (length f) 1 ≡ is_whole f
unfolding is_whole is_digit
whole_zero [] h e = absurd (true≢false (sym h))
whole_zero (x ∷ []) h e = rw e refl
whole_zero (x ∷ y ∷ ys) h e =
    let a : suc (suc (length ys)) ≡ 1 → ⊥ = λ q. omega arith in
    let b : 0 < suc (length ys) = omega arith in
    rw (e, ne_eqb _ _ a, lt-ltb _ _ b) (sym (and-false (list_all is_digit (y ∷ ys))))

pub whole_digits : (f : List ℕ) → false ≡ eqb (length f) 0 → (get_or f 0 0 ≡ 48 → ⊥) → list_all is_digit f ≡ is_whole f
unfolding is_whole
whole_digits [] h n = absurd (true≢false (sym h))
whole_digits (x ∷ xs) h n = sym (rw (ne_eqb x 48 n) (and-true (is_digit x && list_all is_digit xs)))

pub digit_range : (b : ℕ) → is_digit b ≡ true → (48 ≤ b) × (b ≤ 57)
unfolding is_digit
digit_range b e = let w = and_parts (leb 48 b) (leb b 57) e in (leb-true _ _ w.0, leb-true _ _ w.1)

-- ---- two parts

digits_free : (b : ℕ) → b < 48 → (xs : List ℕ) → list_all is_digit xs ≡ true → Free b xs
digits_free b h [] e = tt
digits_free b h (x ∷ xs) e =
    let w = and_parts (is_digit x) (list_all is_digit xs) e in
    let r = digit_range x w.0 in
    (ne_eqb x b (λ i. omega (arith, r.0)), digits_free b h xs w.1)

whole_free : (b : ℕ) → b < 48 → (xs : List ℕ) → is_whole xs ≡ true → Free b xs
unfolding is_whole
whole_free b h [] e = tt
whole_free b h (x ∷ xs) e = digits_free b h (x ∷ xs) (and_parts (is_digit x && list_all is_digit xs) (not (eqb x 48 && ltb 0 (length xs))) e).0

place_free : (b : ℕ) → b < 48 → (xs : List ℕ) → is_place xs ≡ true → Free b xs
unfolding is_place
place_free b h xs e = digits_free b h xs (and_parts (eqb (length xs) 1) (list_all is_digit xs) e).1

-- a text with no b, and one that is cut at its first b
module _ (fit : List ℕ → List ℕ → Bool) (b : ℕ) (f : List ℕ) where
  pub two_none : parted b f ≡ f ∷ [] → false ≡ in_two fit (parted b f)
  unfolding in_two
  two_none e = sym (ap (in_two fit) e)

  module _ (x y : List ℕ) (e : parted b f ≡ x ∷ parted b y) where
    pub two_more : (u v : List ℕ) → parted b y ≡ u ∷ parted b v → false ≡ in_two fit (parted b f)
    unfolding in_two
    two_more u v k =
        let s = parted_some b v in
        sym (ap (in_two fit) (e ∙ ap (λ (l : List (List ℕ)). x ∷ l) (k ∙ ap (λ (l : List (List ℕ)). u ∷ l) s.is)))

    pub two_parts : parted b y ≡ y ∷ [] → fit x y ≡ in_two fit (parted b f)
    unfolding in_two
    two_parts k = sym (ap (in_two fit) (e ∙ ap (λ (l : List (List ℕ)). x ∷ l) k))

    -- where no second part that fits has a b
    two_fit : (fit x y ≡ true → Free b y) → fit x y ≡ in_two fit (parted b f)
    two_fit free = go (dec_lt (length_before b y) (length y)) (fit x y) refl
      where
        go : Dec (length_before b y < length y) → (t : Bool) → fit x y ≡ t → fit x y ≡ in_two fit (parted b f)
        go (no l) t h = two_parts (parted_none b y (omega (arith, before_le b y)))
        go (yes l) false h = h ∙ two_more _ _ (parted_at b y (length_before b y) refl (λ q. omega (arith, q)))
        go (yes l) true h = absurd (omega (arith, free_before b y (free h)))

-- the answers of `is_fraction` and `is_decimal`
module _ (f : List ℕ) where
  pub fraction_none : parted 47 f ≡ f ∷ [] → false ≡ is_fraction f
  unfolding is_fraction
  fraction_none e = two_none are_wholes 47 f e

  pub fraction_is : (x y : List ℕ) → parted 47 f ≡ x ∷ parted 47 y → (is_whole x && is_whole y) ≡ is_fraction f
  unfolding is_fraction are_wholes
  fraction_is x y e = two_fit are_wholes 47 f x y e (λ h. whole_free 47 (omega arith) y (and_parts (is_whole x) (is_whole y) h).1)

  pub decimal_none : parted 46 f ≡ f ∷ [] → false ≡ is_decimal f
  unfolding is_decimal
  decimal_none e = two_none are_whole_and_place 46 f e

  pub decimal_is : (x y : List ℕ) → parted 46 f ≡ x ∷ parted 46 y → (is_whole x && is_place y) ≡ is_decimal f
  unfolding is_decimal are_whole_and_place
  decimal_is x y e = two_fit are_whole_and_place 46 f x y e (λ h. place_free 46 (omega arith) y (and_parts (is_whole x) (is_place y) h).1)

-- ---- one test and another, as code asks them

module _ {t a : Bool} (is : t ≡ a) where
  pub and_yes : {u b : Bool} → t ≡ true → u ≡ b → u ≡ (a && b)
  and_yes {u} {b} e f = f ∙ ap (λ (z : Bool). z && b) (sym e ∙ is)

  pub and_no : (b : Bool) → t ≡ false → t ≡ (a && b)
  and_no b e = e ∙ ap (λ (z : Bool). z && b) (sym e ∙ is)

  pub or_yes : (b : Bool) → t ≡ true → t ≡ (a || b)
  or_yes b e = e ∙ ap (λ (z : Bool). z || b) (sym e ∙ is)

  pub or_no : {u b : Bool} → t ≡ false → u ≡ b → u ≡ (a || b)
  or_no {u} {b} e f = f ∙ ap (λ (z : Bool). z || b) (sym e ∙ is)

-- ---- what was cut, or not

pub cut_none : {T P : Type 0} (Q : T → Type 0) (o : Option T) → MatchOption o P Q → is_some o ≡ false → P
cut_none Q None m e = m
cut_none Q (Some x) m e = absurd (true≢false e)

pub cut_some : {T : Type 0} (P : Type 0) {Q : T → Type 0} (o : Option T) → MatchOption o P Q → is_some o ≡ true → (x : T) × Q x
cut_some P None m e = absurd (true≢false (sym e))
cut_some P (Some x) m e = (x, m)
