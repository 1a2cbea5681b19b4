-- What a line of input says. Assumes nothing.
-- `digit_std`: std's value of a digit is the same below a base up to 16. `hexing_end`: what the loop over a word's digits comes to. `kind_none`: a k
-- of no byte, or of more than two.
use mathlib.Core.Path.{◌≡◌, refl, sym, ap, ◌∙◌}
use mathlib.Core.Bool.{Bool, true, false, ◌&&◌, and-false}
use mathlib.Core.List.{List, [], ◌∷◌}
use mathlib.Core.Logic.{◌⊎◌}
use Rattle.std.specs.Char.{digit_value as std_value}
use Rattle.std.proofs.lemmas.Bool.Decides.{nat_tests}
use Rattle.std.specs.Prelude.{Option, None, Some, SomeIff}
use Prim.Native.Nat.{ℕ, ◌+◌, ◌*◌, ◌^◌, ◌≤◌, ◌<◌}
use native.Mathlib.Omega.{arith}
use native.Mathlib.Nat.{pow-suc, pow-le-pow_right}
use native.Mathlib.Numerals.{add-one}
use lib.Dec.{leb, ltb, eqb}
use lib.ListN.{length, get_or, take, drop}
use borrow.Author.Tests.{eq-eqb, ne_eqb, le-leb, lt-leb, lt-ltb, le-ltb, eqb-true, eqb-false}
use Rattle.slash.specs.Formats.{format_of}
use Rattle.text.specs.Scan.{length_before, same}
use Rattle.text.proofs.ScanLaws.{drop_past}
use Rattle.text.proofs.PartLaws.{behind, tail_is, drop_here}
use Rattle.inspect.specs.Says.{digit_value, digits_say, word_says, kind_says, fixed_name, floating_name, format_says, line_says}
use Rattle.inspect.specs.declared.said.Said.{Said}

-- ---- a digit

-- std's value of a digit is below the same bases up to 16, and there it is the same
std_below : (b base : ℕ) → base ≤ 16 → digit_value b < base → std_value b < base
unfolding digit_value
std_below b base h l = grind (arith, nat_tests)

below_std : (b base : ℕ) → base ≤ 16 → std_value b < base → (digit_value b < base) × (std_value b ≡ digit_value b)
unfolding digit_value
below_std b base h l = (grind (arith, nat_tests), grind (arith, nat_tests))

pub digit_std : (b base : ℕ) → base ≤ 16 → {c : ℕ} → c ≡ b → (o : Option ℕ) → SomeIff o (std_value c < base) (std_value c) → SomeIff o (digit_value b < base) (digit_value b)
digit_std b base h {c} e None n = λ l. n (omega (arith, std_below b base h l, ap std_value e))
digit_std b base h {c} e (Some d) s =
    let same = ap std_value e in
    let k = below_std b base h (omega (arith, s.0)) in
    (k.0, s.1 ∙ same ∙ k.1)

-- ---- a word

pub digits_nil : (v : ℕ) → digits_say v [] ≡ Said.Word v
unfolding digits_say
digits_nil v = refl

pub digits_more : (v x : ℕ) (xs : List ℕ) → digit_value x < 16 → digits_say v (x ∷ xs) ≡ digits_say (v * 16 + digit_value x) xs
unfolding digits_say
digits_more v x xs l = rw (lt-ltb _ _ l) refl

pub digits_other : (v x : ℕ) (xs : List ℕ) → 16 ≤ digit_value x → digits_say v (x ∷ xs) ≡ Said.Other
unfolding digits_say
digits_other v x xs l = rw (le-ltb _ _ l) refl

pub word_empty : (xs : List ℕ) (t : Bool) → t ≡ eqb (length xs) 0 → t ≡ true → Said.Other ≡ word_says xs
unfolding word_says
word_empty xs t te e = let z : length xs ≡ 0 = eqb-true _ _ (sym te ∙ e) in let l : length xs < 1 = omega arith in rw (lt-leb _ _ l) refl

pub word_some : (xs : List ℕ) (t : Bool) → t ≡ eqb (length xs) 0 → t ≡ false → 1 ≤ length xs
word_some xs t te e = let z = eqb-false _ _ (sym te ∙ e) in omega arith

pub word_long : (xs : List ℕ) → 16 < length xs → Said.Other ≡ word_says xs
unfolding word_says
word_long xs l = rw (lt-leb _ _ l, and-false (leb 1 (length xs))) refl

pub word_is : (xs : List ℕ) → 1 ≤ length xs → length xs ≤ 16 → digits_say 0 xs ≡ word_says xs
unfolding word_says
word_is xs h l = rw (le-leb _ _ h, le-leb _ _ l) refl

pub record Hexing (xs : List ℕ) (v i : ℕ) : Type 0 where
  pub total : digits_say 0 xs ≡ digits_say v (drop i xs)
  pub few : v < 16 ^ i

pub hexing_start : (xs : List ℕ) → Hexing xs 0 0
hexing_start xs = record { total = refl; few = omega arith }

module _ {xs : List ℕ} {v i : ℕ} (h : Hexing xs v i) (some : 1 ≤ length xs) (short : length xs ≤ 16) where
  module _ (l : i < length xs) where
    abbrev here : ℕ
    here = digit_value (get_or xs i 0)

    pub hexing_not : (here < 16 → ⊥) → Said.Other ≡ word_says xs
    hexing_not n =
        sym (digits_other v (get_or xs i 0) (drop (i + 1) xs) (omega arith)) ∙ ap (digits_say v) (sym (drop_here xs i l)) ∙ sym h.total
        ∙ word_is xs some short

    module _ {d : ℕ} (n : (here < 16) × (d ≡ here)) where
      pub hexing_small : v * 16 + d < 2 ^ 64
      hexing_small =
          let most : 16 ^ i ≤ 16 ^ 15 = pow-le-pow_right {n = 16} (omega arith) {i = i} {j = 15} (omega arith) in
          omega (arith, h.few)

      pub hexing_next : Hexing xs (v * 16 + d) (i + 1)
      hexing_next =
          record {
            total =
                h.total ∙ ap (digits_say v) (drop_here xs i l) ∙ digits_more v (get_or xs i 0) (drop (i + 1) xs) n.0
                ∙ ap (λ (y : ℕ). digits_say (v * 16 + y) (drop (i + 1) xs)) (sym n.1);
            few = omega (arith, h.few, pow-suc 16 i, ap (λ (j : ℕ). 16 ^ j) (add-one i));
          }

  pub hexing_end : i ≡ length xs → Said.Word v ≡ word_says xs
  hexing_end l =
      sym (digits_nil v) ∙ ap (digits_say v) (sym (drop_past xs i (omega arith))) ∙ sym h.total ∙ word_is xs some short

-- ---- a format

module _ (kind x : ℕ) where
  pub one_not : (digit_value x < 10 → ⊥) → Said.Other ≡ kind_says kind (x ∷ [])
  unfolding kind_says
  one_not n = rw (le-ltb (digit_value x) 10 (omega arith)) refl

  pub one_is : {k : ℕ} → (digit_value x < 10) × (k ≡ digit_value x) → Said.Format (format_of kind k) ≡ kind_says kind (x ∷ [])
  unfolding kind_says
  one_is d = rw (d.1, lt-ltb _ _ d.0) refl

  module _ (y : ℕ) where
    pub two_not : (digit_value x < 10 → ⊥) → Said.Other ≡ kind_says kind (x ∷ y ∷ [])
    unfolding kind_says
    two_not n = rw (le-ltb (digit_value x) 10 (omega arith), and-false (ltb 0 (digit_value x))) refl

    pub two_second_not : (digit_value y < 10 → ⊥) → Said.Other ≡ kind_says kind (x ∷ y ∷ [])
    unfolding kind_says
    two_second_not n = rw (le-ltb (digit_value y) 10 (omega arith), and-false (ltb 0 (digit_value x) && ltb (digit_value x) 10)) refl

    module _ {tens ones : ℕ} (d : (digit_value x < 10) × (tens ≡ digit_value x)) (e : (digit_value y < 10) × (ones ≡ digit_value y)) where
      pub two_zero : tens ≡ 0 → Said.Other ≡ kind_says kind (x ∷ y ∷ [])
      unfolding kind_says
      two_zero z = rw (le-ltb 0 (digit_value x) (omega arith)) refl

      pub two_are : (tens ≡ 0 → ⊥) → Said.Format (format_of kind (tens * 10 + ones)) ≡ kind_says kind (x ∷ y ∷ [])
      unfolding kind_says
      two_are z = rw (d.1, e.1, lt-ltb 0 (digit_value x) (omega arith), lt-ltb _ _ d.0, lt-ltb _ _ e.0) refl

pub kind_none : (kind : ℕ) (xs : List ℕ) → (length xs < 1) ⊎ (2 < length xs) → Said.Other ≡ kind_says kind xs
unfolding kind_says
kind_none kind [] h = refl
kind_none kind (x ∷ []) h = absurd (omega arith)
kind_none kind (x ∷ y ∷ []) h = absurd (omega arith)
kind_none kind (x ∷ y ∷ z ∷ xs) h = refl

module _ (name k : List ℕ) (t : Bool) (te : t ≡ same name fixed_name) where
  pub format_fixed : t ≡ true → {r : Said} → r ≡ kind_says 1 k → r ≡ format_says name k
  unfolding format_says
  format_fixed e h = rw (← te, e) h

  module _ (n : t ≡ false) (u : Bool) (ue : u ≡ same name floating_name) where
    pub format_floating : u ≡ true → {r : Said} → r ≡ kind_says 2 k → r ≡ format_says name k
    unfolding format_says
    format_floating e h = rw (← te, n, ← ue, e) h

    pub format_none : u ≡ false → Said.Other ≡ format_says name k
    unfolding format_says
    format_none e = rw (← te, n, ← ue, e) refl

-- ---- a line

pub line_unended : (line : List ℕ) → 32 < length line → Said.Unended ≡ line_says line
unfolding line_says
line_unended line l = rw (lt-ltb _ _ l) refl

module _ (line : List ℕ) (i : ℕ) (ie : i ≡ length_before 32 line) where
  pub line_word : length line ≤ 32 → i ≡ length line → {r : Said} → r ≡ word_says line → r ≡ line_says line
  unfolding line_says
  line_word l e h = rw (le-ltb _ _ l, ← ie, eq-eqb _ _ e) h

  pub line_format : length line ≤ 32 → (i ≡ length line → ⊥) → {r : Said} → r ≡ format_says (take i line) (behind i line) → r ≡ line_says line
  unfolding line_says
  line_format l n h = rw (le-ltb _ _ l, ← ie, ne_eqb _ _ n) (h ∙ ap (format_says (take i line)) (tail_is (i + 1) line))
