-- The lines of a listing. Assumes nothing.
-- `printed_nearest`: the percentage of every word that a line shows is of the whole number nearest to 1000 times its fraction, at a tie the even
-- one. `most_bytes_lem`: no line that a listing has is of more than 33 bytes. `refused_most`: the line of a stop has at most 50, for any 64-bit numbers.
-- `line_stored`, `line_no_room`, `line_no_name`, `line_not_printable`: what `put_line` stores, and where it stores nothing.
use mathlib.Core.Path.{◌≡◌, refl, sym, ap, ◌∙◌, subst}
use mathlib.Core.Bool.{true, false, ◌&&◌, and-eq-true_iff, and-false}
use mathlib.Core.List.{List, [], ◌∷◌, ◌++◌}
use Prim.Native.Nat.{ℕ, suc, ◌+◌, ◌-◌, ◌^◌, ◌≤◌, ◌<◌}
use native.Mathlib.Omega.{arith}
use lib.Dec.{leb, ltb}
use lib.ListN.{length, drop, length-append}
use borrow.Author.Tests.{leb-true, ltb-true, le-leb, lt-leb, lt-ltb}
use Rattle.convergents.specs.Pairs.{Pair}
use Rattle.breaths.specs.Ratios.{fraction_of}
use Rattle.breaths.specs.Steps.{Proportion, PrintableRatio}
use Rattle.breaths.specs.declared.ratio.Ratio.{Ratio}
use Rattle.breaths.specs.declared.ratio.Ratio.TheVariants.{Void, Word}
use Rattle.text.specs.Numbers.{tab, line_feed, decimal}
use Rattle.text.specs.Columns.{thousandths, percentage, fraction_text, fraction_and_percentage, columns}
use Rattle.text.specs.Lines.{name_text, line_of, refused_line, is_name, is_printable, line_in}
use Rattle.text.specs.Steps.{Room}
use Rattle.text.specs.Stores.{Stored, at_start}
use Rattle.text.specs.declared.line.Name.{Name}
use Rattle.text.specs.declared.line.Name.TheVariants.{Number, All}
use Rattle.text.proofs.NumberLaws.{put_front, store_none, stored_as, room_first, decimal_length}
use Rattle.text.proofs.ColumnLaws.{NearestEven, nearest_even, word_shares, columns_length}

-- ---- names

module _ (name : Name) where
  pub name_number : (n : ℕ) → name ≡ Number n → decimal n ≡ name_text name
  unfolding name_text
  name_number n e = rw e refl

  pub name_all : name ≡ All → (97 ∷ 108 ∷ 108 ∷ []) ≡ name_text name
  unfolding name_text
  name_all e = rw e refl

  pub is_number : (n : ℕ) → name ≡ Number n → (leb 1 n && leb n 65536) ≡ is_name name
  unfolding is_name
  is_number n e = rw e refl

  pub is_all : name ≡ All → true ≡ is_name name
  unfolding is_name
  is_all e = rw e refl

  pub number_small : (n : ℕ) → name ≡ Number n → is_name name ≡ true → n < 100000
  number_small n e h =
      let l : n ≤ 65536 = leb-true _ _ ((and-eq-true_iff (leb 1 n) (leb n 65536)).0 (is_number n e ∙ h)).1 in
      omega arith

-- a number from 1 to 65,536
pub number_name : (n : ℕ) → 1 ≤ n → n ≤ 65536 → is_name (Number n) ≡ true
unfolding is_name
number_name n i j = rw (le-leb _ _ i, le-leb _ _ j) refl

-- ---- ratios

pub printable_is : (r : Ratio) → PrintableRatio r → is_printable r ≡ true
unfolding is_printable
printable_is Void s = refl
printable_is (Word w) s = rw (lt-ltb _ _ s.unsigned, le-leb _ _ s.some, le-leb _ _ s.proper) refl

word_proportion : (w : ℕ) → is_printable (Word w) ≡ true → Proportion w
unfolding is_printable
word_proportion w e =
    let n : ℕ = (fraction_of w).numerator in
    let d : ℕ = (fraction_of w).denominator in
    let halves = (and-eq-true_iff (ltb w (2 ^ 31)) (leb 1 d && leb n d)).0 e in
    let parts = (and-eq-true_iff (leb 1 d) (leb n d)).0 halves.1 in
    record { unsigned = ltb-true _ _ halves.0; some = leb-true _ _ parts.0; proper = leb-true _ _ parts.1 }

pub is_printable_lem : (r : Ratio) → is_printable r ≡ true → PrintableRatio r
is_printable_lem Void e = tt
is_printable_lem (Word w) e = word_proportion w e

-- What stands behind a word: its fraction, and as a percentage the whole number t that is nearest to 1000 times that fraction, at a tie the even one.
pub record NearestPrinted (w : ℕ) : Type 0 where
  pub t : ℕ
  pub text : fraction_and_percentage (Word w) ≡ fraction_text (fraction_of w) ++ tab ++ percentage t
  pub nearest : NearestEven (fraction_of w).numerator (fraction_of w).denominator t

-- It is so of every word that a line shows.
pub printed_nearest : (w : ℕ) → is_printable (Word w) ≡ true → NearestPrinted w
printed_nearest w e =
    let x : Pair = fraction_of w in
    let t : ℕ = thousandths x.numerator x.denominator in
    record { t = t; text = sym (word_shares w _ _ refl t refl); nearest = nearest_even _ _ (word_proportion w e).some }

-- ---- lines

pub line_parts : (name : Name) (r : Ratio) → name_text name ++ tab ++ columns r ++ line_feed ≡ line_of name r
unfolding line_of
line_parts name r = refl

pub refused_line_lem : (stop line : ℕ)
    → (114 ∷ 101 ∷ 102 ∷ 117 ∷ 115 ∷ 101 ∷ 100 ∷ 9 ∷ []) ++ decimal stop ++ tab ++ decimal line ++ line_feed ≡ refused_line stop line
unfolding refused_line
refused_line_lem stop line = refl

-- room for a line is room for the text that it begins with
pub refused_room : {o : List ℕ} {k : ℕ} (stop line : ℕ) → Room o k (refused_line stop line) → Room o k (114 ∷ 101 ∷ 102 ∷ 117 ∷ 115 ∷ 101 ∷ 100 ∷ 9 ∷ [])
unfolding refused_line
refused_room stop line h = room_first (decimal stop) (room_first tab (room_first (decimal line) (room_first line_feed h)))

-- ---- how long they are

line_length : (name : Name) (r : Ratio) (m : ℕ) → length (name_text name) ≤ m → PrintableRatio r → length (line_of name r) ≤ m + 28
unfolding line_of
line_length name r m h s =
    let t : List ℕ = name_text name in
    let c : List ℕ = columns r in
    omega (arith, length-append (t ++ tab ++ c) line_feed, length-append (t ++ tab) c, length-append t tab, columns_length r s)

-- a number of j + 1 digits
pub number_length : (j n : ℕ) (r : Ratio) → n < 10 ^ suc j → PrintableRatio r → length (line_of (Number n) r) ≤ 29 + j
number_length j n r h s =
    let t : length (name_text (Number n)) ≤ suc j = subst (λ (u : List ℕ). length u ≤ suc j) (name_number (Number n) n refl) (decimal_length j n h) in
    omega (arith, line_length (Number n) r (suc j) t s)

pub all_length : (r : Ratio) → PrintableRatio r → length (line_of All r) ≤ 31
all_length r s = line_length All r 3 (omega (arith, ap length (name_all All refl))) s

-- no line has more than 33 bytes
pub most_bytes_lem : (name : Name) (r : Ratio) → is_name name ≡ true → PrintableRatio r → length (line_of name r) ≤ 33
most_bytes_lem (Number n) r h s = number_length 4 n r (number_small (Number n) n refl h) s
most_bytes_lem All r h s = omega (arith, all_length r s)

-- a number of 64 bits has at most 20 digits
pub refused_length : (stop line : ℕ) (i j : ℕ) → stop < 10 ^ suc i → line < 10 ^ suc j → length (refused_line stop line) ≤ 12 + i + j
unfolding refused_line
refused_length stop line i j s l =
    let refused : List ℕ = 114 ∷ 101 ∷ 102 ∷ 117 ∷ 115 ∷ 101 ∷ 100 ∷ 9 ∷ [] in
    omega (
      arith,
      length-append (refused ++ decimal stop ++ tab ++ decimal line) line_feed,
      length-append (refused ++ decimal stop ++ tab) (decimal line),
      length-append (refused ++ decimal stop) tab,
      length-append refused (decimal stop),
      decimal_length i stop s,
      decimal_length j line l,
    )

pub refused_most : (stop line : ℕ) → stop < 2 ^ 64 → line < 2 ^ 64 → length (refused_line stop line) ≤ 50
refused_most stop line s l = refused_length stop line 19 19 (omega arith) (omega arith)

-- text that stands at the start of a list
pub stored_start : {o t o' : List ℕ} {k : ℕ} → Stored o 0 t o' k → length t ≤ length o → (k ≡ length t) × (o' ≡ at_start t o)
stored_start {o} {t} s h = (omega (arith, s.next), s.bytes ∙ put_front o t h)

-- which is within the list
pub text_within : (t o o' : List ℕ) (k : ℕ) → k ≡ length t → o' ≡ at_start t o → k ≤ length o'
text_within t o o' k e f = omega (arith, ap length f, length-append t (drop (length t) o))

pub refused_within : (number place : ℕ) (o o' : List ℕ) (k : ℕ) → (k ≡ length (refused_line number place)) × (o' ≡ at_start (refused_line number place) o) → k ≤ length o'
refused_within number place o o' k e = text_within (refused_line number place) o o' k e.0 e.1

-- ---- which are stored

module _ (o : List ℕ) (at : ℕ) (name : Name) (r : Ratio) where
  -- nothing
  none : line_in (length o - at) name r ≡ [] → Stored o at (line_in (length o - at) name r) o at
  none e = stored_as (sym e) (store_none o at)

  pub line_no_room : length o - at < 33 → Stored o at (line_in (length o - at) name r) o at
  unfolding line_in
  line_no_room h = none (rw (lt-leb _ _ h) refl)

  pub line_no_name : is_name name ≡ false → Stored o at (line_in (length o - at) name r) o at
  unfolding line_in
  line_no_name e = none (rw (e, and-false (leb 33 (length o - at))) refl)

  pub line_not_printable : is_printable r ≡ false → Stored o at (line_in (length o - at) name r) o at
  unfolding line_in
  line_not_printable e = none (rw (e, and-false (is_name name), and-false (leb 33 (length o - at))) refl)

  -- the line
  module _ (h : 33 ≤ length o - at) (n : is_name name ≡ true) (s : is_printable r ≡ true) where
    pub line_is : line_of name r ≡ line_in (length o - at) name r
    unfolding line_in
    line_is = rw (le-leb _ _ h, n, s) refl

    pub line_room : Room o at (line_of name r)
    line_room = record { room = omega (arith, most_bytes_lem name r n (is_printable_lem r s)) }

    pub line_stored : {o' : List ℕ} {k : ℕ} → Stored o at (line_of name r) o' k → Stored o at (line_in (length o - at) name r) o' k
    line_stored t = stored_as line_is t
