-- A line of a listing. Assumes nothing.
-- `entry_breath`, `entry_total`: a printed line is taken, as its word. `entry_only`: and no other line is. `there_agrees`: a text begins with a
-- printed line just where its first line, and the line feed behind it, is that line.
use Rattle.std.proofs.Common.{◌≡◌, ℕ, zero, suc, ◌+◌, ◌-◌, ◌*◌, ◌/◌, ◌%◌, ◌^◌, ◌<◌, ◌≤◌, Bool, true, false, ◌&&◌, eqb, leb, List, [], ◌∷◌, ◌++◌, length, get_or, take, drop, sym, refl, ap, ◌∙◌, subst, append_assoc, mod-lt, pow-suc, zero-add, add-one, arith, length-append, take-append-drop, length-take, length-take-le, take-suc, take-take, take_at, eq-eqb, ne_eqb, le-leb, leb-true}
use mathlib.Core.Bool.{and-true, and-false, false≢true}
use native.Mathlib.Nat.{pow-le-pow_right}
use native.Mathlib.Decide.{dec_lt, ℕ_discrete}
use borrow.Author.Tests.{lt-leb, eqb-false}
use Rattle.std.specs.Prelude.{if◌then◌else◌, Option, Some, None, Err}
use Rattle.convergents.specs.Pairs.{differs}
use Rattle.convergents.specs.Convergents.{euclid, quotients, recurrence, convergents}
use Rattle.convergents.specs.Rounding.{held, last_held, round}
use Rattle.slash.specs.Answers.{Outcome, stop, done}
use Rattle.slash.specs.declared.answer.Stop.{Stop}
use Rattle.slash.specs.Bits.{bits, bit, bit_of, word_of_fields}
use Rattle.slash.specs.Formats.{holds}
use Rattle.slash.specs.Reading.{fixed_value, fixed_number, number_of}
use Rattle.slash.specs.Writing.{fixed_word, pair_word, word_for}
use Rattle.slash.specs.Numbers.{pair_of}
use Rattle.slash.proofs.AnswerLaws.{done_inj, no_stop}
use Rattle.breaths.specs.Ratios.{word_of, ratio_of, fraction_of}
use Rattle.breaths.specs.declared.ratio.Ratio.{Ratio}
use Rattle.breaths.specs.declared.ratio.Ratio.TheVariants.{Void}
use Rattle.breaths.proofs.RatioLaws.{of_zero, of_some, word_of_ratio}
use Rattle.text.specs.Numbers.{line_feed, decimal_from, decimal, hex_digit, hexadecimal}
use Rattle.text.specs.Scan.{is_digit, same, length_before, parted}
use Rattle.text.specs.Columns.{thousandths, percentage, fraction_text, fraction_and_percentage, columns}
use Rattle.text.specs.Lines.{name_text, line_of, is_name, is_printable, line_in}
use Rattle.text.specs.Stores.{Stored, put}
use Rattle.text.specs.declared.line.Name.{Name}
use Rattle.text.specs.declared.line.Name.TheVariants.{Number, All}
use Rattle.text.proofs.NumberLaws.{decimal_small, decimal_more, decimal_length, put_front, stored_length}
use Rattle.text.proofs.ScanLaws.{drop_past}
use Rattle.text.proofs.PartLaws.{and_parted, drop_here, same_refl, same_is, same_not, same_differ, before_at, at_before}
use Rattle.text.proofs.LineLaws.{name_number, name_all, line_parts, line_is, printable_is, is_printable_lem, most_bytes_lem}
use Rattle.shapes.specs.Fields.{is_whole, is_place, in_two, are_wholes, is_fraction, are_whole_and_place, is_decimal}
use Rattle.shapes.specs.Words.{is_hex_digit, is_word, hex_value, hex_from, word_in}
use Rattle.shapes.specs.Shapes.{is_named, are_columns, shape_of_fields, shape_of}
use Rattle.shapes.specs.declared.shape.Said.{Said}
use Rattle.shapes.proofs.FieldLaws.{whole_decimal}
use Rattle.shapes.proofs.WordLaws.{hex_low, hex_high}
use Rattle.shapes.proofs.ShapeLaws.{body_of, line_shaped, line_free, name_within}
use Rattle.loading.specs.Listable.{is_canonical, listable}
use Rattle.loading.specs.declared.line.Entry.{Entry}
use Rattle.loading.specs.Lines.{agreeing, total_at, in_sequence, entry_of}
use Rattle.loading.specs.Steps.{digit_value, word_from, begins, line_there}
use Rattle.loading.proofs.ListableLaws.{listable_zero, listable_small, listable_printable}

-- ---- examples

-- `all` as the first line, of another total than void: 14. (The bytes of all, 00010002, 1/2 and 50.0, tab-parted. What makes and prints a word
-- is unfolded so that a definition which takes this line is shown to take it.)
pub other_total_first : (let line : List ℕ = 97 ∷ 108 ∷ 108 ∷ 9 ∷ 48 ∷ 48 ∷ 48 ∷ 49 ∷ 48 ∷ 48 ∷ 48 ∷ 50 ∷ 9 ∷ 49 ∷ 47 ∷ 50 ∷ 9 ∷ 53 ∷ 48 ∷ 46 ∷ 48 ∷ [] in entry_of 1 (shape_of line) line ≡ stop 14 1)
unfolding shape_of shape_of_fields parted is_named is_whole is_digit is_word is_hex_digit word_in hex_from hex_value in_two are_columns is_fraction are_wholes is_decimal are_whole_and_place is_place same name_text entry_of in_sequence total_at decimal decimal_from listable is_printable is_canonical ratio_of fraction_of line_of columns hexadecimal hex_digit fraction_and_percentage fraction_text percentage thousandths word_of word_for pair_word fixed_word word_of_fields bit_of pair_of number_of fixed_number fixed_value bits bit round last_held held convergents recurrence quotients euclid differs holds
other_total_first = refl

-- The void one: taken. (Those of all, 00000000 and two hyphens.)
pub void_total_first : (let line : List ℕ = 97 ∷ 108 ∷ 108 ∷ 9 ∷ 48 ∷ 48 ∷ 48 ∷ 48 ∷ 48 ∷ 48 ∷ 48 ∷ 48 ∷ 9 ∷ 45 ∷ 9 ∷ 45 ∷ [] in entry_of 1 (shape_of line) line ≡ done (Entry.Total 0))
unfolding shape_of shape_of_fields parted is_named is_whole is_digit is_word is_hex_digit word_in hex_from hex_value in_two are_columns same name_text entry_of in_sequence total_at listable ratio_of line_of columns hexadecimal hex_digit fraction_and_percentage word_of
void_total_first = refl

-- The line of a void breath with a fraction: 15. (The bytes of 1, 00000000, 0/1 and 0.0, tab-parted.)
pub void_with_a_fraction : (let line : List ℕ = 49 ∷ 9 ∷ 48 ∷ 48 ∷ 48 ∷ 48 ∷ 48 ∷ 48 ∷ 48 ∷ 48 ∷ 9 ∷ 48 ∷ 47 ∷ 49 ∷ 9 ∷ 48 ∷ 46 ∷ 48 ∷ [] in entry_of 1 (shape_of line) line ≡ stop 15 1)
unfolding shape_of shape_of_fields parted is_named is_whole is_digit is_word is_hex_digit word_in hex_from hex_value in_two are_columns is_fraction are_wholes is_decimal are_whole_and_place is_place same name_text entry_of in_sequence agreeing decimal decimal_from listable ratio_of line_of columns hexadecimal hex_digit fraction_and_percentage word_of
void_with_a_fraction = refl

-- ---- a printed line is taken

-- a number isn't `all`
not_whole : is_whole (97 ∷ 108 ∷ 108 ∷ []) ≡ false
unfolding is_whole is_digit
not_whole = refl

number_not_all : (n : ℕ) → same (name_text (Number n)) (name_text All) ≡ false
number_not_all n =
    same_differ _ _ (λ e. false≢true (
    sym not_whole ∙ ap is_whole (name_all All refl ∙ sym e ∙ sym (name_number (Number n) n refl)) ∙ whole_decimal n))

-- a printed line without its line feed, and with it
body_line : (name : Name) (r : Ratio) → body_of name r ++ line_feed ≡ line_of name r
body_line name r = line_parts name r

module _ (n w : ℕ) (l : listable w ≡ true) where
  small : word_of (ratio_of w) < 2 ^ 31
  small = omega (arith, word_of_ratio w, listable_small w l)

  agreed : (name : Name) (e : Entry) → agreeing n (body_of name (ratio_of w)) name w e ≡ done e
  unfolding agreeing
  agreed name e = rw (l, body_line name (ratio_of w), same_refl (line_of name (ratio_of w))) refl

  shaped : (name : Name) → shape_of (body_of name (ratio_of w)) ≡ Some (record { name = length (name_text name); word = w })
  shaped name =
      line_shaped name (ratio_of w) small
      ∙ ap (λ (v : ℕ). Some (record { name = length (name_text name); word = v })) (word_of_ratio w)

  named : (name : Name) → take (length (name_text name)) (body_of name (ratio_of w)) ≡ name_text name
  named name =
      ap (take (length (name_text name))) (append_assoc (name_text name) _ _)
      ∙ take_at (name_text name) _ (length (name_text name)) refl

  in_entry : (name : Name) → entry_of n (shape_of (body_of name (ratio_of w))) (body_of name (ratio_of w)) ≡ in_sequence n (body_of name (ratio_of w)) (name_text name) w
  unfolding entry_of
  in_entry name =
      ap (λ (s : Option Said). entry_of n s (body_of name (ratio_of w))) (shaped name)
      ∙ ap (λ (u : List ℕ). in_sequence n (body_of name (ratio_of w)) u w) (named name)

  pub entry_breath : n ≤ 65536 → entry_of n (shape_of (body_of (Number n) (ratio_of w))) (body_of (Number n) (ratio_of w)) ≡ done (Entry.Breath w)
  unfolding in_sequence
  entry_breath h =
      in_entry (Number n) ∙ rw (number_not_all n, same_refl (name_text (Number n)), le-leb _ _ h) (agreed (Number n) (Entry.Breath w))

  -- the first line's total is void
  total_good : (n ≡ 1 → w ≡ 0) → total_at n (body_of All (ratio_of w)) w ≡ done (Entry.Total w)
  unfolding total_at
  total_good h = go (ℕ_discrete n 1)
    where
      go : Dec (n ≡ 1)
          → (if eqb n 1 then (if same (body_of All (ratio_of w) ++ line_feed) (line_of All Void) then done (Entry.Total 0) else stop 14 n) else agreeing n (body_of All (ratio_of w)) All w (Entry.Total w))
          ≡ done (Entry.Total w)
      go (yes e) =
          let line : body_of All (ratio_of w) ++ line_feed ≡ line_of All Void = body_line All (ratio_of w) ∙ ap (line_of All) (sym (of_zero w (h e))) in
          rw (eq-eqb n 1 e, line, same_refl (line_of All Void)) (ap (λ (v : ℕ). done (Entry.Total v)) (sym (h e)))
      go (no e) = rw (ne_eqb n 1 e) (agreed All (Entry.Total w))

  pub entry_total : (n ≡ 1 → w ≡ 0) → entry_of n (shape_of (body_of All (ratio_of w))) (body_of All (ratio_of w)) ≡ done (Entry.Total w)
  unfolding in_sequence
  entry_total h = in_entry All ∙ rw (same_refl (name_text All)) (total_good h)

-- ---- and no other is

abbrev pub Taken : ℕ → List ℕ → Entry → Type 0
Taken n line (Entry.Breath w) = (line ++ line_feed ≡ line_of (Number n) (ratio_of w)) × (listable w ≡ true) × (n ≤ 65536)
Taken n line (Entry.Total w) = (line ++ line_feed ≡ line_of All (ratio_of w)) × (listable w ≡ true) × (n ≡ 1 → w ≡ 0)

agreeing_only : (n : ℕ) (line : List ℕ) (name : Name) (w : ℕ) (e f : Entry) → agreeing n line name w e ≡ done f
    → (e ≡ f) × (listable w ≡ true) × (line ++ line_feed ≡ line_of name (ratio_of w))
unfolding agreeing
agreeing_only n line name w e f h = go (listable w) refl (same (line ++ line_feed) (line_of name (ratio_of w))) refl h
  where
    go : (s : Bool) → listable w ≡ s → (t : Bool) → same (line ++ line_feed) (line_of name (ratio_of w)) ≡ t → (if s && t then done e else stop 15 n) ≡ done f
        → (e ≡ f) × (listable w ≡ true) × (line ++ line_feed ≡ line_of name (ratio_of w))
    go true i true j g = (done_inj g, i, same_is (line ++ line_feed) (line_of name (ratio_of w)) j)
    go true i false j g = absurd (no_stop g)
    go false i t j g = absurd (no_stop g)

total_only : (n : ℕ) (line : List ℕ) (w : ℕ) (e : Entry) → total_at n line w ≡ done e → Taken n line e
unfolding total_at
total_only n line w e h = go (eqb n 1) refl (same (line ++ line_feed) (line_of All Void)) refl h
  where
    go : (t : Bool) → eqb n 1 ≡ t → (s : Bool) → same (line ++ line_feed) (line_of All Void) ≡ s
        → (if t then (if s then done (Entry.Total 0) else stop 14 n) else agreeing n line All w (Entry.Total w)) ≡ done e
        → Taken n line e
    go true j true i g =
        let void : line ++ line_feed ≡ line_of All (ratio_of 0) = same_is _ _ i ∙ ap (line_of All) (of_zero 0 refl) in
        subst (Taken n line) (done_inj g) (void, sym (listable_zero 0 refl), λ o. refl)
    go true j false i g = absurd (no_stop g)
    go false j s i g =
        let x = agreeing_only n line All w (Entry.Total w) e g in
        subst (Taken n line) x.0 (x.2, x.1, λ o. absurd (eqb-false n 1 j o))

sequence_only : (n : ℕ) (line a : List ℕ) (w : ℕ) (e : Entry) → in_sequence n line a w ≡ done e → Taken n line e
unfolding in_sequence
sequence_only n line a w e h = go (same a (name_text All)) (same a (name_text (Number n))) (leb n 65536) refl h
  where
    go : (s u v : Bool) → leb n 65536 ≡ v
        → (if s then total_at n line w else (if u && v then agreeing n line (Number n) w (Entry.Breath w) else stop 14 n)) ≡ done e
        → Taken n line e
    go true u v m g = total_only n line w e g
    go false true true m g =
        let x = agreeing_only n line (Number n) w (Entry.Breath w) e g in
        subst (Taken n line) x.0 (x.2, x.1, leb-true _ _ m)
    go false true false m g = absurd (no_stop g)
    go false false v m g = absurd (no_stop g)

pub entry_only : (n : ℕ) (s : Option Said) (line : List ℕ) (e : Entry) → entry_of n s line ≡ done e → Taken n line e
unfolding entry_of
entry_only n None line e h = absurd (no_stop h)
entry_only n (Some x) line e h = sequence_only n line (take x.name line) x.word e h

-- `all` as the first line, which has the shape and isn't that of no breaths: 14.
pub first_other : (line : List ℕ) (x : Said) → shape_of line ≡ Some x → take x.name line ≡ name_text All → (line ++ line_feed ≡ line_of All Void → ⊥)
    → entry_of 1 (shape_of line) line ≡ stop 14 1
unfolding entry_of in_sequence total_at
first_other line x s n d =
    ap (λ (y : Option Said). entry_of 1 y line) s ∙ ap (λ (u : List ℕ). in_sequence 1 line u x.word) n
    ∙ rw (same_refl (name_text All), same_differ (line ++ line_feed) (line_of All Void) d) refl

-- ---- how many digits a number has

pow_some : (j : ℕ) → 1 ≤ 10 ^ j
pow_some zero = omega arith
pow_some (suc j) = omega (arith, pow-suc 10 j, pow_some j)

pub digits_are : (j n : ℕ) → 10 ^ j ≤ n → n < 10 ^ suc j → suc j ≡ length (decimal n)
digits_are zero n l h = ap length (decimal_small n (48 + n) (omega arith) refl)
digits_are (suc j) n l h =
    let more : 10 ≤ n = omega (arith, pow-suc 10 j, pow_some j) in
    let low : 10 ^ j ≤ n / 10 = omega (arith, pow-suc 10 j) in
    let high : n / 10 < 10 ^ suc j = omega (arith, pow-suc 10 (suc j)) in
    let e : length (decimal n) ≡ length (decimal (n / 10)) + 1 =
    ap length (sym (decimal_more n (48 + n % 10) more refl)) ∙ length-append (decimal (n / 10)) ((48 + n % 10) ∷ [])
    in
    omega (arith, e, digits_are j (n / 10) low high)

pub digits_one : (n : ℕ) → n < 10 → 1 ≡ length (decimal n)
digits_one n h = ap length (decimal_small n (48 + n) h refl)

pub digits_most : (n : ℕ) → n ≤ 65536 → length (decimal n) ≤ 5
digits_most n h = decimal_length 4 n (omega arith)

-- ---- a number, its last digit first

snoc_some : (xs : List ℕ) (x : ℕ) → length (xs ++ (x ∷ [])) ≡ 0 → ⊥
snoc_some xs x e = omega (arith, length-append xs (x ∷ []))

nil_snoc : (ys : List ℕ) (y : ℕ) → same [] (ys ++ (y ∷ [])) ≡ false
nil_snoc ys y = sym (same_not [] (ys ++ (y ∷ [])) (λ e. snoc_some ys y (sym e)))

snoc_nil : (xs : List ℕ) (x : ℕ) → same (xs ++ (x ∷ [])) [] ≡ false
snoc_nil xs x = sym (same_not (xs ++ (x ∷ [])) [] (snoc_some xs x))

same_snoc : (xs ys : List ℕ) (x y : ℕ) → same (xs ++ (x ∷ [])) (ys ++ (y ∷ [])) ≡ (same xs ys && eqb x y)
unfolding same
same_snoc [] [] x y = and-true (eqb x y)
same_snoc [] (b ∷ ys) x y = ap (λ (t : Bool). eqb x b && t) (nil_snoc ys y) ∙ and-false (eqb x b)
same_snoc (a ∷ xs) [] x y = ap (λ (t : Bool). eqb a y && t) (snoc_nil xs x) ∙ and-false (eqb a y)
same_snoc (a ∷ xs) (b ∷ ys) x y = ap (λ (t : Bool). eqb a b && t) (same_snoc xs ys x y) ∙ and_parted (eqb a b) (same xs ys) (eqb x y)

module _ (m : ℕ) (more : 10 ≤ m) where
  digits : decimal m ≡ decimal (m / 10) ++ ((48 + m % 10) ∷ [])
  digits = sym (decimal_more m (48 + m % 10) more refl)

  pub number_none : (f : List ℕ) → length f ≡ 0 → same f (decimal m) ≡ false
  number_none [] e = ap (same []) digits ∙ nil_snoc (decimal (m / 10)) (48 + m % 10)
  number_none (x ∷ xs) e = absurd (omega arith)

  module _ (f xs : List ℕ) (x : ℕ) (l : f ≡ xs ++ (x ∷ [])) where
    number_last : (t : Bool) → eqb x (48 + m % 10) ≡ t → same f (decimal m) ≡ (same xs (decimal (m / 10)) && t)
    number_last t e =
        ap (λ (u : List ℕ). same u (decimal m)) l ∙ ap (same (xs ++ (x ∷ []))) digits
        ∙ same_snoc xs (decimal (m / 10)) x (48 + m % 10) ∙ ap (λ (b : Bool). same xs (decimal (m / 10)) && b) e

    pub number_differs : (x ≡ 48 + m % 10 → ⊥) → same f (decimal m) ≡ false
    number_differs d = number_last false (ne_eqb _ _ d) ∙ and-false (same xs (decimal (m / 10)))

    pub number_before : x ≡ 48 + m % 10 → same f (decimal m) ≡ same xs (decimal (m / 10))
    number_before e = number_last true (eq-eqb _ _ e) ∙ and-true (same xs (decimal (m / 10)))

module _ (f : List ℕ) (m : ℕ) (last : m < 10) where
  digit : decimal m ≡ (48 + m) ∷ []
  digit = sym (decimal_small m (48 + m) last refl)

  pub number_long : (length f ≡ 1 → ⊥) → false ≡ same f (decimal m)
  number_long z = same_not f ((48 + m) ∷ []) z ∙ sym (ap (same f) digit)

pub number_one : (f : List ℕ) (m : ℕ) → m < 10 → length f ≡ 1 → eqb (get_or f 0 0) (48 + m) ≡ same f (decimal m)
unfolding same
number_one [] m l z = absurd (omega arith)
number_one (x ∷ []) m l z = sym (and-true (eqb x (48 + m))) ∙ ap (same (x ∷ [])) (decimal_small m (48 + m) l refl)
number_one (x ∷ y ∷ xs) m l z = absurd (omega arith)

-- ---- the word of eight digits

digit_back : (d : ℕ) → d < 16 → digit_value (hex_digit d) ≡ d
digit_back d h = go (dec_lt d 10)
  where
    go : Dec (d < 10) → digit_value (hex_digit d) ≡ d
    go (yes l) = omega (arith, hex_low d l)
    go (no l) = omega (arith, hex_high d (omega arith))

from_last : (v : ℕ) (t : List ℕ) (x : ℕ) → word_from v (t ++ (x ∷ [])) ≡ word_from v t * 16 + digit_value x
unfolding word_from
from_last v [] x = refl
from_last v (y ∷ t) x = from_last (v * 16 + digit_value y) t x

from_back : (c n : ℕ) → n < 16 ^ c → word_from 0 (hexadecimal c n) ≡ n
unfolding hexadecimal word_from
from_back zero n h = omega arith
from_back (suc c) n h =
    let l : n / 16 < 16 ^ c = omega (arith, pow-suc 16 c) in
    let m : n % 16 < 16 = mod-lt n (omega arith) in
    from_last 0 (hexadecimal c (n / 16)) (hex_digit (n % 16)) ∙ rw (from_back c (n / 16) l, digit_back (n % 16) m) (omega arith)

-- The word is found again in the digits that are printed of it.
pub digits_back : (w : ℕ) → w < 2 ^ 31 → word_from 0 (hexadecimal 8 w) ≡ w
digits_back w h = from_back 8 w (omega arith)

from_nil : (v : ℕ) → word_from v [] ≡ v
unfolding word_from
from_nil v = refl

from_step : (v x : ℕ) (xs : List ℕ) → word_from v (x ∷ xs) ≡ word_from (v * 16 + digit_value x) xs
unfolding word_from
from_step v x xs = refl

-- the loop over the digits
pub record Reading (u : List ℕ) (v i : ℕ) : Type 0 where
  pub few : v + 3 ≤ 3 * 16 ^ i
  pub value : word_from v (drop i u) ≡ word_from 0 u

pub reading_start : (u : List ℕ) → Reading u 0 0
reading_start u = record { few = omega arith; value = refl }

module _ {u : List ℕ} {v i : ℕ} (r : Reading u v i) where
  -- no value that eight bytes say is above 2^34
  pub reading_small : i < 8 → v * 16 + 42 < 2 ^ 64
  reading_small l =
      let most : 16 ^ i ≤ 16 ^ 7 = pow-le-pow_right {n = 16} (omega arith) {i = i} {j = 7} (omega arith) in
      omega (arith, r.few, most)

  pub reading_next : i < length u → (d : ℕ) → d ≡ digit_value (get_or u i 0) → d ≤ 42 → Reading u (v * 16 + d) (i + 1)
  reading_next l d de small =
      record {
        few = omega (arith, r.few, pow-suc 16 i, ap (λ (j : ℕ). 16 ^ j) (add-one i));
        value = ap (λ (m : ℕ). word_from (v * 16 + m) (drop (i + 1) u)) de ∙ sym (from_step v (get_or u i 0) (drop (i + 1) u))
            ∙ ap (word_from v) (sym (drop_here u i l)) ∙ r.value;
      }

  pub reading_end : i ≡ length u → v ≡ word_from 0 u
  reading_end e = sym (from_nil v) ∙ ap (word_from v) (sym (drop_past u i e)) ∙ r.value

-- ---- a text that begins with a printed line

both : (a b : Bool) → (a ≡ true → b ≡ true) → (b ≡ true → a ≡ true) → a ≡ b
both true b f g = sym (f refl)
both false true f g = g refl
both false false f g = refl

module _ (name : Name) (r : Ratio) where
  pub line_long : length (line_of name r) ≡ length (body_of name r) + 1
  line_long = ap length (sym (body_line name r)) ∙ length-append (body_of name r) line_feed

  module _ (text : List ℕ) (k : ℕ) (ke : k ≡ length_before 10 text) (within : k < length text) where
    -- the first line and its line feed
    first_line : take (k + 1) text ≡ take k text ++ line_feed
    first_line =
        let at : get_or text k 0 ≡ 10 = ap (λ (i : ℕ). get_or text i 0) ke ∙ at_before 10 text (omega arith) in
        ap (λ (i : ℕ). take i text) (add-one k) ∙ take-suc text k 0 within ∙ ap (λ (b : ℕ). take k text ++ (b ∷ [])) at

    begun : take (length (line_of name r)) text ≡ line_of name r → take k text ++ line_feed ≡ line_of name r
    begun e =
        let m : ℕ = length (line_of name r) in
        let whole : text ≡ body_of name r ++ line_feed ++ drop m text =
        sym (take-append-drop m text) ∙ ap (λ (u : List ℕ). u ++ drop m text) (e ∙ sym (body_line name r))
        in
        let place : k ≡ length (body_of name r) = ke ∙ ap (length_before 10) whole ∙ before_at 10 (body_of name r) (drop m text) (line_free name r) in
        let long : k + 1 ≡ m = omega (arith, line_long) in
        sym first_line ∙ ap (λ (i : ℕ). take i text) long ∙ e

    ended : take k text ++ line_feed ≡ line_of name r → take (length (line_of name r)) text ≡ line_of name r
    ended e =
        let long : length (line_of name r) ≡ k + 1 =
        ap length (sym e) ∙ length-append (take k text) line_feed ∙ ap (λ (i : ℕ). i + 1) (length-take-le k text (omega arith))
        in
        ap (λ (i : ℕ). take i text) long ∙ first_line ∙ e

    same_line : same (take (length (line_of name r)) text) (line_of name r) ≡ same (take k text ++ line_feed) (line_of name r)
    same_line =
        both _ _
        (λ e. subst (λ (u : List ℕ). same u (line_of name r) ≡ true) (sym (begun (same_is _ _ e))) (same_refl (line_of name r)))
        (λ e. subst (λ (u : List ℕ). same u (line_of name r) ≡ true) (sym (ended (same_is _ _ e))) (same_refl (line_of name r)))

pub there_agrees : (text : List ℕ) (k : ℕ) → k ≡ length_before 10 text → k < length text → (name : Name) (w : ℕ)
    → begins text name w ≡ (listable w && same (take k text ++ line_feed) (line_of name (ratio_of w)))
unfolding begins
there_agrees text k ke within name w = ap (λ (b : Bool). listable w && b) (same_line name (ratio_of w) text k ke within)

-- the answers of `line_there`

pub ratio_printable : (w : ℕ) → listable w ≡ true → is_printable (ratio_of w) ≡ true
ratio_printable w l = go (ℕ_discrete w 0)
  where
    go : Dec (w ≡ 0) → is_printable (ratio_of w) ≡ true
    go (yes z) = ap is_printable (sym (of_zero w z)) ∙ printable_is Void tt
    go (no z) = ap is_printable (sym (of_some w z)) ∙ listable_printable w l z

module _ (text : List ℕ) (name : Name) (w : ℕ) where
  pub there_not : false ≡ listable w → None ≡ line_there text name w
  unfolding line_there begins
  there_not e = rw (← e) refl

  module _ (named : is_name name ≡ true) (te : true ≡ listable w) (o o' : List ℕ) (k : ℕ) (long : length o ≡ 33) (r : Ratio) (re : r ≡ ratio_of w)
      (s : Stored o 0 (line_in (length o - 0) name r) o' k) where
    l : listable w ≡ true
    l = sym te

    abbrev line : List ℕ
    line = line_of name (ratio_of w)

    text_is : line_in (length o - 0) name r ≡ line
    text_is =
        ap (line_in (length o - 0) name) re ∙ sym (line_is o 0 name (ratio_of w) (omega arith) named (ratio_printable w l))

    pub there_length : k ≡ length line
    there_length = s.next ∙ zero-add _ ∙ ap length text_is

    pub there_within : (k ≤ 33) × (k ≤ length o')
    there_within =
        let most : length line ≤ 33 = most_bytes_lem name (ratio_of w) named (is_printable_lem (ratio_of w) (ratio_printable w l)) in
        (omega (arith, there_length, most), omega (arith, there_length, most, stored_length s))

    pub there_line : take k o' ≡ line
    there_line =
        let fits : length line ≤ length o = omega (arith, there_within.0, there_length) in
        ap (take k) (s.bytes ∙ ap (put o 0) text_is ∙ put_front o line fits) ∙ take_at line (drop (length line) o) k (sym there_length)

    begins_is : (b : Bool) → same (take k text) line ≡ b → begins text name w ≡ b
    unfolding begins
    begins_is b e = rw l (ap (λ (i : ℕ). same (take i text) line) (sym there_length) ∙ e)

    pub there_short : length text < k → None ≡ line_there text name w
    unfolding line_there
    there_short h =
        let differ : length (take k text) ≡ length line → ⊥ = λ e. omega (arith, length-take k text, there_length) in
        rw (begins_is false (sym (same_not _ _ differ))) refl

    pub there_differs : false ≡ same (take k text) (take k o') → None ≡ line_there text name w
    unfolding line_there
    there_differs e = rw (begins_is false (ap (same (take k text)) (sym there_line) ∙ sym e)) refl

    pub there_same : true ≡ same (take k text) (take k o') → Some k ≡ line_there text name w
    unfolding line_there
    there_same e = ap Some there_length ∙ rw (begins_is true (ap (same (take k text)) (sym there_line) ∙ sym e)) refl

-- ---- the same where the longest line has room

module _ (name : Name) (w : ℕ) (named : is_name name ≡ true) (o o' : List ℕ) (k : ℕ) (window_long : length o ≡ 33)
    (r : Ratio) (re : r ≡ ratio_of w) (s : Stored o 0 (line_in (length o - 0) name r) o' k) (text : List ℕ) (oe : o ≡ take 33 text) where
  module _ (l : listable w ≡ true) where
    abbrev shown : List ℕ
    shown = line_of name (ratio_of w)

    shown_is : line_in (length o - 0) name r ≡ shown
    shown_is = ap (line_in (length o - 0) name) re ∙ sym (line_is o 0 name (ratio_of w) (omega (arith, window_long)) named (ratio_printable w l))

    shown_short : length shown ≤ 33
    shown_short = most_bytes_lem name (ratio_of w) named (is_printable_lem (ratio_of w) (ratio_printable w l))

    window_is : o' ≡ shown ++ drop (length shown) (take 33 text)
    window_is =
        s.bytes ∙ ap (put o 0) shown_is ∙ put_front o shown (omega (arith, shown_short, window_long))
        ∙ ap (λ (v : List ℕ). shown ++ drop (length shown) v) oe

    begins_window : begins text name w ≡ same (take 33 text) o'
    unfolding begins
    begins_window =
        rw l (both _ _
        (λ e. ap (same (take 33 text)) (window_is ∙ ap (λ (v : List ℕ). v ++ drop (length shown) (take 33 text)) (sym (same_is _ _ e) ∙ sym (take-take (length shown) 33 text shown_short)) ∙ take-append-drop (length shown) (take 33 text)) ∙ same_refl (take 33 text))
        (λ e. subst (λ (v : List ℕ). same v shown ≡ true) (sym (first e)) (same_refl shown)))
      where
        first : same (take 33 text) o' ≡ true → take (length shown) text ≡ shown
        first e =
            let whole : take 33 text ≡ o' = same_is _ _ e in
            sym (take-take (length shown) 33 text shown_short) ∙ ap (take (length shown)) (whole ∙ window_is)
            ∙ take_at shown (drop (length shown) (take 33 text)) (length shown) refl

  pub window_same : true ≡ same o o' → true ≡ listable w → Some k ≡ line_there text name w
  unfolding line_there
  window_same u' e =
      let u : true ≡ same (take 33 text) o' = u' ∙ ap (λ (v : List ℕ). same v o') oe in
      let l : listable w ≡ true = sym e in
      ap Some (s.next ∙ zero-add _ ∙ ap length (shown_is l)) ∙ rw (begins_window l, ← u) refl

-- ---- what its answer says

module _ (text : List ℕ) (name : Name) (w : ℕ) where
  pub there_none : None ≡ line_there text name w → begins text name w ≡ false
  unfolding line_there
  there_none e = go (begins text name w) refl
    where
      go : (b : Bool) → begins text name w ≡ b → begins text name w ≡ false
      go false h = h
      go true h = let z : ◌≡◌ {A = Option ℕ} None (Some (length (line_of name (ratio_of w)))) = e ∙ rw h refl in cc

  pub there_some : {r : ℕ} → Some r ≡ line_there text name w → (begins text name w ≡ true) × (r ≡ length (line_of name (ratio_of w)))
  unfolding line_there
  there_some {r} e = go (begins text name w) refl
    where
      go : (b : Bool) → begins text name w ≡ b → (begins text name w ≡ true) × (r ≡ length (line_of name (ratio_of w)))
      go true h = let z : ◌≡◌ {A = Option ℕ} (Some r) (Some (length (line_of name (ratio_of w)))) = e ∙ rw h refl in (h, cc)
      go false h = let z : ◌≡◌ {A = Option ℕ} (Some r) None = e ∙ rw h refl in cc

-- ---- a line in its sequence

module _ (text : List ℕ) (k : ℕ) (ke : k ≡ length_before 10 text) (within : k < length text) (w n : ℕ) where
  agreed_as : (name : Name) (e : Entry) (b : Bool) → begins text name w ≡ b → agreeing n (take k text) name w e ≡ (if b then done e else stop 15 n)
  unfolding agreeing
  agreed_as name e b h = rw (← there_agrees text k ke within name w, h) refl

  -- `all` as the first line
  module _ (e : n ≡ 1) where
    void_as : (b : Bool) → begins text All 0 ≡ b → same (take k text ++ line_feed) (line_of All Void) ≡ b
    void_as b h =
        let agrees : begins text All 0 ≡ same (take k text ++ line_feed) (line_of All (ratio_of 0)) =
        there_agrees text k ke within All 0 ∙ rw (← listable_zero 0 refl) refl
        in
        ap (λ (x : Ratio). same (take k text ++ line_feed) (line_of All x)) (of_zero 0 refl) ∙ sym agrees ∙ h

    pub total_first_not : None ≡ line_there text All 0 → stop 14 n ≡ total_at n (take k text) w
    unfolding total_at
    total_first_not z = sym (rw (eq-eqb n 1 e, void_as false (there_none text All 0 z)) refl)

    pub total_first : {r : ℕ} → Some r ≡ line_there text All 0 → done (Entry.Total 0) ≡ total_at n (take k text) w
    unfolding total_at
    total_first z = sym (rw (eq-eqb n 1 e, void_as true (there_some text All 0 z).0) refl)

  -- and behind a breath's
  module _ (m : n ≡ 1 → ⊥) where
    of_total : total_at n (take k text) w ≡ agreeing n (take k text) All w (Entry.Total w)
    unfolding total_at
    of_total = rw (ne_eqb n 1 m) refl

    pub total_later_not : None ≡ line_there text All w → stop 15 n ≡ total_at n (take k text) w
    total_later_not z = sym (of_total ∙ agreed_as All (Entry.Total w) false (there_none text All w z))

    pub total_later : {r : ℕ} → Some r ≡ line_there text All w → done (Entry.Total w) ≡ total_at n (take k text) w
    total_later z = sym (of_total ∙ agreed_as All (Entry.Total w) true (there_some text All w z).0)

module _ (text : List ℕ) (k : ℕ) (ke : k ≡ length_before 10 text) (within : k < length text) (i : ℕ) (ik : i ≤ k) (w n : ℕ) where
  abbrev first : List ℕ
  first = take i (take k text)

  as_taken : take i text ≡ take i (take k text)
  as_taken = sym (take-take i k text ik)

  all_is : (b : Bool) → b ≡ same (take i text) (97 ∷ 108 ∷ 108 ∷ []) → same first (name_text All) ≡ b
  all_is b e = ap (λ (u : List ℕ). same u (name_text All)) (sym as_taken) ∙ ap (same (take i text)) (sym (name_all All refl)) ∙ sym e

  pub sequence_total : true ≡ same (take i text) (97 ∷ 108 ∷ 108 ∷ []) → total_at n (take k text) w ≡ in_sequence n (take k text) (take i (take k text)) w
  unfolding in_sequence
  sequence_total is = sym (rw (all_is true is) refl)

  module _ (isnt : false ≡ same (take i text) (97 ∷ 108 ∷ 108 ∷ [])) where
    pub sequence_many : 65536 < n → stop 14 n ≡ in_sequence n (take k text) (take i (take k text)) w
    unfolding in_sequence
    sequence_many l = sym (rw (all_is false isnt, lt-leb n 65536 l, and-false (same first (name_text (Number n)))) refl)

    module _ (few : n ≤ 65536) where
      number_is : (b : Bool) → b ≡ same (take i text) (decimal n) → same first (name_text (Number n)) ≡ b
      number_is b e =
          ap (λ (u : List ℕ). same u (name_text (Number n))) (sym as_taken)
          ∙ ap (same (take i text)) (sym (name_number (Number n) n refl)) ∙ sym e

      pub sequence_number : false ≡ same (take i text) (decimal n) → stop 14 n ≡ in_sequence n (take k text) (take i (take k text)) w
      unfolding in_sequence
      sequence_number f = sym (rw (all_is false isnt, number_is false f) refl)

      module _ (g : true ≡ same (take i text) (decimal n)) where
        of_number : in_sequence n (take k text) (take i (take k text)) w ≡ agreeing n (take k text) (Number n) w (Entry.Breath w)
        unfolding in_sequence
        of_number = rw (all_is false isnt, number_is true g, le-leb n 65536 few) refl

        pub sequence_breath_not : None ≡ line_there text (Number n) w → stop 15 n ≡ in_sequence n (take k text) (take i (take k text)) w
        sequence_breath_not z = sym (of_number ∙ agreed_as text k ke within w n (Number n) (Entry.Breath w) false (there_none text (Number n) w z))

        pub sequence_breath : {r : ℕ} → Some r ≡ line_there text (Number n) w → done (Entry.Breath w) ≡ in_sequence n (take k text) (take i (take k text)) w
        sequence_breath z = sym (of_number ∙ agreed_as text k ke within w n (Number n) (Entry.Breath w) true (there_some text (Number n) w z).0)

-- ---- a line

module _ (line : List ℕ) (n : ℕ) where
  pub judge_other : None ≡ shape_of line → stop 13 n ≡ entry_of n (shape_of line) line
  unfolding entry_of
  judge_other e = ap (λ (s : Option Said). entry_of n s line) e

  module _ (y : Said) (e : Some y ≡ shape_of line) where
    pub judge_name : y.name ≤ length line
    judge_name = name_within line y (sym e)

    pub judge_line : (o : Outcome Entry) → o ≡ in_sequence n line (take y.name line) y.word → o ≡ entry_of n (shape_of line) line
    unfolding entry_of
    judge_line o g = g ∙ ap (λ (s : Option Said). entry_of n s line) e

-- ---- a stop, as the functions make it
pub stopped_at : {A : Type 0} {s : Stop} {number place : ℕ} {o : Outcome A} → s ≡ record { number = number; place = place } → stop number place ≡ o → Err s ≡ o
stopped_at e h = ap Err e ∙ h
