-- Filling the lent lists. Assumes nothing.
-- `filling_next`, `filling_end`: what the loop over the lines comes to. `load_filled`, `load_stopped`, `load-short`: what loading answers, and what the
-- lists are then.
use Rattle.std.proofs.Common.{◌≡◌, ℕ, zero, suc, ◌+◌, ◌-◌, ◌/◌, ◌%◌, ◌<◌, ◌≤◌, min, true, ◌&&◌, leb, List, [], ◌∷◌, ◌++◌, length, take, drop, set, sym, refl, ap, ◌∙◌, append_assoc, add-one, arith, length-append, length-drop, length-set, drop-drop, take_at, drop_at, le-leb}
use mathlib.Core.Bool.{and-false}
use native.Mathlib.Decide.{dec_lt, ℕ_discrete}
use lib.Seq.{drop-append-le}
use Rattle.std.proofs.Math.Nat.{min-le_left, min-le_right}
use borrow.Author.Tests.{lt-leb}
use Rattle.std.specs.Prelude.{if◌then◌else◌, Ok, Err}
use Rattle.convergents.specs.Pairs.{Pair}
use Rattle.slash.specs.Answers.{Outcome, stop, done, ◌then◌}
use Rattle.slash.specs.declared.answer.Stop.{Stop}
use Rattle.slash.proofs.AnswerLaws.{done_inj, no_stop, then_stop}
use Rattle.breaths.specs.Ratios.{ratio_of, fraction_of}
use Rattle.breaths.specs.declared.ratio.Ratio.{Ratio}
use Rattle.breaths.specs.declared.ratio.Ratio.TheVariants.{Void, Word}
use Rattle.breaths.proofs.RatioLaws.{of_zero, of_some, word_of_ratio}
use Rattle.text.specs.Numbers.{tab, line_feed, slash, point, decimal_from, decimal, hexadecimal}
use Rattle.text.specs.Scan.{is_digit, length_before, same, parted}
use Rattle.text.specs.Columns.{thousandths, percentage, fraction_text, fraction_and_percentage, columns}
use Rattle.text.specs.Lines.{name_text, line_of, is_printable}
use Rattle.text.specs.Stores.{put, list_after}
use Rattle.text.specs.declared.line.Name.TheVariants.{Number, All}
use Rattle.text.proofs.NumberLaws.{decimal_small, decimal_more, hexadecimal_length, put_front}
use Rattle.text.proofs.PartLaws.{tail_is, free_append, free_drop, before_at}
use Rattle.text.proofs.ScanLaws.{before_take}
use Rattle.text.proofs.ColumnLaws.{shares_length, columns_long}
use Rattle.text.proofs.LineLaws.{is_printable_lem, name_all, name_number, line_parts}
use Rattle.shapes.specs.Fields.{is_whole, is_place, in_two, are_wholes, is_fraction, are_whole_and_place, is_decimal}
use Rattle.shapes.specs.Words.{is_hex_digit, is_word, hex_value, hex_from, word_in}
use Rattle.shapes.specs.Shapes.{is_named, are_columns, shape_of_fields, shape_of}
use Rattle.shapes.proofs.ShapeLaws.{columns_free}
use Rattle.loading.specs.Listable.{listable, AllListable}
use Rattle.loading.specs.Prints.{printed}
use Rattle.loading.specs.Lines.{agreeing, in_sequence, entry_of}
use Rattle.loading.specs.Loads.{Listing, load_from, load, Exactly}
use Rattle.loading.specs.Fills.{where_fits, load_into, count_of, up_from, numbers_after, words_after}
use Rattle.loading.specs.Steps.{word_from, words_in, numbers_in, Fits}
use Rattle.loading.specs.declared.load.Counted.{Counted}
use Rattle.loading.proofs.ListableLaws.{listable_small}
use Rattle.loading.proofs.LineLaws.{digits_back, ratio_printable}
use Rattle.loading.proofs.LoadLaws.{printed_from, printed_end, printed_more, load_only, exactly}

-- ---- two examples

-- A word of sign 1 with lists of no place: 15 at line 1. (The bytes of 1, 80000000, 1/2 and 50.0, tab-parted, and of a line feed.)
pub word_before_list : load_into (49 ∷ 9 ∷ 56 ∷ 48 ∷ 48 ∷ 48 ∷ 48 ∷ 48 ∷ 48 ∷ 48 ∷ 9 ∷ 49 ∷ 47 ∷ 50 ∷ 9 ∷ 53 ∷ 48 ∷ 46 ∷ 48 ∷ 10 ∷ []) 0 0 ≡ stop 15 1
unfolding load_into load load_from parted shape_of shape_of_fields is_named is_whole is_digit is_word is_hex_digit word_in hex_from hex_value in_two are_columns is_fraction are_wholes is_decimal are_whole_and_place is_place same name_text entry_of in_sequence agreeing decimal decimal_from listable is_printable
word_before_list = refl

-- On a stop a list is as it was.
pub list_as_it_was : words_after (stop 15 1) (5 ∷ []) ≡ 5 ∷ []
unfolding words_after list_after
list_as_it_was = refl

-- ---- stores

put_nil : (o : List ℕ) (k : ℕ) → put o k [] ≡ o
unfolding put
put_nil o k = refl

put_cons : (o : List ℕ) (k v : ℕ) (vs : List ℕ) → put o k (v ∷ vs) ≡ put (set o k v) (suc k) vs
unfolding put
put_cons o k v vs = refl

up_cons : (n count : ℕ) → up_from n (suc count) ≡ n ∷ up_from (suc n) count
unfolding up_from
up_cons n count = refl

up_nil : (n : ℕ) → up_from n 0 ≡ []
unfolding up_from
up_nil n = refl

words_in_lem : (o : Outcome Listing) (l : Listing) → o ≡ done l → words_in o ≡ l.words
unfolding words_in
words_in_lem o l e = ap words_in e

numbers_in_lem : (o : Outcome Listing) (l : Listing) → o ≡ done l → numbers_in o ≡ up_from 1 (length l.words)
unfolding numbers_in
numbers_in_lem o l e = ap (λ (ws : List ℕ). up_from 1 (length ws)) (words_in_lem o l e)

-- ---- a line that was printed

decimal_some : (n : ℕ) → 1 ≤ length (decimal n)
decimal_some n = go (dec_lt n 10)
  where
    go : Dec (n < 10) → 1 ≤ length (decimal n)
    go (yes l) = omega (arith, ap length (decimal_small n (48 + n) l refl))
    go (no l) = omega (arith, ap length (decimal_more n (48 + n % 10) (omega arith) refl), length-append (decimal (n / 10)) ((48 + n % 10) ∷ []))

-- the columns have some bytes
word_some : (w : ℕ) → 7 ≤ length (fraction_and_percentage (Word w))
unfolding fraction_and_percentage fraction_text percentage
word_some w =
    let x : Pair = fraction_of w in
    let t : ℕ = thousandths x.numerator x.denominator in
    omega (
      arith,
      length-append (fraction_text x ++ tab) (percentage t),
      length-append (fraction_text x) tab,
      length-append (decimal x.numerator ++ slash) (decimal x.denominator),
      length-append (decimal x.numerator) slash,
      length-append (decimal (t / 10) ++ point) (decimal (t % 10)),
      length-append (decimal (t / 10)) point,
      decimal_some x.numerator,
      decimal_some x.denominator,
      decimal_some (t / 10),
      decimal_some (t % 10),
    )

void_some : 3 ≤ length (fraction_and_percentage Void)
unfolding fraction_and_percentage
void_some = omega arith

columns_some : (w : ℕ) → 4 ≤ 1 + length (fraction_and_percentage (ratio_of w))
columns_some w = go (ℕ_discrete w 0)
  where
    go : Dec (w ≡ 0) → 4 ≤ 1 + length (fraction_and_percentage (ratio_of w))
    go (yes z) = omega (arith, void_some, ap (λ (r : Ratio). length (fraction_and_percentage r)) (of_zero w z))
    go (no z) = omega (arith, word_some w, ap (λ (r : Ratio). length (fraction_and_percentage r)) (of_some w z))

-- `all`'s line, too
all_long : (t : ℕ) → 15 ≤ length (line_of All (ratio_of t))
all_long t =
    let r : Ratio = ratio_of t in
    omega (
      arith,
      ap length (line_parts All r),
      length-append (name_text All ++ tab ++ columns r) line_feed,
      length-append (name_text All ++ tab) (columns r),
      length-append (name_text All) tab,
      ap length (name_all All refl),
      columns_long r,
      columns_some t,
    )

module _ (n w : ℕ) (e : listable w ≡ true) (u more : List ℕ) (is : u ≡ line_of (Number n) (ratio_of w) ++ more) (k : ℕ) (ke : k ≡ length (decimal n)) where
  abbrev shown : List ℕ
  shown = tab ++ fraction_and_percentage (ratio_of w)

  -- by its pieces: the number and a tab, eight digits, and what follows
  pieces : u ≡ (decimal n ++ tab) ++ (hexadecimal 8 w ++ (shown ++ line_feed ++ more))
  unfolding columns
  pieces =
      is ∙ ap (λ (v : List ℕ). v ++ more) (sym (line_parts (Number n) (ratio_of w)))
      ∙ ap (λ (v : List ℕ). v ++ tab ++ columns (ratio_of w) ++ line_feed ++ more) (sym (name_number (Number n) n refl))
      ∙ ap (λ (v : ℕ). decimal n ++ tab ++ (hexadecimal 8 v ++ tab ++ fraction_and_percentage (ratio_of w)) ++ line_feed ++ more) (word_of_ratio w)
      ∙ simp append_assoc

  long : length (decimal n ++ tab) ≡ k + 1
  long = omega (arith, length-append (decimal n) tab)

  digits : take 8 (drop (k + 1) u) ≡ hexadecimal 8 w
  digits =
      ap (λ (v : List ℕ). take 8 (drop (k + 1) v)) pieces
      ∙ ap (take 8) (drop_at (decimal n ++ tab) (hexadecimal 8 w ++ (shown ++ line_feed ++ more)) (k + 1) long)
      ∙ take_at (hexadecimal 8 w) (shown ++ line_feed ++ more) 8 (hexadecimal_length 8 w)

  pub line_room : k + 1 + 8 ≤ length u
  line_room =
      omega (
        arith,
        ap length pieces,
        length-append (decimal n ++ tab) (hexadecimal 8 w ++ (shown ++ line_feed ++ more)),
        length-append (hexadecimal 8 w) (shown ++ line_feed ++ more),
        hexadecimal_length 8 w,
        long,
      )

  pub line_word : (v : ℕ) → v ≡ word_from 0 (take 8 (drop (k + 1) u)) → v ≡ w
  line_word v ve = ve ∙ ap (word_from 0) digits ∙ digits_back w (listable_small w e)

  -- what stands behind the digits
  columns_are : drop (k + 1 + 8) u ≡ shown ++ line_feed ++ more
  columns_are =
      sym (drop-drop 8 (k + 1) u)
      ∙ ap (drop 8) (ap (drop (k + 1)) pieces ∙ drop_at (decimal n ++ tab) (hexadecimal 8 w ++ (shown ++ line_feed ++ more)) (k + 1) long)
      ∙ drop_at (hexadecimal 8 w) (shown ++ line_feed ++ more) 8 (hexadecimal_length 8 w)

  shown_some : 4 ≤ length shown
  shown_some = omega (arith, length-append tab (fraction_and_percentage (ratio_of w)), columns_some w)

  -- and behind the fewest bytes there
  abbrev left : List ℕ
  left = drop 4 shown

  left_are : drop (k + 1 + 8 + 4) u ≡ left ++ line_feed ++ more
  left_are =
      sym (drop-drop 4 (k + 1 + 8) u) ∙ ap (drop 4) columns_are
      ∙ drop-append-le 4 (shown ++ line_feed) more (omega (arith, length-append shown line_feed, shown_some))
      ∙ ap (λ (v : List ℕ). v ++ more) (drop-append-le 4 shown line_feed shown_some)

  left_before : length_before 10 (drop (k + 1 + 8 + 4) u) ≡ length left
  left_before =
      ap (length_before 10) left_are
      ∙ before_at 10 left more (free_drop 10 4 shown (free_append 10 tab (fraction_and_percentage (ratio_of w)) (refl, tt) (columns_free (ratio_of w))))

  left_length : length (drop (k + 1 + 8 + 4) u) ≡ length left + 1 + length more
  left_length = ap length left_are ∙ length-append (left ++ line_feed) more ∙ ap (λ (i : ℕ). i + length more) (length-append left line_feed)

  -- the line feed stands among the next 16
  pub line_near : length_before 10 (drop (k + 1 + 8 + 4) u) < 16
  line_near =
      let r : Ratio = ratio_of w in
      omega (
        arith,
        left_before,
        length-drop 4 shown,
        length-append tab (fraction_and_percentage r),
        shares_length r (is_printable_lem r (ratio_printable w e)),
      )

  pub line_behind : (j : ℕ) → j ≡ length_before 10 (drop (k + 1 + 8 + 4) u)
      → (drop (k + 1 + 8 + 4 + j + 1) u ≡ more) × (k + 1 + 8 + 4 + j + 1 ≤ length u)
  line_behind j je =
      let m : length (left ++ line_feed) ≡ j + 1 = omega (arith, length-append left line_feed, left_before) in
      let sum : k + 1 + 8 + 4 + (j + 1) ≡ k + 1 + 8 + 4 + j + 1 = omega arith in (
        ap (λ (i : ℕ). drop i u) (sym sum) ∙ sym (drop-drop (j + 1) (k + 1 + 8 + 4) u) ∙ ap (drop (j + 1)) left_are ∙ drop_at (left ++ line_feed) more (j + 1) m,
        omega (arith, left_length, left_before, length-drop (k + 1 + 8 + 4) u),
      )

  -- what stands behind the fewest bytes is within the text
  pub line_last : k + 1 + 8 + 4 ≤ length u
  line_last = omega (arith, ap length columns_are, length-append (shown ++ line_feed) more, length-append shown line_feed, length-drop (k + 1 + 8) u, shown_some, line_room)

-- A line has at least 15 bytes,
number_long : (n w : ℕ) → listable w ≡ true → (more : List ℕ) → 15 ≤ length (line_of (Number n) (ratio_of w) ++ more)
number_long n w l more =
    omega (arith, (line_behind n w l (line_of (Number n) (ratio_of w) ++ more) more refl (length (decimal n)) refl _ refl).1, decimal_some n)

-- and so has what is printed behind one.
printed_long : (n : ℕ) (ws : List ℕ) (t : ℕ) → AllListable ws → 15 ≤ length (printed_from n ws t)
printed_long n [] t a = omega (arith, ap length (printed_end n t), all_long t)
printed_long n (w ∷ ws) t a = omega (arith, ap length (printed_more n w ws t), number_long n w a.0 (printed_from (suc n) ws t))

-- ---- filling

-- `a` and `b` are the lists as they were, a' and b' as they are
pub record Filling (text : List ℕ) (count : ℕ) (a b a' b' : List ℕ) (from i : ℕ) : Type 0 where
  pub within : from ≤ length text
  pub rest : List ℕ
  pub last : ℕ
  pub left : drop from text ≡ printed_from (i + 1) rest last
  pub listed : AllListable rest
  pub counted : count ≡ i + length rest
  pub few : count ≤ 65536
  pub numbers_long : length a' ≡ length a
  pub words_long : length b' ≡ length b
  pub numbers_room : count ≤ length a
  pub words_room : count ≤ length b
  pub numbers : put a 0 (numbers_in (load text)) ≡ put a' i (up_from (i + 1) (length rest))
  pub words : put b 0 (words_in (load text)) ≡ put b' i rest

pub filling_start : (text a b : List ℕ) (count : ℕ) → Fits (load text) count (length a) (length b) → Filling text count a b a b 0 0
unfolding printed
filling_start text a b count f =
    let o = load_only text f.listing f.is in
    record {
      within = omega arith;
      rest = f.listing.words;
      last = f.listing.total;
      left = o.1;
      listed = o.0.words_are;
      counted = omega (arith, f.counted);
      few = omega (arith, f.counted, o.0.few);
      numbers_long = refl;
      words_long = refl;
      numbers_room = omega (arith, f.counted, f.numbers_fit);
      words_room = omega (arith, f.counted, f.words_fit);
      numbers = ap (put a 0) (numbers_in_lem (load text) f.listing f.is);
      words = ap (put b 0) (words_in_lem (load text) f.listing f.is);
    }

-- the next word
record Next (rest : List ℕ) (n last : ℕ) (u : List ℕ) : Type 0 where
  word : ℕ
  others : List ℕ
  is : rest ≡ word ∷ others
  listed : listable word ≡ true
  rest_listed : AllListable others
  text : u ≡ line_of (Number n) (ratio_of word) ++ printed_from (suc n) others last

next : (rest : List ℕ) (n last : ℕ) (u : List ℕ) → 1 ≤ length rest → AllListable rest → u ≡ printed_from n rest last → Next rest n last u
next [] n last u h a e = absurd (omega arith)
next (w ∷ ws) n last u h a e =
    record { word = w; others = ws; is = refl; listed = a.0; rest_listed = a.1; text = e ∙ printed_more n w ws last }

module _ {text : List ℕ} {count : ℕ} {a b a' b' : List ℕ} {from i : ℕ} (g : Filling text count a b a' b' from i) where
  pub filling_end : count ≤ i → (a' ≡ put a 0 (numbers_in (load text))) × (b' ≡ put b 0 (words_in (load text)))
  filling_end h =
      let z : g.rest ≡ [] = none g.rest (omega (arith, g.counted)) in (
        sym (g.numbers ∙ ap (λ (ws : List ℕ). put a' i (up_from (i + 1) (length ws))) z ∙ ap (put a' i) (up_nil (i + 1)) ∙ put_nil a' i),
        sym (g.words ∙ ap (put b' i) z ∙ put_nil b' i),
      )
    where
      none : (ws : List ℕ) → length ws ≡ 0 → ws ≡ []
      none [] e = refl
      none (w ∷ ws) e = absurd (omega arith)

  module _ (l : i < count) where
    here : Next g.rest (i + 1) g.last (drop from text)
    here = next g.rest (i + 1) g.last (drop from text) (omega (arith, g.counted)) g.listed g.left

    module _ (k : ℕ) (ke : k ≡ length (decimal (i + 1))) where
      pub filling_room : from + k + 1 + 8 ≤ length text
      filling_room =
          omega (arith, line_room (i + 1) here.word here.listed (drop from text) _ here.text k ke, length-drop from text, g.within)

      word_is : (w : ℕ) → w ≡ word_from 0 (take 8 (drop (from + k + 1) text)) → w ≡ here.word
      word_is w we =
          let start : from + (k + 1) ≡ from + k + 1 = omega arith in
          let digits : w ≡ word_from 0 (take 8 (drop (k + 1) (drop from text))) =
          we ∙ ap (λ (m : ℕ). word_from 0 (take 8 (drop m text))) (sym start) ∙ ap (λ (v : List ℕ). word_from 0 (take 8 v)) (sym (drop-drop (k + 1) from text))
          in
          line_word (i + 1) here.word here.listed (drop from text) _ here.text k ke w digits

      pub filling_last : from + k + 1 + 8 + 4 ≤ length text
      filling_last =
          omega (arith, line_last (i + 1) here.word here.listed (drop from text) _ here.text k ke, length-drop from text, g.within)

      -- the bytes among which the line's end is looked for
      tail : take (length text - (from + k + 1 + 8 + 4)) (drop (from + k + 1 + 8 + 4) text) ≡ drop (k + 1 + 8 + 4) (drop from text)
      tail =
          let place : from + (k + 1 + 8 + 4) ≡ from + k + 1 + 8 + 4 = omega arith in
          tail_is (from + k + 1 + 8 + 4) text ∙ ap (λ (m : ℕ). drop m text) (sym place) ∙ sym (drop-drop (k + 1 + 8 + 4) from text)

      pub filling_near : 16 ≤ length (take (length text - (from + k + 1 + 8 + 4)) (drop (from + k + 1 + 8 + 4) text))
      filling_near =
          omega (
            arith,
            ap length tail,
            left_length (i + 1) here.word here.listed (drop from text) _ here.text k ke,
            printed_long (suc (i + 1)) here.others g.last here.rest_listed,
          )

      module _ (j : ℕ) (je : j ≡ length_before 10 (take 16 (take (length text - (from + k + 1 + 8 + 4)) (drop (from + k + 1 + 8 + 4) text)))) where
        before : j ≡ length_before 10 (drop (k + 1 + 8 + 4) (drop from text))
        before =
            je ∙ ap (λ (u : List ℕ). length_before 10 (take 16 u)) tail
            ∙ before_take 10 16 (drop (k + 1 + 8 + 4) (drop from text)) (line_near (i + 1) here.word here.listed (drop from text) _ here.text k ke)

        behind_line : (drop (k + 1 + 8 + 4 + j + 1) (drop from text) ≡ printed_from (suc (i + 1)) here.others g.last)
            × (k + 1 + 8 + 4 + j + 1 ≤ length (drop from text))
        behind_line = line_behind (i + 1) here.word here.listed (drop from text) _ here.text k ke j before

        pub filling_used : from + k + 1 + 8 + 4 + j + 1 ≤ length text
        filling_used = omega (arith, behind_line.1, length-drop from text, g.within)

        pub filling_next : (w : ℕ) → w ≡ word_from 0 (take 8 (drop (from + k + 1) text))
            → Filling text count a b (set a' i (i + 1)) (set b' i w) (from + k + 1 + 8 + 4 + j + 1) (i + 1)
        filling_next w we =
            let ws : List ℕ = here.others in
            let m : length g.rest ≡ suc (length ws) = ap length here.is in
            let sum : from + (k + 1 + 8 + 4 + j + 1) ≡ from + k + 1 + 8 + 4 + j + 1 = omega arith in
            record {
              within = filling_used;
              rest = ws;
              last = g.last;
              left = ap (λ (p : ℕ). drop p text) (sym sum) ∙ sym (drop-drop (k + 1 + 8 + 4 + j + 1) from text) ∙ behind_line.0
                  ∙ ap (λ (p : ℕ). printed_from p ws g.last) (sym (add-one (i + 1)));
              listed = here.rest_listed;
              counted = omega (arith, g.counted, m);
              few = g.few;
              numbers_long = length-set a' i (i + 1) ∙ g.numbers_long;
              words_long = length-set b' i w ∙ g.words_long;
              numbers_room = g.numbers_room;
              words_room = g.words_room;
              numbers = g.numbers ∙ ap (λ (p : ℕ). put a' i (up_from (i + 1) p)) m ∙ ap (put a' i) (up_cons (i + 1) (length ws))
                  ∙ put_cons a' i (i + 1) (up_from (suc (i + 1)) (length ws))
                  ∙ ap (λ (p : ℕ). put (set a' i (i + 1)) p (up_from (suc (i + 1)) (length ws))) (sym (add-one i))
                  ∙ ap (λ (p : ℕ). put (set a' i (i + 1)) (i + 1) (up_from p (length ws))) (sym (add-one (i + 1)));
              words = g.words ∙ ap (put b' i) here.is ∙ put_cons b' i here.word ws
                  ∙ ap (λ (v : ℕ). put (set b' i v) (suc i) ws) (sym (word_is w we))
                  ∙ ap (λ (p : ℕ). put (set b' i w) p ws) (sym (add-one i));
            }

-- ---- the whole call

-- a list of so many breaths and this total
pub record Listed (o : Outcome Listing) (c : Counted) : Type 0 where
  pub listing : Listing
  pub is : o ≡ done listing
  pub count : c.breaths ≡ length listing.words
  pub total_is : c.total ≡ listing.total

count_done : (o : Outcome Listing) (c : Counted) → done c ≡ count_of o → Listed o c
unfolding count_of
count_done (Err s) c e = absurd (no_stop (sym e))
count_done (Ok l) c e =
    let i : c ≡ record { breaths = length l.words; total = l.total } = done_inj e in
    record { listing = l; is = refl; count = ap (λ (x : Counted). x.breaths) i; total_is = ap (λ (x : Counted). x.total) i }

-- what stopped counting stopped loading
pub count_stop : {s : Stop} (o : Outcome Listing) → Err s ≡ count_of o → Err s ≡ o
unfolding count_of
count_stop (Err t) e = cc
count_stop (Ok l) e = absurd (no_stop e)

pub load_fits : (text : List ℕ) (c : Counted) → done c ≡ count_of (load text) → (p q : ℕ) → c.breaths ≤ min p q → Fits (load text) c.breaths p q
load_fits text c e p q i =
    let l = count_done (load text) c e in
    record {
      listing = l.listing;
      is = l.is;
      counted = l.count;
      numbers_fit = omega (arith, l.count, min-le_left p q);
      words_fit = omega (arith, l.count, min-le_right p q);
    }

-- what the contract says of an answer and of the lists behind it
abbrev pub Result : (text a b a' b' : List ℕ) → Outcome Counted → Type 0
Result text a b a' b' o =
    (o ≡ count_of (load_into text (length a) (length b)))
    × ((a' ≡ numbers_after (load_into text (length a) (length b)) a)
    × ((b' ≡ words_after (load_into text (length a) (length b)) b) × Exactly text))

module _ (text a b : List ℕ) where
  stopped_as : {s : Stop} → Err s ≡ load_into text (length a) (length b) → Result text a b a b (Err s)
  unfolding count_of numbers_after words_after list_after
  stopped_as e =
      (ap count_of e, (ap (λ (o : Outcome Listing). numbers_after o a) e, (ap (λ (o : Outcome Listing). words_after o b) e, exactly text)))

  pub load_stopped : {s : Stop} → Err s ≡ count_of (load text) → Result text a b a b (Err s)
  unfolding load_into
  load_stopped e = stopped_as (then_stop (where_fits (length a) (length b)) (count_stop (load text) e))

  module _ (c : Counted) (e : done c ≡ count_of (load text)) where
    given : Listed (load text) c
    given = count_done (load text) c e

    into : load_into text (length a) (length b)
        ≡ (if leb (length given.listing.words) (length a) && leb (length given.listing.words) (length b) then done given.listing else stop 7 0)
    unfolding load_into where_fits
    into = ap (λ (o : Outcome Listing). o then where_fits (length a) (length b)) given.is

    pub load_short : {s : Stop} → s ≡ record { number = 7; place = 0 } → min (length a) (length b) < c.breaths → Result text a b a b (Err s)
    load_short se l = stopped_as (ap Err se ∙ sym (go (dec_lt (length a) (length given.listing.words))))
      where
        go : Dec (length a < length given.listing.words) → load_into text (length a) (length b) ≡ stop 7 0
        go (yes m) = into ∙ rw (lt-leb _ _ m) refl
        go (no m) =
            let k : length b < length given.listing.words = omega (arith, given.count) in
            into ∙ rw (lt-leb _ _ k, and-false (leb (length given.listing.words) (length a))) refl

    module _ (p : c.breaths ≤ min (length a) (length b)) where
      numbers_fit : length given.listing.words ≤ length a
      numbers_fit = omega (arith, given.count, min-le_left (length a) (length b))

      words_fit : length given.listing.words ≤ length b
      words_fit = omega (arith, given.count, min-le_right (length a) (length b))

      goes_in : load_into text (length a) (length b) ≡ done given.listing
      goes_in = into ∙ rw (le-leb _ _ numbers_fit, le-leb _ _ words_fit) refl

      up_length : (n m : ℕ) → length (up_from n m) ≡ m
      unfolding up_from
      up_length n zero = refl
      up_length n (suc m) = ap suc (up_length (suc n) m)

      pub load_filled : (a' b' : List ℕ) → (a' ≡ put a 0 (numbers_in (load text))) × (b' ≡ put b 0 (words_in (load text)))
          → Result text a b a' b' (done c)
      unfolding count_of numbers_after words_after list_after
      load_filled a' b' f =
          let ws : List ℕ = given.listing.words in
          let ns : List ℕ = up_from 1 (length ws) in
          let i : length ns ≤ length a = omega (arith, up_length 1 (length ws), numbers_fit) in (
            ap (λ (k : ℕ). done (record { breaths = k; total = c.total })) given.count
                ∙ ap (λ (k : ℕ). done (record { breaths = length ws; total = k })) given.total_is
                ∙ ap count_of (sym goes_in),
            (
              f.0 ∙ ap (put a 0) (numbers_in_lem (load text) given.listing given.is) ∙ put_front a ns i
                  ∙ ap (λ (o : Outcome Listing). numbers_after o a) (sym goes_in),
              (
                f.1 ∙ ap (put b 0) (words_in_lem (load text) given.listing given.is) ∙ put_front b ws words_fit
                    ∙ ap (λ (o : Outcome Listing). words_after o b) (sym goes_in),
                exactly text,
              ),
            ),
          )
