-- Reading a line: digits, fields, the line. Assumes nothing.
-- `line_words`: a line is endless (9, of both kinds) where over 32 bytes stand before its line feed, or there is none, in the papers' words. `line_sound`: a
-- breath's line uses from 1 to 33 of the bytes. `ended_line`, `ready_line`: what follows a line feed, or 33 bytes, doesn't change the line.
use mathlib.Core.Path.{◌≡◌, refl, sym, ap, ◌∙◌, subst}
use mathlib.Core.Bool.{Bool, true, false, not, true≢false, ◌&&◌, ◌||◌, and-false, or-true, or-false, false≢true}
use mathlib.Core.Logic.{◌⊎◌, inl, inr}
use mathlib.Core.List.{List, [], ◌∷◌, ◌++◌, append_assoc, append-nil}
use Prim.Native.Nat.{ℕ, suc, ◌+◌, ◌-◌, ◌*◌, ◌^◌, ◌≤◌, ◌<◌, min}
use native.Mathlib.Omega.{arith}
use native.Mathlib.Nat.{pow-suc, pow-le-pow_right}
use native.Mathlib.Numerals.{add-one}
use native.Mathlib.Decide.{dec_le, ℕ_discrete}
use lib.Dec.{eqb, leb, ltb}
use lib.ListN.{length, get_or, take, drop, length-append, length-take}
use lib.Seq.{take-append-le, take-append_seam, take-take, split_at, take-suc, take_all}
use borrow.Author.Tests.{not-true, not-false, eq-eqb, ne_eqb, eqb-true, eqb-false, le-leb, lt-leb, le-ltb, lt-ltb, leb-true, leb-false}
use Rattle.std.specs.Prelude.{Option, Some, None, Result, Ok, Err, IsErr, IsErrAnd, OkIff}
use Rattle.std.specs.Result.{result_ok}
use Rattle.std.specs.Char.{is_ascii_digit}
use Rattle.std.specs.Option.{ok_or}
use Rattle.std.specs.Prelude.{if◌then◌else◌}
use Rattle.breaths.specs.Breaths.{breath_of}
use Rattle.breaths.proofs.RatioLaws.{or_parts}
use Rattle.text.specs.Scan.{length_before, is_digit, parted}
use Rattle.text.proofs.ScanLaws.{before_le, before_take, before_taken, before_far, before_append}
use Rattle.text.proofs.PartLaws.{behind, parted_none, parted_some, parted_at}
use Rattle.recording.specs.Lines.{digits_from, read_tick, from_start, from_ticks, from_fields, read_line}
use Rattle.recording.specs.Steps.{LeadingDigits, tick_of, is_begun}
use Rattle.breaths.specs.declared.breath.Breath.{Breath}
use Rattle.recording.specs.declared.line.Entry.{Entry}

-- ---- digits

pub digits_step : (v x : ℕ) (xs : List ℕ) (t : Bool) → (is_digit x && leb (v * 10 + (x - 48)) 4294967295) ≡ t
    → digits_from v (x ∷ xs) ≡ elim t [ true ↦ digits_from (v * 10 + (x - 48)) xs | false ↦ None ]
unfolding digits_from
digits_step v x xs t e = ap (λ (y : Bool). elim y as (λ z. Option ℕ) [ true ↦ digits_from (v * 10 + (x - 48)) xs | false ↦ None ]) e

module _ (x : ℕ) where
  digit_low : x < 48 → (t : Bool) → (is_digit x && t) ≡ false
  unfolding is_digit
  digit_low h t = rw (lt-leb 48 x h) refl

  digit_high : 57 < x → (t : Bool) → (is_digit x && t) ≡ false
  unfolding is_digit
  digit_high h t = rw (le-leb 48 x (omega arith), lt-leb x 57 h) refl

  pub digit_good : 48 ≤ x → x ≤ 57 → (t : Bool) → (is_digit x && t) ≡ t
  unfolding is_digit
  digit_good h l t = rw (le-leb 48 x h, le-leb x 57 l) refl

pub no_tick : (n : ℕ) → None ≡ Some n → ⊥
no_tick n e = let z : ◌≡◌ {A = ℕ} 0 1 = cc in omega arith

pub digit_bounds : (x : ℕ) (t : Bool) → (is_digit x && t) ≡ true → (48 ≤ x) × (x ≤ 57) × (t ≡ true)
unfolding is_digit
digit_bounds x t e = go (leb 48 x) refl (leb x 57) refl t refl e
  where
    go : (a : Bool) → leb 48 x ≡ a → (b : Bool) → leb x 57 ≡ b → (c : Bool) → t ≡ c → ((a && b) && c) ≡ true → (48 ≤ x) × (x ≤ 57) × (t ≡ true)
    go true ae true be true ce f = (leb-true _ _ ae, leb-true _ _ be, ce)
    go true ae true be false ce f = let z : ◌≡◌ {A = ℕ} 0 1 = cc in absurd (omega arith)
    go true ae false be c ce f = let z : ◌≡◌ {A = ℕ} 0 1 = cc in absurd (omega arith)
    go false ae b be c ce f = let z : ◌≡◌ {A = ℕ} 0 1 = cc in absurd (omega arith)

-- the library's test of a digit
ascii_digit : (x : ℕ) {t : Bool} → is_ascii_digit x ≡ t → is_digit x ≡ t
unfolding is_digit
ascii_digit x e = e

ascii_bounds : (x : ℕ) → is_ascii_digit x ≡ true → (48 ≤ x) × (x ≤ 57)
ascii_bounds x e = let w = digit_bounds x true (ap (λ (b : Bool). b && true) (ascii_digit x e)) in (w.0, w.1)

-- one digit more, whether the number is still a tick mark or not
digit_more : (v x : ℕ) (xs : List ℕ) → 48 ≤ x → x ≤ 57
    → (if leb v 4294967295 then digits_from v (x ∷ xs) else None)
    ≡ (if leb (v * 10 + (x - 48)) 4294967295 then digits_from (v * 10 + (x - 48)) xs else None)
digit_more v x xs low high = go (dec_le (v * 10 + (x - 48)) 4294967295) (dec_le v 4294967295)
  where
    go : Dec (v * 10 + (x - 48) ≤ 4294967295) → Dec (v ≤ 4294967295)
        → (if leb v 4294967295 then digits_from v (x ∷ xs) else None)
        ≡ (if leb (v * 10 + (x - 48)) 4294967295 then digits_from (v * 10 + (x - 48)) xs else None)
    go (yes h) d =
        let less : v ≤ 4294967295 = omega arith in
        rw (le-leb _ _ less, le-leb _ _ h) (digits_step v x xs true (digit_good x low high _ ∙ le-leb _ _ h))
    go (no h) (yes l) =
        let more : 4294967295 < v * 10 + (x - 48) = omega arith in
        rw (le-leb _ _ l, lt-leb _ _ more) (digits_step v x xs false (digit_good x low high _ ∙ lt-leb _ _ more))
    go (no h) (no l) =
        let more : 4294967295 < v * 10 + (x - 48) = omega arith in
        let above : 4294967295 < v = omega arith in
        rw (lt-leb _ _ above, lt-leb _ _ more) refl

-- the digits read so far, and that any bytes behind them go on from their number
pub record Leading (bs : List ℕ) (v i : ℕ) : Type 0 where
  pub few : v < 10 ^ i
  pub goes : (xs : List ℕ) → digits_from 0 (take i bs ++ xs) ≡ (if leb v 4294967295 then digits_from v xs else None)

pub leading_start : (bs : List ℕ) → Leading bs 0 0
leading_start bs = record { few = omega arith; goes = λ xs. refl }

module _ {bs : List ℕ} {v i : ℕ} (d : Leading bs v i) where
  pub leading_end : i ≡ length bs → LeadingDigits bs v i
  leading_end e = record { within = omega arith; few = d.few; goes = d.goes; stopped = λ h. absurd (omega arith) }

  module _ (l : i < length bs) where
    -- ten digits fit 64 bits
    pub leading_small : length bs ≤ 10 → v < 10 ^ 9
    leading_small h =
        let most : 10 ^ i ≤ 10 ^ 9 = pow-le-pow_right {n = 10} (omega arith) {i = i} {j = 9} (omega arith) in
        omega (arith, d.few)

    abbrev x : ℕ
    x = get_or bs i 0

    pub leading_stopped : is_ascii_digit x ≡ false → LeadingDigits bs v i
    leading_stopped h = record { within = omega arith; few = d.few; goes = d.goes; stopped = λ _ t. ap (λ (b : Bool). b && t) (ascii_digit x h) }

    pub leading_next : is_ascii_digit x ≡ true → Leading bs (v * 10 + (x - 48)) (i + 1)
    leading_next digit =
        let w = ascii_bounds x digit in
        subst (Leading bs (v * 10 + (x - 48))) (sym (add-one i)) (record {
          few = omega (arith, d.few, pow-suc 10 i);
          goes = λ xs.
              ap (λ (t : List ℕ). digits_from 0 (t ++ xs)) (take-suc bs i 0 l)
              ∙ ap (digits_from 0) (append_assoc (take i bs) (x ∷ []) xs)
              ∙ d.goes (x ∷ xs)
              ∙ digit_more v x xs w.0 w.1;
        })

-- the number of some digits, as a tick mark
pub tick_made : {E : Type 0} (r : Result ℕ E) (v : ℕ) → OkIff r (v < 4294967296) v → result_ok r ≡ tick_of v
unfolding tick_of
tick_made {E} r v w = go r w
  where
    go : (q : Result ℕ E) → OkIff q (v < 4294967296) v → result_ok q ≡ (if leb v 4294967295 then Some v else None)
    go (Ok t) h = rw (le-leb v 4294967295 (omega (arith, h.0)), h.1) refl
    go (Err x) h = rw (lt-leb v 4294967295 (omega (arith, h))) refl

pub tick_small : {v : ℕ} → v ≤ 4294967295 → tick_of v ≡ Some v
unfolding tick_of
tick_small h = rw (le-leb _ _ h) refl

pub leading_tick : {bs : List ℕ} {v k : ℕ} (l : LeadingDigits bs v k) → digits_from 0 (take k bs) ≡ tick_of v
unfolding digits_from tick_of
leading_tick {bs} {v} {k} l = ap (digits_from 0) (sym (append-nil (take k bs))) ∙ l.goes []

module _ {ds : List ℕ} {v k : ℕ} (l : LeadingDigits ds v k) where
  pub digits_wrong : k < length ds → None ≡ digits_from 0 ds
  digits_wrong h =
      let x : ℕ = get_or ds k 0 in
      let more : List ℕ = drop (suc k) ds in
      sym (
      ap (digits_from 0) (split_at ds k 0 (omega arith)) ∙ l.goes (x ∷ more)
      ∙ ap (λ (m : Option ℕ). if leb v 4294967295 then m else None) (digits_step v x more false (l.stopped h _))
      ∙ same (leb v 4294967295)
      )
    where
      same : (t : Bool) → ◌≡◌ {A = Option ℕ} (if t then None else None) None
      same true = refl
      same false = refl

  pub digits_tick : length ds ≤ k → tick_of v ≡ digits_from 0 ds
  digits_tick h = sym (leading_tick l) ∙ ap (digits_from 0) (take_all k ds h)

-- ---- a tick mark

module _ (f : List ℕ) where
  pub tick_empty : length f ≡ 0 → None ≡ read_tick f
  unfolding read_tick
  tick_empty h = go f h
    where
      go : (g : List ℕ) → length g ≡ 0 → None ≡ read_tick g
      go [] e = refl
      go (x ∷ xs) e = absurd (omega arith)

  pub tick_leading : get_or f 0 0 ≡ 48 → 1 < length f → None ≡ read_tick f
  unfolding read_tick
  tick_leading e l = go f e l
    where
      go : (g : List ℕ) → get_or g 0 0 ≡ 48 → 1 < length g → None ≡ read_tick g
      go [] z h = absurd (omega arith)
      go (x ∷ xs) z h = let p : 0 < length xs = omega arith in rw (eq-eqb x 48 z, lt-ltb 0 (length xs) p) refl

  pub tick_digits : 1 ≤ length f → (get_or f 0 0 ≡ 48 → ⊥) ⊎ (length f ≤ 1) → digits_from 0 f ≡ read_tick f
  unfolding read_tick
  tick_digits l w = go f l w
    where
      go : (g : List ℕ) → 1 ≤ length g → (get_or g 0 0 ≡ 48 → ⊥) ⊎ (length g ≤ 1) → digits_from 0 g ≡ read_tick g
      go [] h z = absurd (omega arith)
      go (x ∷ []) h (inl n) = rw (ne_eqb x 48 n) refl
      go (x ∷ y ∷ ys) h (inl n) = rw (ne_eqb x 48 n) refl
      go (x ∷ []) h (inr s) = rw (and-false (eqb x 48)) refl
      go (x ∷ y ∷ ys) h (inr s) = absurd (omega arith)

  -- the answers of `is_begun`
  pub begun_empty : length f < 1 → false ≡ is_begun f
  unfolding is_begun
  begun_empty h = go f h
    where
      go : (g : List ℕ) → length g < 1 → false ≡ is_begun g
      go [] l = refl
      go (x ∷ xs) l = absurd (omega arith)

  pub begun_some : 1 ≤ length f → (not (eqb (get_or f 0 0) 48) || eqb (length f) 1) ≡ is_begun f
  unfolding is_begun
  begun_some h = go f h
    where
      go : (g : List ℕ) → 1 ≤ length g → (not (eqb (get_or g 0 0) 48) || eqb (length g) 1) ≡ is_begun g
      go [] h = absurd (omega arith)
      go (x ∷ xs) h = refl

-- what it tells
pub tick_not_begun : (f : List ℕ) → is_begun f ≡ false → None ≡ read_tick f
unfolding is_begun
tick_not_begun [] h = tick_empty [] refl
tick_not_begun (b ∷ bs) h =
    let w = or_parts (not (eqb b 48)) (eqb (length (b ∷ bs)) 1) h in
    let more : length (b ∷ bs) ≡ 1 → ⊥ = eqb-false (length (b ∷ bs)) 1 w.1 in
    tick_leading (b ∷ bs) (eqb-true b 48 (not-false _ w.0)) (omega arith)

pub tick_begun : (f : List ℕ) → is_begun f ≡ true → digits_from 0 f ≡ read_tick f
unfolding is_begun read_tick
tick_begun [] h = absurd (true≢false (sym h))
tick_begun (b ∷ []) h = rw (and-false (eqb b 48)) refl
tick_begun (b ∷ c ∷ cs) h =
    let more : length (b ∷ c ∷ cs) ≡ 1 → ⊥ = λ e. omega arith in
    let other : eqb (length (b ∷ c ∷ cs)) 1 ≡ false = ne_eqb _ _ more in
    rw (not-true _ (sym (or-false (not (eqb b 48))) ∙ ap (λ (t : Bool). not (eqb b 48) || t) (sym other) ∙ h)) refl

-- ---- three tick marks

-- what `ok_or` and `?` hand on where there is nothing
pub handed_on : {T A E : Type 0} {o : Option T} {e s : E} {r : Result A E} → o ≡ None → Err s ≡ ok_or o e → IsErr r × IsErrAnd r (λ (t : E). t ≡ s) → r ≡ Err e
handed_on {T} {A} {E} {o} {e} {s} {r} oe se h = go r h
  where
    same : s ≡ e
    same = let z : ◌≡◌ {A = Result T E} (Err s) (Err e) = se ∙ ap (λ (x : Option T). ok_or x e) oe in cc

    go : (q : Result A E) → IsErr q × IsErrAnd q (λ (t : E). t ≡ s) → q ≡ Err e
    go (Ok x) w = absurd w.1
    go (Err t) w = ap Err (w.1 ∙ same)

module _ (used : ℕ) (onset peak next : Option ℕ) where
  pub ticks_onset : onset ≡ None → Err 11 ≡ from_ticks used onset peak next
  unfolding from_ticks
  ticks_onset e = rw e refl

  module _ (o : ℕ) (oe : onset ≡ Some o) where
    pub ticks_peak : peak ≡ None → Err 11 ≡ from_ticks used onset peak next
    unfolding from_ticks
    ticks_peak e = rw (oe, e) refl

    module _ (p : ℕ) (pe : peak ≡ Some p) where
      pub ticks_next : next ≡ None → Err 11 ≡ from_ticks used onset peak next
      unfolding from_ticks
      ticks_next e = rw (oe, pe, e) refl

      pub ticks_read : (n : ℕ) → next ≡ Some n → (b : Breath) → b ≡ breath_of o p n
          → Ok (record { breath = b; used = used }) ≡ from_ticks used onset peak next
      unfolding from_ticks
      ticks_read n e b be = rw (oe, pe, e, be) refl

-- ---- fields

module _ (used : ℕ) (line : List ℕ) (i : ℕ) (ie : i ≡ length_before 9 line) where
  pub fields_one : i ≡ length line → Err 10 ≡ from_fields used (parted 9 line)
  unfolding from_fields
  fields_one e = rw (parted_none 9 line (sym ie ∙ e)) refl

  module _ (l : i < length line) (j : ℕ) (je : j ≡ length_before 9 (behind i line)) where
    pub fields_two : j ≡ length (behind i line) → Err 10 ≡ from_fields used (parted 9 line)
    unfolding from_fields
    fields_two e = rw (parted_at 9 line i ie (λ e. omega arith), parted_none 9 (behind i line) (sym je ∙ e)) refl

    module _ (m : j < length (behind i line)) (k : ℕ) (ke : k ≡ length_before 9 (behind j (behind i line))) where
      pub fields_four : k < length (behind j (behind i line)) → Err 10 ≡ from_fields used (parted 9 line)
      unfolding from_fields
      fields_four n =
          let last : List ℕ = behind j (behind i line) in
          let s = parted_some 9 (behind k last) in
          rw (parted_at 9 line i ie (λ e. omega arith), parted_at 9 (behind i line) j je (λ e. omega arith), parted_at 9 last k ke (λ e. omega arith), s.is) refl

      pub fields_three : length (behind j (behind i line)) ≤ k → (x y z : Option ℕ)
          → x ≡ read_tick (take i line) → y ≡ read_tick (take j (behind i line)) → z ≡ read_tick (behind j (behind i line))
          → (r : Result Entry ℕ) → r ≡ from_ticks used x y z → r ≡ from_fields used (parted 9 line)
      unfolding from_fields
      fields_three n x y z xe ye ze r e =
          let last : List ℕ = behind j (behind i line) in
          let whole : length_before 9 last ≡ length last = omega (arith, before_le 9 last) in
          e ∙ rw (xe, ye, ze, parted_at 9 line i ie (λ e. omega arith), parted_at 9 (behind i line) j je (λ e. omega arith), parted_none 9 last whole) refl

-- ---- a line

-- the first 33 bytes, as code has them
module _ (bs : List ℕ) (most : ℕ) (me : most ≡ min 33 (length bs)) where
  head_is : take most bs ≡ take 33 bs
  head_is = go (dec_le 33 (length bs))
    where
      go : Dec (33 ≤ length bs) → take most bs ≡ take 33 bs
      go (yes h) = let e : most ≡ 33 = omega arith in ap (λ (n : ℕ). take n bs) e
      go (no h) = take_all most bs (omega arith) ∙ sym (take_all 33 bs (omega arith))

  pub length_is : (k : ℕ) → k ≡ length_before 10 (take most bs) → k ≡ length_before 10 (take 33 bs)
  length_is k e = e ∙ ap (length_before 10) head_is

-- a line that ends, by the test of code
pub line_shorter : (n k : ℕ) → (leb n k || leb 33 k) ≡ false → (k < n) × (k < 33)
line_shorter n k h = let w = or_parts (leb n k) (leb 33 k) h in (leb-false _ _ w.0, leb-false _ _ w.1)

module _ {A : Type 0} (endless : A) (from : ℕ → List (List ℕ) → A) (bs : List ℕ) where
  start_none : length (take 33 bs) ≤ length_before 10 (take 33 bs) → endless ≡ from_start endless from bs
  unfolding from_start
  start_none h = rw (le-leb _ _ h) refl

  pub start_some : length_before 10 (take 33 bs) < length (take 33 bs)
      → from (suc (length_before 10 (take 33 bs))) (parted 9 (take (length_before 10 (take 33 bs)) bs)) ≡ from_start endless from bs
  unfolding from_start
  start_some h = rw (lt-leb _ _ h) refl

  -- the test of code, and what it comes to
  module _ (k : ℕ) (ke : k ≡ length_before 10 (take 33 bs)) where
    pub no_line_lem : (leb (length bs) k || leb 33 k) ≡ true → endless ≡ from_start endless from bs
    no_line_lem h = go (dec_le (length (take 33 bs)) k)
      where
        go : Dec (length (take 33 bs) ≤ k) → endless ≡ from_start endless from bs
        go (yes l) = start_none (omega arith)
        go (no l) =
            let i : k < length bs = omega (arith, length-take 33 bs) in
            let j : k < 33 = omega (arith, length-take 33 bs) in
            let n : (leb (length bs) k || leb 33 k) ≡ false = rw (lt-leb _ _ i, lt-leb _ _ j) refl in
            absurd (false≢true (sym n ∙ h))

    pub a_line : (leb (length bs) k || leb 33 k) ≡ false → (r : A) → r ≡ from (k + 1) (parted 9 (take k bs)) → r ≡ from_start endless from bs
    a_line h r e =
        let w = line_shorter (length bs) k h in
        let l : length_before 10 (take 33 bs) < length (take 33 bs) = omega (arith, w.0, w.1, length-take 33 bs) in
        e ∙ ap (λ (n : ℕ). from n (parted 9 (take k bs))) (add-one k) ∙ ap (λ (n : ℕ). from (suc n) (parted 9 (take n bs))) ke ∙ start_some l

-- the answers of `read_any`
module _ (bs : List ℕ) (k : ℕ) (ke : k ≡ length_before 10 (take 33 bs)) where
  pub line_long : (leb (length bs) k || leb 33 k) ≡ true → Err 9 ≡ read_line bs
  unfolding read_line
  line_long h = no_line_lem (Err 9) from_fields bs k ke h

  pub line_read : (leb (length bs) k || leb 33 k) ≡ false → (r : Result Entry ℕ) → r ≡ from_fields (k + 1) (parted 9 (take k bs)) → r ≡ read_line bs
  unfolding read_line
  line_read h r e = a_line (Err 9) from_fields bs k ke h r e

-- Bytes whose first line is there: a line feed, or 33 bytes.
abbrev pub Ready : List ℕ → Type 0
Ready bs = (33 ≤ length bs) ⊎ (length_before 10 bs < length bs)

-- ---- what holds of every line that is read

-- It is what stands before the first line feed, and that, from 1 to 33 of the bytes.
pub record Whole (bs : List ℕ) (used : ℕ) : Type 0 where
  pub ended : used ≡ suc (length_before 10 bs)
  pub within : used ≤ length bs
  pub short : used ≤ 33

-- what holds of a line that ends, whatever its fields, and of one that doesn't
pub start_case : {A : Type 0} (P : A → Type 0) (endless : A) (from : ℕ → List (List ℕ) → A) (bs : List ℕ) → P endless
    → ((used : ℕ) → Whole bs used → (fields : List (List ℕ)) → P (from used fields)) → P (from_start endless from bs)
start_case P endless from bs none some = go (dec_le (length (take 33 bs)) (length_before 10 (take 33 bs)))
  where
    go : Dec (length (take 33 bs) ≤ length_before 10 (take 33 bs)) → P (from_start endless from bs)
    go (yes h) = subst P (start_none endless from bs h) none
    go (no h) =
        let k : ℕ = length_before 10 (take 33 bs) in
        let l : k < length (take 33 bs) = omega arith in
        let t = length-take 33 bs in
        let w : Whole bs (suc k) = record { ended = ap suc (before_taken 10 33 bs l); within = omega (arith, l, t); short = omega (arith, l, t) } in
        subst P (start_some endless from bs l) (some (suc k) w (parted 9 (take k bs)))

-- a breath's line: a stop is one of 9 to 11
abbrev pub Sound : List ℕ → Result Entry ℕ → Type 0
Sound bs (Ok e) = Whole bs e.used
Sound bs (Err number) = (9 ≤ number) × (number ≤ 11)

module _ (bs : List ℕ) (used : ℕ) (w : Whole bs used) where
  ticks_sound : (onset peak next : Option ℕ) → Sound bs (from_ticks used onset peak next)
  unfolding from_ticks
  ticks_sound (Some o) (Some p) (Some n) = w
  ticks_sound None p n = (omega arith, omega arith)
  ticks_sound (Some o) None n = (omega arith, omega arith)
  ticks_sound (Some o) (Some p) None = (omega arith, omega arith)

  fields_sound : (l : List (List ℕ)) → Sound bs (from_fields used l)
  unfolding from_fields
  fields_sound [] = (omega arith, omega arith)
  fields_sound (x ∷ []) = (omega arith, omega arith)
  fields_sound (x ∷ y ∷ []) = (omega arith, omega arith)
  fields_sound (x ∷ y ∷ z ∷ []) = ticks_sound (read_tick x) (read_tick y) (read_tick z)
  fields_sound (x ∷ y ∷ z ∷ v ∷ more) = (omega arith, omega arith)

pub line_sound : (bs : List ℕ) → Sound bs (read_line bs)
unfolding read_line
line_sound bs = start_case (Sound bs) (Err 9) from_fields bs (omega arith, omega arith) (λ used w fields. fields_sound bs used w fields)

-- ---- the paper's words for stop 9, and the bytes that follow

module _ {A : Type 0} (endless : A) (from : ℕ → List (List ℕ) → A) where
  -- A line is endless (9, of both kinds) where over 32 bytes stand before its line feed, or there is none.
  pub line_words : (bs : List ℕ)
      → from_start endless from bs
      ≡ (if eqb (length_before 10 bs) (length bs) || ltb 32 (length_before 10 bs) then endless
      else from (suc (length_before 10 bs)) (parted 9 (take (length_before 10 bs) bs)))
  unfolding from_start
  line_words bs = go (length_before 10 bs) refl (dec_le 33 (length_before 10 bs)) (ℕ_discrete (length_before 10 bs) (length bs))
    where
      go : (K : ℕ) → length_before 10 bs ≡ K → Dec (33 ≤ length_before 10 bs) → Dec (length_before 10 bs ≡ length bs)
          → from_start endless from bs
          ≡ (if eqb (length_before 10 bs) (length bs) || ltb 32 (length_before 10 bs) then endless
          else from (suc (length_before 10 bs)) (parted 9 (take (length_before 10 bs) bs)))
      go K k (yes l) e =
          let i : length (take 33 bs) ≤ length_before 10 (take 33 bs) = omega (arith, before_far 10 33 bs l, length-take 33 bs) in
          rw (le-leb _ _ i, lt-ltb 32 (length_before 10 bs) l, or-true) refl
      go K k (no l) (yes e) =
          let n : length_before 10 (take 33 bs) ≡ length_before 10 bs = before_take 10 33 bs (omega arith) in
          let i : length (take 33 bs) ≤ length_before 10 bs = omega (arith, length-take 33 bs) in
          rw (n, le-leb _ _ i, eq-eqb _ _ e) refl
      go K k (no l) (no e) =
          let n : length_before 10 (take 33 bs) ≡ length_before 10 bs = before_take 10 33 bs (omega arith) in
          let i : length_before 10 bs < length (take 33 bs) = omega (arith, length-take 33 bs, before_le 10 bs) in
          let j : length_before 10 bs ≤ 32 = omega arith in
          rw (n, lt-leb _ _ i, ne_eqb _ _ e, le-ltb _ _ j) refl

  -- What follows a line feed doesn't change the line.
  pub ended_line : (bs more : List ℕ) → length_before 10 bs < length bs → from_start endless from (bs ++ more) ≡ from_start endless from bs
  ended_line bs more l =
      let k : length_before 10 (bs ++ more) ≡ length_before 10 bs = before_append 10 bs more l in
      let far : length_before 10 bs ≡ length (bs ++ more) → ⊥ = λ e. omega (arith, length-append bs more) in
      let near : length_before 10 bs ≡ length bs → ⊥ = λ e. omega arith in
      let same : take (length_before 10 bs) (bs ++ more) ≡ take (length_before 10 bs) bs = take-append-le (length_before 10 bs) bs more (omega arith) in
      let line : A = if ltb 32 (length_before 10 bs) then endless else from (suc (length_before 10 bs)) (parted 9 (take (length_before 10 bs) bs)) in
      let there : from_start endless from (bs ++ more) ≡ line = rw (line_words (bs ++ more), k, ne_eqb _ _ far, same) refl in
      let here : from_start endless from bs ≡ line = rw (line_words bs, ne_eqb _ _ near) refl in
      there ∙ sym here

  -- what stands behind a line's first 33 bytes doesn't count for it
  line_prefix : (m : ℕ) (bs : List ℕ) → 33 ≤ m → from_start endless from (take m bs) ≡ from_start endless from bs
  unfolding from_start
  line_prefix m bs h =
      let k : ℕ = length_before 10 (take 33 bs) in
      let few : k ≤ m = omega (arith, before_le 10 (take 33 bs), length-take 33 bs) in
      rw (take-take 33 m bs h, take-take k m bs few) refl

  pub ready_line : (bs more : List ℕ) → Ready bs → from_start endless from (bs ++ more) ≡ from_start endless from bs
  ready_line bs more (inl long) = sym (line_prefix (length bs) (bs ++ more) long) ∙ ap (from_start endless from) (take-append_seam bs more)
  ready_line bs more (inr l) = ended_line bs more l

pub ready_some : (bs : List ℕ) → Ready bs → 1 ≤ length bs
ready_some bs (inl long) = omega arith
ready_some bs (inr l) = omega arith

-- the bytes of a line that is read are there
pub whole_ready : (bs : List ℕ) (used m : ℕ) → Whole bs used → used ≤ m → Ready (take m bs)
whole_ready bs used m w h =
    let there : length_before 10 (take m bs) ≡ length_before 10 bs = before_take 10 m bs (omega (arith, w.ended)) in
    inr (omega (arith, there, length-take m bs, w.ended, w.within))
