-- Reading a line of three tick marks in one pass. Assumes nothing.
-- `three_ticks`: three tick marks, each ended by its byte, are the line that `read_line` says; so is the length of a line measured without its
-- numbers. `tick_at`, `tick_ends`: one tick mark, and the byte that ends it.
use mathlib.Core.Path.{◌≡◌, refl, sym, ap, ◌∙◌, subst}
use mathlib.Core.Bool.{Bool, true, false, ◌&&◌}
use mathlib.Core.List.{List, [], ◌∷◌, ◌++◌, append_assoc, append-nil}
use Prim.Native.Nat.{ℕ, suc, ◌+◌, ◌-◌, ◌*◌, ◌^◌, ◌≤◌, ◌<◌}
use native.Mathlib.Omega.{arith}
use native.Mathlib.Nat.{pow-le-pow_right}
use lib.Dec.{leb}
use lib.ListN.{length, get_or, take, drop, length-append, length-take, length-drop}
use lib.Seq.{length-take-le, take-take, split_at, take_at, drop_at, drop-drop, get_or-drop}
use borrow.Author.Tests.{ne_eqb}
use Rattle.std.specs.Prelude.{Option, Some, None, Ok, Err}
use Rattle.std.specs.Char.{is_ascii_digit}
use Rattle.breaths.specs.Breaths.{breath_of}
use Rattle.text.specs.Scan.{is_digit, in_first, parted, length_before}
use Rattle.recording.specs.Lines.{digits_from, from_ticks, from_fields, read_line}
use Rattle.recording.specs.Steps.{LeadingDigits, tick_of, is_begun, TickAt, BreathFound, DigitCount, TickEnd, TickEndFound, LineLength, LineLengthFound}
use Rattle.breaths.specs.declared.breath.Breath.{Breath}
use Rattle.recording.specs.declared.line.Entry.{Entry}
use Rattle.text.proofs.ScanLaws.{before_step, before_le, before_take}
use Rattle.text.proofs.PartLaws.{parted_step, parted_none}
use Rattle.recording.proofs.LineLaws.{Leading, leading_start, leading_end, leading_stopped, leading_next, digits_step, no_tick, digit_bounds, tick_begun, tick_small, leading_tick, start_some}

-- ---- a tick mark and the byte that ends it

pub tick_at : {bs : List ℕ} {from limit v c t : ℕ} (e : ℕ) → from + 11 ≤ length bs → limit ≤ from + 10 → LeadingDigits (take (limit - from) (drop from bs)) v c
    → get_or bs (from + c) 0 ≡ e → is_begun (take (from + c - from) (drop from bs)) ≡ true → tick_of v ≡ Some t → TickAt bs from e t (from + c + 1)
tick_at {bs} {from} {limit} {v} {c} {t} e long few l ended begun small =
    let rest : List ℕ = drop from bs in
    let most : c ≤ limit - from = omega (arith, l.within, length-take (limit - from) rest) in
    let more : c < length rest = omega (arith, most, length-drop from bs) in
    let exact : length (take c rest) ≡ c = length-take-le c rest (omega arith) in
    let count : from + c - from ≡ c = omega arith in
    let begins : is_begun (take c rest) ≡ true = ap (λ (n : ℕ). is_begun (take n rest)) (sym count) ∙ begun in
    let last : get_or rest c 0 ≡ e = get_or-drop from bs c 0 ∙ ended in
    let digits : digits_from 0 (take c rest) ≡ Some t = ap (digits_from 0) (sym (take-take c (limit - from) rest most)) ∙ leading_tick l ∙ small in
    record {
      field = take c rest;
      rest = drop (suc c) rest;
      bytes = split_at rest c 0 more ∙ ap (λ (x : ℕ). take c rest ++ (x ∷ drop (suc c) rest)) last;
      digits = digits;
      tick = sym (tick_begun (take c rest) begins) ∙ digits;
      place = omega (arith, exact);
      short = omega (arith, most);
    }

module _ {bs : List ℕ} {from e : ℕ} where
  module _ {t u : ℕ} (o : TickAt bs from e t u) where
    rest_is : drop u bs ≡ o.rest
    rest_is =
        let front : List ℕ = o.field ++ (e ∷ []) in
        let whole : drop from bs ≡ front ++ o.rest = o.bytes ∙ sym (append_assoc o.field (e ∷ []) o.rest) in
        let long : length front ≡ suc (length o.field) = omega (arith, length-append o.field (e ∷ [])) in
        ap (λ (j : ℕ). drop j bs) o.place ∙ sym (drop-drop (suc (length o.field)) from bs) ∙ ap (drop (suc (length o.field))) whole
        ∙ drop_at front o.rest (suc (length o.field)) long

-- ---- digits hold no tab and no line feed

module _ (b : ℕ) (low : b < 48) where
  before_digits : (v : ℕ) (f : List ℕ) (t : ℕ) → digits_from v f ≡ Some t → (r : List ℕ) → length_before b (f ++ r) ≡ length f + length_before b r
  before_digits v [] t e r = omega arith
  before_digits v (x ∷ xs) t e r = go (is_digit x && leb (v * 10 + (x - 48)) 4294967295) refl (before_digits (v * 10 + (x - 48)) xs t)
    where
      go : (s : Bool) → (is_digit x && leb (v * 10 + (x - 48)) 4294967295) ≡ s
          → (digits_from (v * 10 + (x - 48)) xs ≡ Some t → (r : List ℕ) → length_before b (xs ++ r) ≡ length xs + length_before b r)
          → length_before b (x ∷ (xs ++ r)) ≡ suc (length xs) + length_before b r
      go false f ih = absurd (no_tick t (sym (digits_step v x xs false f) ∙ e))
      go true f ih =
          let other : x ≡ b → ⊥ = λ z. omega (arith, (digit_bounds x _ f).0) in
          omega (arith, before_step b x (xs ++ r) false (ne_eqb x b other), ih (sym (digits_step v x xs true f) ∙ e) r)

fields_digits : (v : ℕ) (f : List ℕ) (t : ℕ) → digits_from v f ≡ Some t → (r : List ℕ) → parted 9 (f ++ (9 ∷ r)) ≡ f ∷ parted 9 r
fields_digits v [] t e r = parted_step 9 9 r true refl
fields_digits v (x ∷ xs) t e r = go (is_digit x && leb (v * 10 + (x - 48)) 4294967295) refl (fields_digits (v * 10 + (x - 48)) xs t)
  where
    go : (s : Bool) → (is_digit x && leb (v * 10 + (x - 48)) 4294967295) ≡ s
        → (digits_from (v * 10 + (x - 48)) xs ≡ Some t → (r : List ℕ) → parted 9 (xs ++ (9 ∷ r)) ≡ xs ∷ parted 9 r)
        → parted 9 (x ∷ (xs ++ (9 ∷ r))) ≡ (x ∷ xs) ∷ parted 9 r
    go false f ih = absurd (no_tick t (sym (digits_step v x xs false f) ∙ e))
    go true f ih =
        let other : x ≡ 9 → ⊥ = λ z. omega (arith, (digit_bounds x _ f).0) in
        parted_step 9 x (xs ++ (9 ∷ r)) false (ne_eqb x 9 other) ∙ ap (in_first x) (ih (sym (digits_step v x xs true f) ∙ e) r)

fields_last : (f : List ℕ) (t : ℕ) → digits_from 0 f ≡ Some t → parted 9 f ≡ f ∷ []
fields_last f t e =
    parted_none 9 f (omega (arith, before_digits 9 (omega arith) 0 f t e [], ap (length_before 9) (append-nil f), before_le 9 []))

-- ---- three tick marks

module _ {bs : List ℕ} {o p n i j k : ℕ} (x : TickAt bs 0 9 o i) (y : TickAt bs i 9 p j) (z : TickAt bs j 10 n k) where
  -- the line without its line feed
  abbrev line : List ℕ
  line = x.field ++ (9 ∷ (y.field ++ (9 ∷ z.field)))

  behind_peak : x.rest ≡ y.field ++ (9 ∷ (z.field ++ (10 ∷ z.rest)))
  behind_peak = sym (rest_is x) ∙ y.bytes ∙ ap (λ (r : List ℕ). y.field ++ (9 ∷ r)) (sym (rest_is y) ∙ z.bytes)

  all_bytes : bs ≡ x.field ++ (9 ∷ (y.field ++ (9 ∷ (z.field ++ (10 ∷ z.rest)))))
  all_bytes = x.bytes ∙ ap (λ (r : List ℕ). x.field ++ (9 ∷ r)) behind_peak

  as_line : bs ≡ line ++ (10 ∷ z.rest)
  as_line =
      all_bytes
      ∙ ap (λ (r : List ℕ). x.field ++ (9 ∷ r)) (sym (append_assoc y.field (9 ∷ z.field) (10 ∷ z.rest)))
      ∙ sym (append_assoc x.field (9 ∷ (y.field ++ (9 ∷ z.field))) (10 ∷ z.rest))

  line_length : k ≡ suc (length line)
  line_length =
      omega (
        arith,
        x.place,
        y.place,
        z.place,
        length-append x.field (9 ∷ (y.field ++ (9 ∷ z.field))),
        length-append y.field (9 ∷ z.field),
      )

  feed : length_before 10 bs ≡ length line
  feed =
      let tens : 10 < 48 = omega arith in
      let c : List ℕ = z.field ++ (10 ∷ z.rest) in
      let b : List ℕ = y.field ++ (9 ∷ c) in
      omega (
        arith,
        ap (length_before 10) all_bytes,
        before_digits 10 tens 0 x.field o x.digits (9 ∷ b),
        before_step 10 9 b false refl,
        before_digits 10 tens 0 y.field p y.digits (9 ∷ c),
        before_step 10 9 c false refl,
        before_digits 10 tens 0 z.field n z.digits (10 ∷ z.rest),
        before_step 10 10 z.rest true refl,
        x.place,
        y.place,
        z.place,
        line_length,
      )

  three_fields : parted 9 line ≡ x.field ∷ y.field ∷ z.field ∷ []
  three_fields =
      fields_digits 0 x.field o x.digits (y.field ++ (9 ∷ z.field))
      ∙ ap (λ (l : List (List ℕ)). x.field ∷ l)
      (fields_digits 0 y.field p y.digits z.field ∙ ap (λ (l : List (List ℕ)). y.field ∷ l) (fields_last z.field n z.digits))

  ticks : (used : ℕ) → from_fields used (x.field ∷ y.field ∷ z.field ∷ []) ≡ Ok (record { breath = breath_of o p n; used = used })
  unfolding from_fields from_ticks
  ticks used = rw (x.tick, y.tick, z.tick) refl

  pub breath_read : (b : Breath) → b ≡ breath_of o p n → Ok (record { breath = b; used = k }) ≡ read_line bs
  unfolding read_line
  breath_read b be =
      let short : k ≤ 33 = omega (arith, x.short, y.short, z.short) in
      let few : length_before 10 (take 33 bs) ≡ length line = before_take 10 33 bs (omega (arith, feed, line_length)) ∙ feed in
      let long : length bs ≡ length line + suc (length z.rest) = ap length as_line ∙ length-append line (10 ∷ z.rest) in
      let within : length_before 10 (take 33 bs) < length (take 33 bs) = omega (arith, few, long, line_length, length-take 33 bs) in
      let taken : take (length line) bs ≡ line = ap (take (length line)) as_line ∙ take_at line (10 ∷ z.rest) (length line) refl in
      sym (
      sym (start_some (Err 9) from_fields bs within)
      ∙ ap (λ (m : ℕ). from_fields (suc m) (parted 9 (take m bs))) few
      ∙ ap (λ (l : List ℕ). from_fields (suc (length line)) (parted 9 l)) taken
      ∙ ap (from_fields (suc (length line))) three_fields
      ∙ ticks (suc (length line))
      ∙ ap (λ (u : ℕ). Ok (record { breath = breath_of o p n; used = u })) (sym line_length)
      ∙ ap (λ (c : Breath). Ok (record { breath = c; used = k })) (sym be)
      )

pub breath_found : (bs : List ℕ) {s : Option Entry} {x : Entry} → BreathFound bs s → s ≡ Some x → Ok x ≡ read_line bs
breath_found bs w d = subst (BreathFound bs) d w

-- ---- the same without the numbers

-- digits so far, whatever their number
pub record Running (bs : List ℕ) (i : ℕ) : Type 0 where
  pub value : ℕ
  pub leading : Leading bs value i

pub running_start : (bs : List ℕ) → Running bs 0
running_start bs = record { value = 0; leading = leading_start bs }

module _ {bs : List ℕ} {i : ℕ} (d : Running bs i) where
  pub running_end : i ≡ length bs → DigitCount bs i
  running_end e = record { value = d.value; leading = leading_end d.leading e }

  module _ (l : i < length bs) where
    pub running_stopped : is_ascii_digit (get_or bs i 0) ≡ false → DigitCount bs i
    running_stopped h = record { value = d.value; leading = leading_stopped d.leading l h }

    pub running_next : is_ascii_digit (get_or bs i 0) ≡ true → Running bs (i + 1)
    running_next h = record { value = d.value * 10 + (get_or bs i 0 - 48); leading = leading_next d.leading l h }

-- nine digits are no number above the largest
pub tick_ends : {bs : List ℕ} {from c : ℕ} (e : ℕ) → from + 11 ≤ length bs → DigitCount (take (from + 9 - from) (drop from bs)) c → get_or bs (from + c) 0 ≡ e
    → is_begun (take (from + c - from) (drop from bs)) ≡ true → TickEnd bs from e (from + c + 1)
tick_ends {bs} {from} {c} e long r ended begun =
    let l : LeadingDigits (take (from + 9 - from) (drop from bs)) r.value c = r.leading in
    let nine : 10 ^ c ≤ 10 ^ 9 = pow-le-pow_right {n = 10} (omega arith) {i = c} {j = 9} (omega (arith, l.within, length-take (from + 9 - from) (drop from bs))) in
    record { ticks = r.value; tick = tick_at e long (omega arith) l ended begun (tick_small (omega (arith, l.few, nine))) }

three_ticks : {bs : List ℕ} {i j k : ℕ} → TickEnd bs 0 9 i → TickEnd bs i 9 j → TickEnd bs j 10 k → LineLength bs k
three_ticks x y z =
    record {
      breath = breath_of x.ticks y.ticks z.ticks;
      read = breath_read x.tick y.tick z.tick (breath_of x.ticks y.ticks z.ticks) refl;
    }

pub length_found : {bs : List ℕ} {i j : ℕ} → TickEnd bs 0 9 i → TickEnd bs i 9 j → (k : Option ℕ) → TickEndFound bs j 10 k → LineLengthFound bs k
length_found x y (Some k) z = three_ticks x y z
length_found x y None z = tt

pub length_there : (bs : List ℕ) {k : Option ℕ} {used : ℕ} → LineLengthFound bs k → k ≡ Some used → LineLength bs used
length_there bs w d = subst (LineLengthFound bs) d w
