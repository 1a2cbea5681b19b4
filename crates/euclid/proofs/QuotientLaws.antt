-- Partial quotients in a lent list, and the count alone. Assumes nothing.
-- `count_tells`: what the count alone tells of every list. `list_by_count`: the same as one equation. `count_stops`: its stops.
-- `quotients_at_most`: a word has at most 2k quotients. `example_list`, `example`: 277/642, and counts of words. `value_quotients_lem`: the
-- quotients of a value are those of its pair. `store_end`: what the loop comes to.
use mathlib.Core.Path.{◌≡◌, refl, sym, ap, ◌∙◌, subst}
use mathlib.Core.Bool.{Bool, true, false}
use mathlib.Core.Logic.{◌↔◌, ◌⊎◌, ⊎_elim}
use mathlib.Core.List.{List, [], ◌∷◌, ◌++◌, append_assoc, append-nil}
use Prim.Native.Nat.{ℕ, ◌+◌, ◌*◌, ◌/◌, ◌%◌, ◌^◌, ◌≤◌, ◌<◌}
use native.Mathlib.Omega.{arith}
use native.Mathlib.Numerals.{add-one}
use lib.ListN.{length, take, drop, set, length-set, length-append, take-append-drop}
use lib.Seq.{length-take-le, take-suc-set, drop-set-lt, drop-drop}
use lib.Dec.{leb, ltb}
use borrow.Author.Tests.{le-leb, lt-leb, leb-true, leb-false, ltb-true, ltb-false}
use Rattle.std.specs.Prelude.{if◌then◌else◌, Ok, Err}
use Rattle.convergents.specs.Convergents.{euclid, quotients}
use Rattle.convergents.specs.Pairs.{Pair, pair}
use Rattle.slash.specs.Answers.{Outcome, stop, done, ◌then◌}
use Rattle.slash.specs.Bits.{bits, bit}
use Rattle.slash.specs.Formats.{known, k_fits, check_format, width_of, format_of}
use Rattle.slash.specs.Numbers.{parts_of, pair_of}
use Rattle.slash.specs.Reading.{fixed_value, fixed_number, number_of, number_in, is_above, check_word, checked_word, read_word}
use Rattle.slash.proofs.AnswerLaws.{then_stop, then_done, done_inj, stop_inj, no_stop}
use Rattle.slash.proofs.FormatLaws.{known_k, largest_below}
use Rattle.slash.proofs.ReadingLaws.{checked_known, checked_number, checked_read, check_good, check_value, read_stops}
use Rattle.slash.proofs.CanonicalLaws.{held_most, read_known, read_held}
use Rattle.slash.specs.declared.format.Format.{Format}
use Rattle.slash.specs.declared.answer.Stop.{Stop}
use Rattle.slash.specs.declared.reading.GoodWord.{GoodWord}
use Rattle.slash.specs.declared.number.Number.{Number}
use Rattle.slash.specs.declared.number.Parts.{Parts}
use Rattle.slash.specs.declared.number.Value.{Value}
use Rattle.slash.specs.declared.number.Value.TheVariants.{Fraction, Zero, Infinity, NotANumber}
use Rattle.euclid.specs.Quotients.{value_quotients, word_quotients, count_alone, count_in, stored_in, quotient_count, quotients_after}
use Rattle.euclid.proofs.CountLaws.{next_quotient, no_quotient, few}

-- ---- examples

-- the quotients of 277/642
pub example_list : word_quotients (format_of 1 15) 0x01150282 ≡ done (0 ∷ 2 ∷ 3 ∷ 6 ∷ 1 ∷ 3 ∷ 3 ∷ [])
unfolding word_quotients read_word check_word check_format known k_fits is_above width_of number_of fixed_number fixed_value bits bit value_quotients quotients euclid
example_list = refl

-- and how many they are; zero has one; infinity and not-a-number have none
pub example : (count_alone (format_of 1 15) 0x01150282 ≡ done 7) × (count_alone (format_of 1 15) 0x00000001 ≡ done 1)
    × (count_alone (format_of 1 15) 0x00010000 ≡ done 0) × (count_alone (format_of 1 15) 0x00000000 ≡ done 0)
unfolding count_alone word_quotients read_word check_word check_format known k_fits is_above width_of number_of fixed_number fixed_value bits bit value_quotients quotients euclid
example = (refl, refl, refl, refl)

-- ---- storing

pub record Storing (N D : ℕ) (old list : List ℕ) (u v i : ℕ) : Type 0 where
  pub long : length list ≡ length old
  pub at : i ≤ length list
  pub rest : drop i list ≡ drop i old
  pub total : take i list ++ quotients u v ≡ quotients N D

pub store_start : (N D : ℕ) (old : List ℕ) → Storing N D old old N D 0
store_start N D old =
    record { long = refl; at = omega arith; rest = refl; total = refl }

module _ {N D : ℕ} {old list : List ℕ} {u v i : ℕ} (s : Storing N D old list u v i) where
  module _ (room : length (quotients N D) ≤ length old) (l : 1 ≤ v) where
    pub store_room : i < length list
    store_room =
        let e : length (take i list ++ quotients u v) ≡ length (quotients N D) = ap length s.total in
        omega (arith, length-append (take i list) (quotients u v), length-take-le i list s.at, ap length (next_quotient u v l), s.long)

    pub store_next : Storing N D old (set list i (u / v)) v (u % v) (i + 1)
    store_next =
        let r : i < length list = store_room in
        record {
          long = length-set list i (u / v) ∙ s.long;
          at = omega (arith, length-set list i (u / v));
          rest =
              drop-set-lt (i + 1) list i (u / v) (omega arith) ∙ sym (drop-drop 1 i list)
              ∙ ap (λ (k : List ℕ). drop 1 k) s.rest ∙ drop-drop 1 i old;
          total =
              rw (add-one, take-suc-set list i (u / v) r, append_assoc)
              (ap (λ (k : List ℕ). take i list ++ k) (sym (next_quotient u v l)) ∙ s.total);
        }

  pub store_end : v ≡ 0 → (i ≡ length (quotients N D)) × (list ≡ quotients N D ++ drop (length (quotients N D)) old)
  store_end z =
      let e : take i list ≡ quotients N D =
      sym (append-nil (take i list)) ∙ ap (λ (k : List ℕ). take i list ++ k) (sym (no_quotient u v z)) ∙ s.total
      in
      let k : length (quotients N D) ≡ i = ap length (sym e) ∙ length-take-le i list s.at in
      (sym k, sym (take-append-drop i list) ∙ rw (e, k, s.rest) refl)

-- ---- a list that is long enough, or not

module _ (list new : List ℕ) where
  pub enough : (n : ℕ) (after : List ℕ) → n ≡ length new → ltb (length list) (length new) ≡ false → after ≡ new ++ drop (length new) list
      → (done n ≡ count_in list new) × (after ≡ stored_in list new)
  unfolding count_in stored_in
  enough n after e h f =
      let g : length new ≤ length list = ltb-false _ _ h in
      (rw (le-leb _ _ g, e) refl, rw (le-leb _ _ g, f) refl)

  pub too_short : ltb (length list) (length new) ≡ true → (stop 7 0 ≡ count_in list new) × (list ≡ stored_in list new)
  unfolding count_in stored_in
  too_short h =
      let g : length list < length new = ltb-true _ _ h in
      (rw (lt-leb _ _ g) refl, rw (lt-leb _ _ g) refl)

-- ---- the quotients of a value are those of its pair

pub value_quotients_lem : (v : Value) → quotients (pair_of v).numerator (pair_of v).denominator ≡ value_quotients v
unfolding pair_of value_quotients
value_quotients_lem (Fraction p) = refl
value_quotients_lem (Zero s) = refl
value_quotients_lem (Infinity s) = no_quotient 1 0 refl
value_quotients_lem NotANumber = no_quotient 0 0 refl

-- ---- a word's quotients

-- a good word, whose parts are p
pub record WordParts (f : Format) (w : ℕ) (p : Parts) : Type 0 where
  pub checked : check_word f w ≡ done tt
  pub same : pair p.numerator p.denominator ≡ pair_of (number_of f w).value

-- what `check`, `value` and `parts_of` answered of it
pub word_parts : (f : Format) (w : ℕ) {r : Outcome GoodWord} → r ≡ checked_word f w → {g : GoodWord} → r ≡ Ok g → {v : Value}
    → v ≡ (number_in g.format g.word).value → {p : Parts} → p ≡ parts_of v → WordParts f w p
unfolding pair_of
word_parts f w h e ve pe =
    let c = check_good f w h e in
    record { checked = c; same = rw (pe, check_value f w h e ve, checked_number f w c) refl }

module _ {f : Format} {w : ℕ} {p : Parts} (g : WordParts f w p) where
  pub word_small : (p.numerator < 2 ^ 32) × (p.denominator < 2 ^ 32) × (p.denominator < 2 ^ f.k) × (f.k ≤ 32)
  word_small =
      let h = checked_known f w g.checked in
      subst (λ (q : Pair). (q.numerator < 2 ^ 32) × (q.denominator < 2 ^ 32) × (q.denominator < 2 ^ f.k) × (f.k ≤ 32)) (sym g.same)
      (omega (arith, held_most f h (number_of f w).value (read_held f h w _ (checked_read f w g.checked)), largest_below f h, known_k f h))

  pub word_few : length (quotients p.numerator p.denominator) ≤ 2 * f.k
  word_few = few f.k p.numerator p.denominator word_small.2

  pub word_done : done (quotients p.numerator p.denominator) ≡ word_quotients f w
  unfolding word_quotients
  word_done =
      then_done _ (sym (checked_read f w g.checked))
      (ap (λ (y : Pair). done (quotients y.numerator y.denominator)) g.same ∙ ap done (value_quotients_lem (number_of f w).value))

-- a word that reading stops
pub word_stop : (f : Format) (w : ℕ) {s : Stop} → Err s ≡ read_word f w → Err s ≡ word_quotients f w
unfolding word_quotients
word_stop f w e = then_stop _ e

-- what the two calls make of the quotients, or of the stop
module _ (f : Format) (w : ℕ) where
  pub count_done : {new : List ℕ} → done new ≡ word_quotients f w → {n : ℕ} → n ≡ length new → done n ≡ count_alone f w
  unfolding count_alone
  count_done d e = then_done _ d (ap done e)

  pub count_stop : {s : Stop} → Err s ≡ word_quotients f w → Err s ≡ count_alone f w
  unfolding count_alone
  count_stop e = then_stop _ e

  module _ (list : List ℕ) where
    pub quotients_done : {new : List ℕ} → done new ≡ word_quotients f w → (o : Outcome ℕ) (after : List ℕ)
        → (o ≡ count_in list new) × (after ≡ stored_in list new) → (o ≡ quotient_count f w list) × (after ≡ quotients_after (word_quotients f w) list)
    unfolding quotient_count quotients_after
    quotients_done d o after s = (then_done _ d s.0, s.1 ∙ ap (λ (k : Outcome (List ℕ)). quotients_after k list) d)

    pub quotients_stop : {s : Stop} → Err s ≡ word_quotients f w → (Err s ≡ quotient_count f w list) × (list ≡ quotients_after (word_quotients f w) list)
    unfolding quotient_count quotients_after
    quotients_stop e = (then_stop _ e, ap (λ (o : Outcome (List ℕ)). quotients_after o list) e)

-- At most 2k quotients.
pub quotients_at_most : (f : Format) (w : ℕ) (new : List ℕ) → word_quotients f w ≡ done new → length new ≤ 2 * f.k
unfolding word_quotients
quotients_at_most f w new e = go (read_word f w) refl
  where
    go : (o : Outcome Number) → read_word f w ≡ o → length new ≤ 2 * f.k
    go (Err t) r = absurd (no_stop (sym (ap (λ (o : Outcome Number). o then λ x. done (value_quotients x.value)) r) ∙ e))
    go (Ok x) r =
        let h = read_known f w x r in
        let v : Value = x.value in
        let same : value_quotients v ≡ new = done_inj (sym (ap (λ (o : Outcome Number). o then λ y. done (value_quotients y.value)) r) ∙ e) in
        let below : (pair_of v).denominator < 2 ^ f.k = omega (arith, held_most f h v (read_held f h w x r), largest_below f h) in
        let b = few f.k (pair_of v).numerator (pair_of v).denominator below in
        omega (arith, ap length (value_quotients_lem v ∙ same))

-- ---- the count alone, and every list

-- what a list gets of so many quotients
abbrev pub listed : List ℕ → ℕ → Outcome ℕ
listed list n = if leb n (length list) then done n else stop 7 0

module _ (list : List ℕ) where
  listed_long : (n : ℕ) → n ≤ length list → listed list n ≡ done n
  listed_long n h = rw (le-leb _ _ h) refl

  listed_short : (n : ℕ) → length list < n → listed list n ≡ stop 7 0
  listed_short n h = rw (lt-leb _ _ h) refl

  long_is : (o : Outcome ℕ) (n : ℕ) → ((o then listed list) ≡ done n) ↔ ((o ≡ done n) × (n ≤ length list))
  long_is (Err t) n = (λ e. absurd (no_stop e), λ e. absurd (no_stop e.0))
  long_is (Ok m) n = (
    pick (leb m (length list)) refl,
    λ e. listed_long m (subst (λ (x : ℕ). x ≤ length list) (sym (done_inj e.0)) e.1) ∙ e.0,
  )
    where
      pick : (b : Bool) → leb m (length list) ≡ b → (if b then done m else stop 7 0) ≡ done n → (done m ≡ done n) × (n ≤ length list)
      pick true t e = (e, subst (λ (x : ℕ). x ≤ length list) (done_inj e) (leb-true _ _ t))
      pick false t e = absurd (no_stop e)

  short_is : (o : Outcome ℕ) → (o ≡ stop 7 0 → ⊥)
      → ((o then listed list) ≡ stop 7 0) ↔ ((n : ℕ) × (o ≡ done n) × (length list < n))
  short_is (Err t) never = (λ e. absurd (never e), λ e. absurd (no_stop e.1))
  short_is (Ok m) never = (
    pick (leb m (length list)) refl,
    λ e. listed_short m (subst (λ (x : ℕ). length list < x) (sym (done_inj e.1)) e.2),
  )
    where
      pick : (b : Bool) → leb m (length list) ≡ b → (if b then done m else stop 7 0) ≡ stop 7 0 → (n : ℕ) × (done m ≡ done n) × (length list < n)
      pick true t e = absurd (no_stop (sym e))
      pick false t e = (m, refl, leb-false _ _ t)

  stopped_is : (o : Outcome ℕ) (n p : ℕ) → (n ≡ 7 → ⊥) → ((o then listed list) ≡ stop n p) ↔ (o ≡ stop n p)
  stopped_is (Err t) n p other = (λ e. e, λ e. e)
  stopped_is (Ok m) n p other = (pick (leb m (length list)), λ e. absurd (no_stop (sym e)))
    where
      pick : (b : Bool) → (if b then done m else stop 7 0) ≡ stop n p → done m ≡ stop n p
      pick true e = e
      pick false e = absurd (other (sym (stop_inj e).0))

module _ (f : Format) (w : ℕ) where
  -- The count alone has the stops of reading, and so no stop 7.
  pub count_stops : {n p : ℕ} → count_alone f w ≡ stop n p → ((n ≡ 1) ⊎ ((n ≡ 4) ⊎ (n ≡ 5))) × (p ≡ 0)
  unfolding count_alone word_quotients
  count_stops {n} {p} = go (read_word f w) refl
    where
      go : (o : Outcome Number) → read_word f w ≡ o → ((o then λ x. done (value_quotients x.value)) then λ new. done (length new)) ≡ stop n p
          → ((n ≡ 1) ⊎ ((n ≡ 4) ⊎ (n ≡ 5))) × (p ≡ 0)
      go (Err t) r e =
          let same : t ≡ record { number = n; place = p } = cc in
          read_stops f w (r ∙ ap Err same)
      go (Ok x) r e = absurd (no_stop (sym e))

  never_7 : count_alone f w ≡ stop 7 0 → ⊥
  never_7 e = ⊎_elim (λ a. omega arith) (⊎_elim (λ b. omega arith) (λ c. omega arith)) (count_stops e).0

module _ (f : Format) (w : ℕ) (list : List ℕ) where
  -- What a list gets goes by the count alone and the list's length.
  pub list_by_count : quotient_count f w list ≡ (count_alone f w then listed list)
  unfolding quotient_count count_alone count_in
  list_by_count = go (word_quotients f w)
    where
      go : (o : Outcome (List ℕ)) → (o then count_in list) ≡ ((o then λ new. done (length new)) then listed list)
      go (Err t) = refl
      go (Ok new) = refl

  -- The same in the paper's words.
  pub record CountTells : Type 0 where
    -- the count alone stops with 1, 4 or 5, or is a count
    pub alone : (n p : ℕ) → count_alone f w ≡ stop n p → ((n ≡ 1) ⊎ ((n ≡ 4) ⊎ (n ≡ 5))) × (p ≡ 0)
    -- it is the count that a long enough list gets
    pub long : (n : ℕ) → (quotient_count f w list ≡ done n) ↔ ((count_alone f w ≡ done n) × (n ≤ length list))
    -- 7 falls exactly on lists shorter than it
    pub short : (quotient_count f w list ≡ stop 7 0) ↔ ((n : ℕ) × (count_alone f w ≡ done n) × (length list < n))
    -- and every other stop is that of the count alone
    pub stopped : (n p : ℕ) → (n ≡ 7 → ⊥) → (quotient_count f w list ≡ stop n p) ↔ (count_alone f w ≡ stop n p)

  pub count_tells : CountTells
  count_tells =
      let back : (count_alone f w then listed list) ≡ quotient_count f w list = sym list_by_count in
      record {
        alone = λ n p. count_stops f w;
        long = λ n. subst (λ (q : Outcome ℕ). (q ≡ done n) ↔ ((count_alone f w ≡ done n) × (n ≤ length list))) back (long_is list (count_alone f w) n);
        short =
            subst (λ (q : Outcome ℕ). (q ≡ stop 7 0) ↔ ((n : ℕ) × (count_alone f w ≡ done n) × (length list < n))) back
            (short_is list (count_alone f w) (never_7 f w));
        stopped = λ n p other. subst (λ (q : Outcome ℕ). (q ≡ stop n p) ↔ (count_alone f w ≡ stop n p)) back (stopped_is list (count_alone f w) n p other);
      }
