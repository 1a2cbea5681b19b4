-- What a record holds, by the tests of the code, and its word. Assumes nothing.
-- `timed`, `untimed`, `given`, `not_given`, `no_kind`: kind 1, kind 2 and others. `content_keeps`: what a record holds keeps the rules.
-- `content_exact`: N over D of every good record is the ratio of its numbers' IEEE values. `record_rounded`: demand 2, and the mark.
-- `record_best`: demand 3.
use mathlib.Core.Path.{◌≡◌, refl, sym, ap, ap₂, ◌∙◌, subst}
use mathlib.Core.Bool.{Bool, true, false, ◌&&◌, true≢false}
use mathlib.Core.List.{List, [], ◌∷◌}
use Prim.Native.Nat.{ℕ, ◌+◌, ◌*◌, ◌≤◌, ◌<◌}
use native.Mathlib.Omega.{arith}
use native.Mathlib.Nat.{lt_of_le_of_lt}
use lib.Dec.{eqb, leb, ltb}
use lib.ListN.{get_or, take, drop, length}
use lib.Ieee.{Float, binary32, of_bits}
use lib.Ieee.Positive.{num, den}
use borrow.Author.Tests.{lt-ltb, le-leb, leb-true, ltb-true, eqb-true, eq-eqb, ne_eqb}
use Rattle.convergents.specs.Pairs.{differs}
use Rattle.convergents.specs.Rounding.{round}
use Rattle.std.specs.Prelude.{Ok, Err}
use Rattle.std.specs.Int.{w32, from_le_bytes}
use Rattle.slash.specs.Answers.{Outcome, stop, done, ◌then◌, WhenDone}
use Rattle.slash.specs.Steps.{or_zero}
use Rattle.slash.specs.Formats.{holds}
use Rattle.slash.specs.Reading.{number_of}
use Rattle.slash.specs.declared.answer.Stop.{Stop}
use Rattle.slash.proofs.AnswerLaws.{done_inj, and_parts, if_case}
use Rattle.vectors.specs.Each.{stop_only}
use Rattle.vectors.proofs.EachLaws.{word_at}
use Rattle.breaths.specs.Ratios.{ratio_format, ratio_word, word_of, fraction_of}
use Rattle.breaths.specs.declared.ratio.Ratio.{Ratio}
use Rattle.breaths.proofs.RatioLaws.{ratio_best, ratio_rounded, ratio_mark, parts_some}
use Rattle.importing.specs.Floats.{least, one, beyond, is_timing, are_timings, is_ratio, float_ratio}
use Rattle.importing.specs.Records.{Record, Content, timings, ratio, lowest_first, number_at, record_of, content_of, content_ratio, record_word, BestRecord}
use Rattle.importing.specs.Steps.{bits_of, imported_content, InOrder, KeepsRules, rounded_ratio, check_record}
use Rattle.importing.specs.declared.record.Timings.{Timings}
use Rattle.importing.specs.declared.record.Imported.{Imported}
use Rattle.importing.proofs.ValueLaws.{some_value, ratio_exact, number_exact}
use Rattle.importing.proofs.FloatLaws.{bits_back, some_denominator}

-- ---- bytes

four_bytes : (a b c d : ℕ) → from_le_bytes w32 (a ∷ b ∷ c ∷ d ∷ []) ≡ lowest_first (a ∷ b ∷ c ∷ d ∷ [])
unfolding lowest_first
four_bytes a b c d = omega arith

-- the answer of `number_at`
pub number_is : (s : List ℕ) (at n : ℕ) → at + 4 ≤ length s
    → n ≡ from_le_bytes w32 (get_or s at 0 ∷ get_or s (at + 1) 0 ∷ get_or s (at + 2) 0 ∷ get_or s (at + 3) 0 ∷ []) → n ≡ number_at s at
unfolding number_at
number_is s at n h e = e ∙ four_bytes _ _ _ _ ∙ ap lowest_first (sym four)
  where
    next : (i : ℕ) → drop (at + i + 1) s ≡ drop (at + (i + 1)) s
    next i = let e : at + i + 1 ≡ at + (i + 1) = omega arith in ap (λ (j : ℕ). drop j s) e

    four : take 4 (drop at s) ≡ get_or s at 0 ∷ get_or s (at + 1) 0 ∷ get_or s (at + 2) 0 ∷ get_or s (at + 3) 0 ∷ []
    four = rw (word_at s at (omega arith), word_at s (at + 1) (omega arith), next 1, word_at s (at + 2) (omega arith), next 2, word_at s (at + 3) (omega arith)) refl

-- ---- the tests

pub timings_held : (a b : ℕ) → are_timings a b ≡ true → InOrder a b
unfolding are_timings is_timing
timings_held a b e =
    let t = and_parts _ _ e in
    let u = and_parts _ _ t.1 in
    record {
      from = leb-true _ _ (and_parts (leb least a) (ltb a beyond) t.0).0;
      order = leb-true _ _ u.1;
      below = ltb-true _ _ (and_parts (leb least b) (ltb b beyond) u.0).1;
    }

timings_hold : (a b : ℕ) → InOrder a b → are_timings a b ≡ true
unfolding are_timings is_timing
timings_hold a b o =
    let l : least ≤ b = omega (arith, o.from, o.order) in
    let h : a < beyond = lt_of_le_of_lt o.order o.below in
    rw (le-leb least a o.from, lt-ltb a beyond h, le-leb least b l, lt-ltb b beyond o.below, le-leb a b o.order) refl

pub not_timings : (a b : ℕ) → are_timings a b ≡ false → InOrder a b → ⊥
not_timings a b e o = true≢false (sym (timings_hold a b o) ∙ e)

-- what isn't true is false
untrue : (t : Bool) → (t ≡ true → ⊥) → t ≡ false
untrue true n = absurd (n refl)
untrue false n = refl

-- the answer of `are_timings`
pub tests_are : (a b : ℕ) → (leb least a && leb a b && ltb b beyond) ≡ are_timings a b
tests_are a b = go (are_timings a b) refl
  where
    go : (t : Bool) → are_timings a b ≡ t → (leb least a && leb a b && ltb b beyond) ≡ are_timings a b
    go true e = let o = timings_held a b e in rw (e, le-leb least a o.from, le-leb a b o.order, lt-ltb b beyond o.below) refl
    go false e = untrue _ (λ t. not_timings a b e (tests_held t)) ∙ sym e
      where
        tests_held : (leb least a && leb a b && ltb b beyond) ≡ true → InOrder a b
        tests_held t =
            let u = and_parts (leb least a && leb a b) (ltb b beyond) t in
            let v = and_parts (leb least a) (leb a b) u.0 in
            record { from = leb-true _ _ v.0; order = leb-true _ _ v.1; below = ltb-true _ _ u.1 }

ratio_held : (a : ℕ) → is_ratio a ≡ true → InOrder a one
unfolding is_ratio
ratio_held a e =
    let t = and_parts _ _ e in
    record { from = leb-true _ _ t.0; order = leb-true _ _ t.1; below = omega arith }

ratio_hold : (a : ℕ) → InOrder a one → is_ratio a ≡ true
unfolding is_ratio
ratio_hold a o = rw (le-leb least a o.from, le-leb a one o.order) refl

module _ (a b : ℕ) where
  -- kind 1
  pub timed : InOrder a b → done (timings a b) ≡ content_of (record { kind = 1; first = a; second = b })
  unfolding content_of
  timed o = rw (timings_hold a b o) refl

  pub untimed : (InOrder a b → ⊥) → stop 18 0 ≡ content_of (record { kind = 1; first = a; second = b })
  unfolding content_of
  untimed n = rw (untrue (are_timings a b) (λ e. n (timings_held a b e))) refl

  -- kind 2
  pub given : InOrder a one → b ≡ 0 → done (ratio a) ≡ content_of (record { kind = 2; first = a; second = b })
  unfolding content_of
  given o z = rw (ratio_hold a o, eq-eqb b 0 z) refl

  pub not_given : (InOrder a one → b ≡ 0 → ⊥) → stop 18 0 ≡ content_of (record { kind = 2; first = a; second = b })
  unfolding content_of
  not_given n =
      let f : (is_ratio a && eqb b 0) ≡ false = untrue _ (λ e. let t = and_parts _ _ e in n (ratio_held a t.0) (eqb-true _ _ t.1)) in
      rw f refl

  -- another kind
  pub no_kind : (kind : ℕ) → (kind ≡ 1 → ⊥) → (kind ≡ 2 → ⊥) → stop 17 0 ≡ content_of (record { kind = kind; first = a; second = b })
  unfolding content_of
  no_kind kind m n = rw (ne_eqb kind 1 m, ne_eqb kind 2 n) refl

  -- the floats that are made of the bits hold them
  pub timed_floats : InOrder a b
      → done (imported_content (Imported.Timings (record { inspiration = of_bits binary32 a; whole = of_bits binary32 b })))
      ≡ content_of (record { kind = 1; first = a; second = b })
  unfolding imported_content
  timed_floats o =
      ap₂ (λ (x y : ℕ). done (timings x y)) (bits_back a (lt_of_le_of_lt o.order o.below)) (bits_back b o.below)
      ∙ timed o

  pub given_float : InOrder a one → b ≡ 0
      → done (imported_content (Imported.Ratio (of_bits binary32 a))) ≡ content_of (record { kind = 2; first = a; second = b })
  unfolding imported_content
  given_float o z = ap (λ (x : ℕ). done (ratio x)) (bits_back a (lt_of_le_of_lt o.order o.below)) ∙ given o z

-- the parts of what an imported record holds, and its ratio
module _ (i : Imported) (t : Timings) (e : i ≡ Imported.Timings t) where
  pub timings_rules : KeepsRules (imported_content i) → InOrder (bits_of t.inspiration) (bits_of t.whole)
  unfolding imported_content
  timings_rules k = subst (λ (j : Imported). KeepsRules (imported_content j)) e k

  pub timings_ratio : (r : Ratio) → r ≡ rounded_ratio (float_ratio (bits_of t.inspiration) (bits_of t.whole)) → r ≡ rounded_ratio (content_ratio (imported_content i))
  unfolding imported_content content_ratio
  timings_ratio r h = h ∙ ap (λ (j : Imported). rounded_ratio (content_ratio (imported_content j))) (sym e)

module _ (i : Imported) (x : Float) (e : i ≡ Imported.Ratio x) where
  pub ratio_rules : KeepsRules (imported_content i) → InOrder (bits_of x) one
  unfolding imported_content
  ratio_rules k = subst (λ (j : Imported). KeepsRules (imported_content j)) e k

  pub number_ratio : (r : Ratio) → r ≡ rounded_ratio (float_ratio (bits_of x) one) → r ≡ rounded_ratio (content_ratio (imported_content i))
  unfolding imported_content content_ratio
  number_ratio r h = h ∙ ap (λ (j : Imported). rounded_ratio (content_ratio (imported_content j))) (sym e)

-- the answers of `read_record`
pub record_kind : (k a b : ℕ) {kind : ℕ} → kind ≡ k → content_of (record { kind = k; first = a; second = b }) ≡ content_of (record { kind = kind; first = a; second = b })
record_kind k a b e = ap (λ (n : ℕ). content_of (record { kind = n; first = a; second = b })) (sym e)

module _ (s : List ℕ) (kind first second : ℕ) (ke : kind ≡ number_at s 0) (fe : first ≡ number_at s 4) (se : second ≡ number_at s 8) where
  pub record_is : content_of (record { kind = kind; first = first; second = second }) ≡ content_of (record_of s)
  unfolding record_of
  record_is = λ i. content_of (record { kind = ke i; first = fe i; second = se i })

-- ---- what a record holds keeps the rules

content_keeps : (r : Record) → WhenDone (content_of r) KeepsRules
unfolding content_of
content_keeps r =
    let P : Outcome Content → Type 0 = λ o. WhenDone o KeepsRules in
    if_case P (eqb r.kind 1) _ _
    (λ k. if_case P (are_timings r.first r.second) _ _ (λ e. timings_held _ _ e) (λ e. tt))
    (λ k. if_case P (eqb r.kind 2) _ _
    (λ j. if_case P (is_ratio r.first && eqb r.second 0) _ _ (λ e. ratio_held _ (and_parts _ _ e).0) (λ e. tt))
    (λ j. tt))

-- N over D of what a record holds is the ratio of its two numbers' values, or its number's own: num x / den x is the value of a finite x. Neither
-- D nor the whole is 0.
abbrev IsExact : Content → Type 0
IsExact (timings a b) =
    (1 ≤ (content_ratio (timings a b)).denominator)
    × (1 ≤ num (of_bits binary32 b))
    × ((content_ratio (timings a b)).numerator * (num (of_bits binary32 b) * den (of_bits binary32 a)) ≡ (content_ratio (timings a b)).denominator * (num (of_bits binary32 a) * den (of_bits binary32 b)))
IsExact (ratio a) =
    (1 ≤ (content_ratio (ratio a)).denominator)
    × ((content_ratio (ratio a)).numerator * den (of_bits binary32 a) ≡ (content_ratio (ratio a)).denominator * num (of_bits binary32 a))

rules_exact : (c : Content) → KeepsRules c → IsExact c
unfolding content_ratio
rules_exact (timings a b) k =
    let l : least ≤ b = omega (arith, k.from, k.order) in
    (some_denominator a b, some_value b l k.below, ratio_exact a b k)
rules_exact (ratio a) k = (some_denominator a one, number_exact a k)

pub content_exact : (r : Record) → WhenDone (content_of r) IsExact
content_exact r = go (content_of r) (content_keeps r)
  where
    go : (o : Outcome Content) → WhenDone o KeepsRules → WhenDone o IsExact
    go (Err t) k = tt
    go (Ok c) k = rules_exact c k

-- what a record holds, of what its reading made
abbrev pub held : Outcome Imported → Outcome Content
held read = read then λ i. done (imported_content i)

module _ (r : Record) (read : Outcome Imported) (re : held read ≡ content_of r) where
  pub read_content : (i : Imported) → read ≡ Ok i → content_of r ≡ done (imported_content i)
  read_content i e = sym re ∙ ap held e

  pub read_rules : (i : Imported) → read ≡ Ok i → KeepsRules (imported_content i)
  read_rules i e = subst (λ (o : Outcome Content). WhenDone o KeepsRules) (read_content i e) (content_keeps r)

  -- a good record, and the stop of another
  pub read_good : {i : Imported} → read ≡ Ok i → done tt ≡ check_record r
  unfolding check_record stop_only
  read_good {i} e = sym (ap stop_only (read_content i e))

  pub read_stop : {s : Stop} → read ≡ Err s → Err s ≡ check_record r
  unfolding check_record stop_only
  read_stop e = ap stop_only (sym (ap held e) ∙ re)

  -- the answers of `word_of`
  pub word_stop : {s : Stop} → read ≡ Err s → 0 ≡ or_zero (record_word r)
  unfolding record_word or_zero
  word_stop e = rw (sym re ∙ ap held e) refl

-- the denominator of a record's ratio is never 0
content_some : (c : Content) → 1 ≤ (content_ratio c).denominator
unfolding content_ratio
content_some (timings a b) = some_denominator a b
content_some (ratio a) = some_denominator a one

abbrev word_from : Content → ℕ
word_from c = ratio_word (content_ratio c).numerator (content_ratio c).denominator

rounded_word : (c : Content) → word_of (rounded_ratio (content_ratio c)) ≡ word_from c
unfolding rounded_ratio word_of
rounded_word c = ap word_of (parts_some _ _ (content_some c))

module _ (r : Record) (read : Outcome Imported) (re : held read ≡ content_of r) (i : Imported) (e : read ≡ Ok i) where
  pub word_good : (x : Ratio) (w : ℕ) → x ≡ rounded_ratio (content_ratio (imported_content i)) → w ≡ word_of x → w ≡ or_zero (record_word r)
  unfolding record_word or_zero
  word_good x w xe we = we ∙ ap word_of xe ∙ rounded_word (imported_content i) ∙ rw (read_content r read re i e) refl

-- ---- a record stops as its check does, and demand 3

pub stops_alike : (r : Record) → stop_only (record_word r) ≡ check_record r
unfolding record_word check_record stop_only
stops_alike r = go (content_of r)
  where
    go : (o : Outcome Content) → stop_only (o then λ c. done (word_from c)) ≡ stop_only o
    go (Err t) = refl
    go (Ok c) = refl

-- Demand 2, and the mark: a record's word is its exact ratio cut to the last convergent that the format holds, marked if that changed its value.
pub record_rounded : (r : Record) (c : Content) → content_of r ≡ done c → (w : ℕ) → record_word r ≡ done w
    → (fraction_of w ≡ round (holds ratio_format) (content_ratio c).numerator (content_ratio c).denominator)
    × ((number_of ratio_format w).approximate ≡ differs (content_ratio c).numerator (content_ratio c).denominator (fraction_of w))
unfolding record_word
record_rounded r c e w h =
    let made : done (word_from c) ≡ record_word r = rw e refl in
    let is : word_from c ≡ w = done_inj (made ∙ h) in
    subst (λ (v : ℕ). (fraction_of v ≡ round (holds ratio_format) (content_ratio c).numerator (content_ratio c).denominator) × ((number_of ratio_format v).approximate ≡ differs (content_ratio c).numerator (content_ratio c).denominator (fraction_of v))) is
    (ratio_rounded _ _ (content_some c), ratio_mark _ _ (content_some c))

pub record_best : (r : Record) → WhenDone (record_word r) (BestRecord r)
unfolding record_word BestRecord
record_best r = go (content_of r) refl
  where
    go : (o : Outcome Content) → content_of r ≡ o → WhenDone (content_of r then λ c. done (word_from c)) (λ w. BestRecord r w)
    go (Err t) e = rw e tt
    go (Ok c) e = rw e (ratio_best _ _ (content_some c))
