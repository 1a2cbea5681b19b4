-- The first line of a recording. Assumes nothing.
-- `first_follows`: a recording opens with a whole line that says a rate from 1 to 4096, or ends, or is stopped with 9 or 19 at line 1. `first_ready`:
-- what follows a whole first line doesn't change it. `rate_taken`, `rate_only`: a first line is taken for a rate line just where its fields are `rate`
-- and the decimal of a number from 1 to 4096. `first_lines`: examples of first lines, good and bad.
use mathlib.Core.Path.{◌≡◌, refl, sym, ap, ◌∙◌, subst}
use mathlib.Core.Bool.{true, false, ◌||◌}
use mathlib.Core.Logic.{◌⊎◌, inl, inr}
use mathlib.Core.List.{List, [], ◌∷◌, ◌++◌}
use Prim.Native.Nat.{ℕ, ◌+◌, ◌≤◌, ◌<◌}
use native.Mathlib.Omega.{arith}
use lib.Dec.{leb}
use lib.ListN.{length, take, drop, length-append, take-append-drop}
use Rattle.std.specs.Prelude.{Option, Some, None, Ok, Err}
use Rattle.slash.specs.Answers.{Outcome, stop, done}
use Rattle.slash.specs.declared.answer.Stop.{Stop}
use Rattle.slash.proofs.AnswerLaws.{if_case}
use Rattle.breaths.specs.Rates.{is_rate, make_rate}
use Rattle.breaths.specs.declared.rate.Rate.{Rate}
use Rattle.breaths.proofs.RateLaws.{rate_words, rate_is, rate_made, rate_not_made}
use Rattle.text.specs.Scan.{length_before, is_digit, parted, same}
use Rattle.text.specs.Numbers.{decimal}
use Rattle.text.proofs.ScanLaws.{before_le}
use Rattle.text.proofs.PartLaws.{behind, parted_none, parted_some, parted_at, same_is}
use Rattle.recording.specs.Lines.{digits_from, read_tick, from_start}
use Rattle.recording.specs.Openings.{Start, a_rate, no_line, no_rate_line, from_rate, rate_name, from_rate_fields, read_rate, first_of}
use Rattle.recording.specs.declared.opening.Opening.{Opening}
use Rattle.recording.proofs.TickLaws.{tick_of_decimal, decimal_of_tick}
use Rattle.recording.proofs.LineLaws.{Whole, Ready, start_case, no_line_lem, a_line, ready_line, ready_some, whole_ready}

-- ---- the answers of `from_rate`

module _ (used : ℕ) (tick : Option ℕ) where
  pub rate_wrong : tick ≡ None → no_rate_line ≡ from_rate used tick
  unfolding from_rate
  rate_wrong e = rw e refl

  module _ (ticks : ℕ) (te : tick ≡ Some ticks) where
    pub rate_good : (rate : Rate) → make_rate ticks ≡ done rate → done (a_rate (record { rate = rate; used = used })) ≡ from_rate used tick
    unfolding from_rate
    rate_good rate d =
        let m = rate_made ticks rate d in
        let e : rate ≡ record { ticks = ticks } = ap (λ (n : ℕ). record { ticks = n }) m.0 in
        rw (te, m.1, e) refl

    pub rate_bad : {s : Stop} → make_rate ticks ≡ Err s → no_rate_line ≡ from_rate used tick
    unfolding from_rate
    rate_bad d = rw (te, rate_not_made ticks d) refl

-- ---- the answers of `read_rate`

module _ (used : ℕ) (line : List ℕ) (i : ℕ) (ie : i ≡ length_before 9 line) where
  pub rate_one : i ≡ length line → no_rate_line ≡ from_rate_fields used (parted 9 line)
  unfolding from_rate_fields
  rate_one e = rw (parted_none 9 line (sym ie ∙ e)) refl

  module _ (l : i < length line) (j : ℕ) (je : j ≡ length_before 9 (behind i line)) where
    pub rate_three : j < length (behind i line) → no_rate_line ≡ from_rate_fields used (parted 9 line)
    unfolding from_rate_fields
    rate_three m =
        let s = parted_some 9 (behind j (behind i line)) in
        rw (parted_at 9 line i ie (λ e. omega arith), parted_at 9 (behind i line) j je (λ e. omega arith), s.is) refl

    module _ (m : length (behind i line) ≤ j) where
      two_fields : parted 9 line ≡ take i line ∷ behind i line ∷ []
      two_fields =
          let whole : length_before 9 (behind i line) ≡ length (behind i line) = omega (arith, before_le 9 (behind i line)) in
          parted_at 9 line i ie (λ e. omega arith) ∙ ap (λ (x : List (List ℕ)). take i line ∷ x) (parted_none 9 (behind i line) whole)

      pub rate_other : same (take i line) rate_name ≡ false → no_rate_line ≡ from_rate_fields used (parted 9 line)
      unfolding from_rate_fields
      rate_other e = rw (two_fields, e) refl

      pub rate_named : same (take i line) rate_name ≡ true → (t : Option ℕ) → t ≡ read_tick (behind i line) → (r : Outcome Start) → r ≡ from_rate used t
          → r ≡ from_rate_fields used (parted 9 line)
      unfolding from_rate_fields
      rate_named e t te r re = re ∙ rw (two_fields, e, te) refl

-- ---- the answers of `first_line`

module _ (bs : List ℕ) where
  pub first_none : length bs ≡ 0 → done no_line ≡ first_of bs
  unfolding first_of
  first_none h = go bs h
    where
      go : (l : List ℕ) → length l ≡ 0 → done no_line ≡ first_of l
      go [] h = refl
      go (x ∷ l) h = absurd (omega arith)

  first_is : (length bs ≡ 0 → ⊥) → read_rate bs ≡ first_of bs
  unfolding first_of
  first_is h = go bs h
    where
      go : (l : List ℕ) → (length l ≡ 0 → ⊥) → read_rate l ≡ first_of l
      go [] h = absurd (h refl)
      go (x ∷ l) h = refl

module _ (bs : List ℕ) (some : length bs ≡ 0 → ⊥) (k : ℕ) (ke : k ≡ length_before 10 (take 33 bs)) where
  pub first_long : (leb (length bs) k || leb 33 k) ≡ true → stop 9 1 ≡ first_of bs
  unfolding read_rate
  first_long h = no_line_lem (stop 9 1) from_rate_fields bs k ke h ∙ first_is bs some

  pub first_read : (leb (length bs) k || leb 33 k) ≡ false → (r : Outcome Start) → r ≡ from_rate_fields (k + 1) (parted 9 (take k bs)) → r ≡ first_of bs
  unfolding read_rate
  first_read h r e = a_line (stop 9 1) from_rate_fields bs k ke h r e ∙ first_is bs some

-- ---- what holds of it

abbrev pub Opens : List ℕ → Outcome Start → Type 0
Opens bs (Ok (Some o)) = Whole bs o.used × (is_rate o.rate.ticks ≡ true)
Opens bs (Ok None) = length bs ≡ 0
Opens bs (Err s) = ((s.number ≡ 9) ⊎ (s.number ≡ 19)) × (s.place ≡ 1)

module _ (bs : List ℕ) where
  refused_opens : Opens bs no_rate_line
  refused_opens = (inr refl, refl)

  rate_opens : (used : ℕ) → Whole bs used → (t : Option ℕ) → Opens bs (from_rate used t)
  unfolding from_rate
  rate_opens used w (Some ticks) = if_case (Opens bs) (is_rate ticks) _ _ (λ h. (w, h)) (λ h. refused_opens)
  rate_opens used w None = refused_opens

  fields_opens : (used : ℕ) → Whole bs used → (fields : List (List ℕ)) → Opens bs (from_rate_fields used fields)
  unfolding from_rate_fields
  fields_opens used w [] = refused_opens
  fields_opens used w (x ∷ []) = refused_opens
  fields_opens used w (x ∷ y ∷ []) = if_case (Opens bs) (same x rate_name) _ _ (λ h. rate_opens used w (read_tick y)) (λ h. refused_opens)
  fields_opens used w (x ∷ y ∷ z ∷ more) = refused_opens

  line_opens : Opens bs (read_rate bs)
  unfolding read_rate
  line_opens = start_case (Opens bs) (stop 9 1) from_rate_fields bs (inl refl, refl) fields_opens

pub first_follows : (bs : List ℕ) → Opens bs (first_of bs)
unfolding first_of
first_follows [] = refl
first_follows (b ∷ bs) = line_opens (b ∷ bs)

module _ (bs : List ℕ) where
  pub first_rated : (o : Opening) → first_of bs ≡ done (a_rate o) → Whole bs o.used × (is_rate o.rate.ticks ≡ true)
  first_rated o e = subst (Opens bs) e (first_follows bs)

  pub first_stopped : {s : Stop} → first_of bs ≡ Err s → ((s.number ≡ 9) ⊎ (s.number ≡ 19)) × (s.place ≡ 1)
  first_stopped e = subst (Opens bs) e (first_follows bs)

-- ---- the bytes that follow

-- nothing that follows bytes whose first line is there changes what a recording opens with
pub first_ready : (bs more : List ℕ) → Ready bs → first_of (bs ++ more) ≡ first_of bs
unfolding read_rate
first_ready bs more h =
    let w : 1 ≤ length bs = ready_some bs h in
    let some : length bs ≡ 0 → ⊥ = λ z. omega arith in
    let both : length (bs ++ more) ≡ 0 → ⊥ = λ z. omega (arith, length-append bs more) in
    sym (first_is (bs ++ more) both) ∙ ready_line (stop 9 1) from_rate_fields bs more h ∙ first_is bs some

-- nor does what stands behind its line
pub first_taken : (bs : List ℕ) (o : Opening) → first_of bs ≡ done (a_rate o) → (m : ℕ) → o.used ≤ m → first_of (take m bs) ≡ done (a_rate o)
first_taken bs o e m h =
    sym (first_ready (take m bs) (drop m bs) (whole_ready bs o.used m (first_rated bs o e).0 h)) ∙ ap first_of (take-append-drop m bs) ∙ e

-- ---- the paper's words for a rate line

-- A line whose fields are `rate` and the decimal of a number from 1 to 4096 is one,
pub rate_taken : (used n : ℕ) → 1 ≤ n → n ≤ 4096
    → from_rate_fields used (rate_name ∷ decimal n ∷ []) ≡ done (a_rate (record { rate = record { ticks = n }; used = used }))
unfolding from_rate_fields from_rate same
rate_taken used n h l = rw (tick_of_decimal n (omega arith), rate_is n h l) refl

-- and no other is.
abbrev RateFields : (used : ℕ) → List (List ℕ) → Outcome Start → Type 0
RateFields used fields (Ok (Some o)) =
    (fields ≡ rate_name ∷ decimal o.rate.ticks ∷ []) × ((1 ≤ o.rate.ticks) × (o.rate.ticks ≤ 4096)) × (o.used ≡ used)
RateFields used fields (Ok None) = ⊥
RateFields used fields (Err s) = Unit {0}

tick_rate : (used : ℕ) (x y : List ℕ) → x ≡ rate_name → (t : Option ℕ) → read_tick y ≡ t → RateFields used (x ∷ y ∷ []) (from_rate used t)
unfolding from_rate
tick_rate used x y e None d = tt
tick_rate used x y e (Some n) d =
    if_case (RateFields used (x ∷ y ∷ [])) (is_rate n) _ _
    (λ h. (ap (λ (z : List ℕ). z ∷ y ∷ []) e ∙ ap (λ (z : List ℕ). rate_name ∷ z ∷ []) (decimal_of_tick y n d).0, rate_words n h, refl))
    (λ h. tt)

rate_fields : (used : ℕ) (fields : List (List ℕ)) → RateFields used fields (from_rate_fields used fields)
unfolding from_rate_fields
rate_fields used [] = tt
rate_fields used (x ∷ []) = tt
rate_fields used (x ∷ y ∷ []) =
    if_case (RateFields used (x ∷ y ∷ [])) (same x rate_name) _ _ (λ h. tick_rate used x y (same_is x rate_name h) (read_tick y) refl) (λ h. tt)
rate_fields used (x ∷ y ∷ z ∷ more) = tt

pub rate_only : (used : ℕ) (fields : List (List ℕ)) (o : Opening) → from_rate_fields used fields ≡ done (a_rate o)
    → (fields ≡ rate_name ∷ decimal o.rate.ticks ∷ []) × ((1 ≤ o.rate.ticks) × (o.rate.ticks ≤ 4096)) × (o.used ≡ used)
rate_only used fields o e = subst (RateFields used fields) e (rate_fields used fields)

-- ---- examples

-- What a recording opens with: `rate` and 1024; `rate` and 4096; an empty line; `rate` alone; a third field; `rate` and 0, 4097 and 007; a breath's
-- line; and `rate` and 1024 without a line feed.
pub first_lines :
    (first_of (114 ∷ 97 ∷ 116 ∷ 101 ∷ 9 ∷ 49 ∷ 48 ∷ 50 ∷ 52 ∷ 10 ∷ []) ≡ done (a_rate (record { rate = record { ticks = 1024 }; used = 10 })))
    × ((first_of (114 ∷ 97 ∷ 116 ∷ 101 ∷ 9 ∷ 52 ∷ 48 ∷ 57 ∷ 54 ∷ 10 ∷ []) ≡ done (a_rate (record { rate = record { ticks = 4096 }; used = 10 })))
    × ((first_of (10 ∷ []) ≡ stop 19 1)
    × ((first_of (114 ∷ 97 ∷ 116 ∷ 101 ∷ 10 ∷ []) ≡ stop 19 1)
    × ((first_of (114 ∷ 97 ∷ 116 ∷ 101 ∷ 9 ∷ 49 ∷ 9 ∷ 10 ∷ []) ≡ stop 19 1)
    × ((first_of (114 ∷ 97 ∷ 116 ∷ 101 ∷ 9 ∷ 48 ∷ 10 ∷ []) ≡ stop 19 1)
    × ((first_of (114 ∷ 97 ∷ 116 ∷ 101 ∷ 9 ∷ 52 ∷ 48 ∷ 57 ∷ 55 ∷ 10 ∷ []) ≡ stop 19 1)
    × ((first_of (114 ∷ 97 ∷ 116 ∷ 101 ∷ 9 ∷ 48 ∷ 48 ∷ 55 ∷ 10 ∷ []) ≡ stop 19 1)
    × ((first_of (48 ∷ 9 ∷ 50 ∷ 55 ∷ 55 ∷ 9 ∷ 54 ∷ 52 ∷ 50 ∷ 10 ∷ []) ≡ stop 19 1)
    × (first_of (114 ∷ 97 ∷ 116 ∷ 101 ∷ 9 ∷ 49 ∷ 48 ∷ 50 ∷ 52 ∷ []) ≡ stop 9 1)))))))))
unfolding first_of read_rate from_start length_before parted from_rate_fields same from_rate is_rate read_tick digits_from is_digit
first_lines = (refl, (refl, (refl, (refl, (refl, (refl, (refl, (refl, (refl, refl)))))))))
