-- A recording line by line. Assumes nothing.
-- `next_follows`: what comes next is a breath's whole line, the end, or one of the recording's stops at that line. `next_ready`: what follows a
-- whole line doesn't change it. `breaths_steps`, `check_steps`: no line behind that of breath 65,537 is read. `breaths_most`: a recording has at
-- most 65,536 breaths. `check_stops`: a recording's stop is 9 or 19 at line 1, one of 9 to 11 at a breath's line, or 8 at that of breath 65,537;
-- `never_12`: so that it is never 12.
use mathlib.Core.Path.{◌≡◌, refl, sym, ap, ◌∙◌, subst}
use mathlib.Core.Logic.{◌⊎◌, inl, inr, ⊎_elim}
use mathlib.Core.List.{List, [], ◌∷◌, ◌++◌}
use Prim.Native.Nat.{ℕ, zero, suc, ◌+◌, ◌-◌, ◌≤◌, ◌<◌}
use native.Mathlib.Omega.{arith}
use native.Mathlib.Nat.{suc-add}
use native.Mathlib.Numerals.{add-one}
use native.Mathlib.Decide.{dec_lt, ℕ_discrete}
use lib.Dec.{ltb}
use lib.ListN.{length, take, drop, length-append, length-drop, take-append-drop}
use borrow.Author.Tests.{lt-ltb, le-ltb}
use Rattle.std.specs.Prelude.{Option, Some, None, Result, Ok, Err}
use Rattle.std.specs.Prelude.{if◌then◌else◌}
use Rattle.slash.specs.Answers.{Outcome, stop, done, ◌then◌}
use Rattle.slash.specs.declared.answer.Stop.{Stop}
use Rattle.breaths.specs.declared.breath.Breath.{Breath}
use Rattle.text.proofs.PartLaws.{tail_is}
use Rattle.recording.specs.Lines.{from_fields, read_line}
use Rattle.recording.specs.Openings.{Start, a_rate, no_line, first_of}
use Rattle.recording.specs.Steps.{LineLength, next_length}
use Rattle.recording.specs.Reading.{Coming, a_breath, the_end, from_line, next_of, breaths_from, check_from, breaths_on, check_on, rate_in, breaths_in, recording_check, RecordingStop}
use Rattle.recording.specs.declared.line.Entry.{Entry}
use Rattle.recording.specs.declared.opening.Opening.{Opening}
use Rattle.recording.proofs.LineLaws.{Whole, Sound, Ready, line_sound, ready_line, ready_some, whole_ready}
use Rattle.recording.proofs.OpeningLaws.{first_rated, first_stopped}

-- ---- an example

-- A recording without a byte isn't refused: a night with nothing in it.
pub nothing_in_it : recording_check [] ≡ done tt
unfolding recording_check first_of
nothing_in_it = refl

-- ---- what comes next

module _ (breath : ℕ) (bs : List ℕ) where
  pub next_none : length bs ≡ 0 → done the_end ≡ next_of breath bs
  unfolding next_of
  next_none h = go bs h
    where
      go : (l : List ℕ) → length l ≡ 0 → done the_end ≡ next_of breath l
      go [] h = refl
      go (x ∷ l) h = absurd (omega arith)

  module _ (some : length bs ≡ 0 → ⊥) where
    next_is : next_of breath bs ≡ (if ltb 65536 breath then stop 8 (suc breath) else from_line (suc breath) (read_line bs))
    unfolding next_of
    next_is = go bs some
      where
        go : (l : List ℕ) → (length l ≡ 0 → ⊥) → next_of breath l ≡ (if ltb 65536 breath then stop 8 (suc breath) else from_line (suc breath) (read_line l))
        go [] h = absurd (h refl)
        go (x ∷ l) h = refl

    pub next_over : 65536 < breath → stop 8 (suc breath) ≡ next_of breath bs
    next_over h = sym (next_is ∙ rw (lt-ltb _ _ h) refl)

    pub next_line_lem : breath ≤ 65536 → from_line (suc breath) (read_line bs) ≡ next_of breath bs
    next_line_lem h = sym (next_is ∙ rw (le-ltb _ _ h) refl)

    module _ (few : breath ≤ 65536) (l : Result Entry ℕ) (le : l ≡ read_line bs) where
      pub next_read : (entry : Entry) → l ≡ Ok entry → done (a_breath entry) ≡ next_of breath bs
      unfolding from_line
      next_read entry e = ap (from_line (suc breath)) (sym e ∙ le) ∙ next_line_lem few

      pub next_refused : (number : ℕ) → l ≡ Err number → stop number (suc breath) ≡ next_of breath bs
      unfolding from_line
      next_refused number e = ap (from_line (suc breath)) (sym e ∙ le) ∙ next_line_lem few

-- a breath that one pass finds
pub next_quick : (breath : ℕ) → breath ≤ 65536 → (bs : List ℕ) (entry : Entry) → Ok entry ≡ read_line bs → done (a_breath entry) ≡ next_of breath bs
next_quick breath few bs entry e =
    let w : Whole bs entry.used = subst (Sound bs) (sym e) (line_sound bs) in
    next_read breath bs (λ z. omega (arith, w.ended, w.within)) few (Ok entry) e entry refl

-- ---- what holds of it

-- A stop at a breath's line: 9 to 11, or behind breath 65,536 just 8; and the line, one further than the breath's number.
abbrev pub BreathStop : (breath number : ℕ) → Type 0
BreathStop breath number = ((9 ≤ number) × ((number ≤ 11) × (breath ≤ 65536))) ⊎ ((number ≡ 8) × (65536 < breath))

abbrev pub StopAt : (breath number place : ℕ) → Type 0
StopAt breath number place = BreathStop breath number × (place ≡ suc breath)

pub breath_stop : (breath number place : ℕ) → 1 ≤ breath → breath ≤ 65537 → StopAt breath number place → RecordingStop number place
breath_stop breath number place some few s = go s.0
  where
    go : BreathStop breath number → RecordingStop number place
    go (inl w) = inr (inl ((w.0, w.1.0), (omega (arith, s.1), omega (arith, s.1, w.1.1))))
    go (inr w) = inr (inr (w.0, omega (arith, s.1, w.1)))

abbrev pub Follows : (breath : ℕ) → List ℕ → Outcome Coming → Type 0
Follows breath bs (Ok (Some entry)) = (breath ≤ 65536) × Whole bs entry.used
Follows breath bs (Ok None) = Unit {0}
Follows breath bs (Err s) = StopAt breath s.number s.place

module _ (breath : ℕ) (bs : List ℕ) where
  stop_follows : (number : ℕ) → BreathStop breath number → Follows breath bs (stop number (suc breath))
  stop_follows number i = (i, refl)

  line_follows : breath ≤ 65536 → (l : Result Entry ℕ) → Sound bs l → Follows breath bs (from_line (suc breath) l)
  unfolding from_line
  line_follows few (Ok entry) w = (few, w)
  line_follows few (Err number) w = stop_follows number (inl (w.0, (w.1, few)))

  pub next_follows : Follows breath bs (next_of breath bs)
  next_follows = go (ℕ_discrete (length bs) 0) (dec_lt 65536 breath)
    where
      go : Dec (length bs ≡ 0) → Dec (65536 < breath) → Follows breath bs (next_of breath bs)
      go (yes h) d = subst (Follows breath bs) (next_none breath bs h) tt
      go (no h) (yes o) = subst (Follows breath bs) (next_over breath bs h o) (stop_follows 8 (inr (refl, o)))
      go (no h) (no o) =
          let few : breath ≤ 65536 = omega arith in
          subst (Follows breath bs) (next_line_lem breath bs h few) (line_follows few (read_line bs) (line_sound bs))

  pub follows_breath : (entry : Entry) → next_of breath bs ≡ done (a_breath entry) → (breath ≤ 65536) × Whole bs entry.used
  follows_breath entry e = subst (Follows breath bs) e next_follows

  pub follows_stop : {s : Stop} → next_of breath bs ≡ Err s → StopAt breath s.number s.place
  follows_stop e = subst (Follows breath bs) e next_follows

-- ---- the bytes that follow

breath_ready : (bs more : List ℕ) → Ready bs → read_line (bs ++ more) ≡ read_line bs
unfolding read_line
breath_ready bs more h = ready_line (Err 9) from_fields bs more h

-- nothing that follows bytes whose first line is there changes what comes next
pub next_ready : (breath : ℕ) (bs more : List ℕ) → Ready bs → next_of breath (bs ++ more) ≡ next_of breath bs
next_ready breath bs more h =
    let w : 1 ≤ length bs = ready_some bs h in
    let some : length bs ≡ 0 → ⊥ = λ z. omega arith in
    let both : length (bs ++ more) ≡ 0 → ⊥ = λ z. omega (arith, length-append bs more) in
    let same : read_line (bs ++ more) ≡ read_line bs = breath_ready bs more h in
    next_is breath (bs ++ more) both ∙ rw (same) refl ∙ sym (next_is breath bs some)

-- nor does what stands behind a breath's line
pub next_taken : (breath : ℕ) (bs : List ℕ) (entry : Entry) → next_of breath bs ≡ done (a_breath entry) → (m : ℕ) → entry.used ≤ m
    → next_of breath (take m bs) ≡ done (a_breath entry)
next_taken breath bs entry e m h =
    sym (next_ready breath (take m bs) (drop m bs) (whole_ready bs entry.used m (follows_breath breath bs entry e).1 h))
    ∙ ap (next_of breath) (take-append-drop m bs)
    ∙ e

-- ---- one step

module _ (steps breath : ℕ) (bs : List ℕ) where
  abbrev breathed : Outcome Coming → List Breath
  breathed (Ok (Some entry)) = entry.breath ∷ breaths_from steps (suc breath) (drop entry.used bs)
  breathed (Ok None) = []
  breathed (Err s) = []

  breaths_step : (x : Outcome Coming) → next_of breath bs ≡ x → breaths_from (suc steps) breath bs ≡ breathed x
  unfolding breaths_from
  breaths_step x e = ap breathed e

  pub breaths_more : (entry : Entry) → next_of breath bs ≡ done (a_breath entry)
      → breaths_from (suc steps) breath bs ≡ entry.breath ∷ breaths_from steps (suc breath) (drop entry.used bs)
  breaths_more entry e = breaths_step (done (a_breath entry)) e

  pub breaths_end : next_of breath bs ≡ done the_end → breaths_from (suc steps) breath bs ≡ []
  breaths_end e = breaths_step (done the_end) e

  pub breaths_stop : {s : Stop} → next_of breath bs ≡ Err s → breaths_from (suc steps) breath bs ≡ []
  breaths_stop {s} e = breaths_step (Err s) e

  abbrev checked : Coming → Outcome (Unit {0})
  checked (Some entry) = check_from steps (suc breath) (drop entry.used bs)
  checked None = done tt

  check_step : (x : Outcome Coming) → next_of breath bs ≡ x → check_from (suc steps) breath bs ≡ (x then checked)
  unfolding check_from
  check_step x e = ap (λ (y : Outcome Coming). y then checked) e

  pub check_more : (entry : Entry) → next_of breath bs ≡ done (a_breath entry)
      → check_from (suc steps) breath bs ≡ check_from steps (suc breath) (drop entry.used bs)
  check_more entry e = check_step (done (a_breath entry)) e

  pub check_end : next_of breath bs ≡ done the_end → check_from (suc steps) breath bs ≡ done tt
  check_end e = check_step (done the_end) e

  pub check_stop : {s : Stop} → next_of breath bs ≡ Err s → check_from (suc steps) breath bs ≡ Err s
  check_stop {s} e = check_step (Err s) e

-- More steps than up to breath 65,537 change nothing.
pub breaths_steps : (steps more breath : ℕ) (bs : List ℕ) → breath + steps ≡ 65538 → breath ≤ 65537 → breaths_from (steps + more) breath bs ≡ breaths_from steps breath bs
breaths_steps zero more breath bs e few = absurd (omega arith)
breaths_steps (suc steps) more breath bs e few = ap (λ (k : ℕ). breaths_from k breath bs) (suc-add steps more) ∙ go (next_of breath bs) refl (breaths_steps steps more (suc breath))
  where
    go : (x : Outcome Coming) → next_of breath bs ≡ x → ((rest : List ℕ) → suc breath + steps ≡ 65538 → suc breath ≤ 65537 → breaths_from (steps + more) (suc breath) rest ≡ breaths_from steps (suc breath) rest)
        → breaths_from (suc (steps + more)) breath bs ≡ breaths_from (suc steps) breath bs
    go (Ok (Some entry)) n ih =
        let w = follows_breath breath bs entry n in
        breaths_more (steps + more) breath bs entry n
        ∙ ap (λ (l : List Breath). entry.breath ∷ l) (ih (drop entry.used bs) (omega arith) (omega (arith, w.0)))
        ∙ sym (breaths_more steps breath bs entry n)
    go (Ok None) n ih = breaths_end (steps + more) breath bs n ∙ sym (breaths_end steps breath bs n)
    go (Err s) n ih = breaths_stop (steps + more) breath bs n ∙ sym (breaths_stop steps breath bs n)

pub check_steps : (steps more breath : ℕ) (bs : List ℕ) → breath + steps ≡ 65538 → breath ≤ 65537 → check_from (steps + more) breath bs ≡ check_from steps breath bs
check_steps zero more breath bs e few = absurd (omega arith)
check_steps (suc steps) more breath bs e few = ap (λ (k : ℕ). check_from k breath bs) (suc-add steps more) ∙ go (next_of breath bs) refl (check_steps steps more (suc breath))
  where
    go : (x : Outcome Coming) → next_of breath bs ≡ x → ((rest : List ℕ) → suc breath + steps ≡ 65538 → suc breath ≤ 65537 → check_from (steps + more) (suc breath) rest ≡ check_from steps (suc breath) rest)
        → check_from (suc (steps + more)) breath bs ≡ check_from (suc steps) breath bs
    go (Ok (Some entry)) n ih =
        let w = follows_breath breath bs entry n in
        check_more (steps + more) breath bs entry n ∙ ih (drop entry.used bs) (omega arith) (omega (arith, w.0)) ∙ sym (check_more steps breath bs entry n)
    go (Ok None) n ih = check_end (steps + more) breath bs n ∙ sym (check_end steps breath bs n)
    go (Err s) n ih = check_stop (steps + more) breath bs n ∙ sym (check_stop steps breath bs n)

-- ---- the whole recording, by what it opens with

module _ (bs : List ℕ) where
  abbrev breaths_by : Outcome Start → List Breath
  breaths_by (Ok (Some o)) = breaths_on 1 (drop o.used bs)
  breaths_by (Ok None) = []
  breaths_by (Err s) = []

  breaths_by_lem : (x : Outcome Start) → first_of bs ≡ x → breaths_in bs ≡ breaths_by x
  unfolding breaths_in
  breaths_by_lem x e = ap breaths_by e

  pub breaths_rated : (o : Opening) → first_of bs ≡ done (a_rate o) → breaths_in bs ≡ breaths_on 1 (drop o.used bs)
  breaths_rated o e = breaths_by_lem (done (a_rate o)) e

  pub breaths_empty : first_of bs ≡ done no_line → breaths_in bs ≡ []
  breaths_empty e = breaths_by_lem (done no_line) e

  pub breaths_refused : {s : Stop} → first_of bs ≡ Err s → breaths_in bs ≡ []
  breaths_refused {s} e = breaths_by_lem (Err s) e

  abbrev rated_by : Outcome Start → ℕ
  rated_by (Ok (Some o)) = o.rate.ticks
  rated_by (Ok None) = 0
  rated_by (Err s) = 0

  pub rate_rated : (o : Opening) → first_of bs ≡ done (a_rate o) → rate_in bs ≡ o.rate.ticks
  unfolding rate_in
  rate_rated o e = ap rated_by e

  abbrev checked_by : Start → Outcome (Unit {0})
  checked_by (Some o) = check_on 1 (drop o.used bs)
  checked_by None = done tt

  check_by_lem : (x : Outcome Start) → first_of bs ≡ x → recording_check bs ≡ (x then checked_by)
  unfolding recording_check
  check_by_lem x e = ap (λ (y : Outcome Start). y then checked_by) e

  pub check_rated : (o : Opening) → first_of bs ≡ done (a_rate o) → recording_check bs ≡ check_on 1 (drop o.used bs)
  check_rated o e = check_by_lem (done (a_rate o)) e

  pub check_empty : first_of bs ≡ done no_line → recording_check bs ≡ done tt
  check_empty e = check_by_lem (done no_line) e

  pub check_refused : {s : Stop} → first_of bs ≡ Err s → recording_check bs ≡ Err s
  check_refused {s} e = check_by_lem (Err s) e

-- the answers of `check`
module _ (bs : List ℕ) where
  pub opening_within : {o : Opening} → first_of bs ≡ done (a_rate o) → o.used ≤ length bs
  opening_within {o} e = (first_rated bs o e).0.within

  pub checked_rated : (o : Opening) → first_of bs ≡ done (a_rate o) → (c : Outcome (Unit {0}))
      → c ≡ check_on 1 (take (length bs - o.used) (drop o.used bs)) → c ≡ recording_check bs
  checked_rated o d c e = e ∙ ap (check_on 1) (tail_is o.used bs) ∙ sym (check_rated bs o d)

-- A recording has at most 65,536 breaths.
pub breaths_few : (steps breath : ℕ) (bs : List ℕ) → breath + steps ≡ 65538 → breath ≤ 65537 → breath + length (breaths_from steps breath bs) ≤ 65537
breaths_few zero breath bs e few = absurd (omega arith)
breaths_few (suc steps) breath bs e few = go (next_of breath bs) refl (breaths_few steps (suc breath))
  where
    go : (x : Outcome Coming) → next_of breath bs ≡ x
        → ((rest : List ℕ) → suc breath + steps ≡ 65538 → suc breath ≤ 65537 → suc breath + length (breaths_from steps (suc breath) rest) ≤ 65537)
        → breath + length (breaths_from (suc steps) breath bs) ≤ 65537
    go (Ok (Some entry)) n ih =
        let w = follows_breath breath bs entry n in
        omega (arith, ap length (breaths_more steps breath bs entry n), ih (drop entry.used bs) (omega arith) (omega (arith, w.0)))
    go (Ok None) n ih = omega (arith, ap length (breaths_end steps breath bs n))
    go (Err s) n ih = omega (arith, ap length (breaths_stop steps breath bs n))

pub breaths_most : (bs : List ℕ) → length (breaths_in bs) ≤ 65536
unfolding breaths_on
breaths_most bs = go (first_of bs) refl
  where
    go : (x : Outcome Start) → first_of bs ≡ x → length (breaths_in bs) ≤ 65536
    go (Ok (Some o)) e = omega (arith, ap length (breaths_rated bs o e), breaths_few 65537 1 (drop o.used bs) (omega arith) (omega arith))
    go (Ok None) e = omega (arith, ap length (breaths_empty bs e))
    go (Err s) e = omega (arith, ap length (breaths_refused bs e))

-- of no bytes there are no breaths
pub breaths_none : (steps breath : ℕ) → breaths_from steps breath [] ≡ []
unfolding breaths_from
breaths_none zero breath = refl
breaths_none (suc steps) breath = breaths_end steps breath [] (sym (next_none breath [] refl))

-- ---- which stops there are

-- a stop that a recording can cause
abbrev Caused : Outcome (Unit {0}) → Type 0
Caused (Err s) = RecordingStop s.number s.place
Caused (Ok x) = Unit {0}

stops_from : (steps breath : ℕ) (bs : List ℕ) → 1 ≤ breath → breath + steps ≤ 65538 → Caused (check_from steps breath bs)
unfolding check_from
stops_from zero breath bs p e = tt
stops_from (suc steps) breath bs p e = go (next_of breath bs) refl (stops_from steps (suc breath))
  where
    go : (x : Outcome Coming) → next_of breath bs ≡ x → ((rest : List ℕ) → 1 ≤ suc breath → suc breath + steps ≤ 65538 → Caused (check_from steps (suc breath) rest))
        → Caused (check_from (suc steps) breath bs)
    go (Ok (Some entry)) n ih = subst Caused (sym (check_more steps breath bs entry n)) (ih (drop entry.used bs) (omega arith) (omega arith))
    go (Ok None) n ih = subst Caused (sym (check_end steps breath bs n)) tt
    go (Err s) n ih =
        let h : RecordingStop s.number s.place = breath_stop breath s.number s.place p (omega arith) (follows_stop breath bs n) in
        subst Caused (sym (check_stop steps breath bs n)) h

-- A recording's stop is 9 or 19 at line 1, one of 9 to 11 at a breath's line, or 8 at that of breath 65,537,
pub check_stops : (bs : List ℕ) (number place : ℕ) → recording_check bs ≡ stop number place → RecordingStop number place
unfolding check_on
check_stops bs number place e = subst Caused e (go (first_of bs) refl)
  where
    go : (x : Outcome Start) → first_of bs ≡ x → Caused (recording_check bs)
    go (Ok (Some o)) f = subst Caused (sym (check_rated bs o f)) (stops_from 65537 1 (drop o.used bs) (omega arith) (omega arith))
    go (Ok None) f = subst Caused (sym (check_empty bs f)) tt
    go (Err s) f =
        let h : RecordingStop s.number s.place = inl (first_stopped bs f) in
        subst Caused (sym (check_refused bs f)) h

-- so that 12 is never one.
pub never_12 : (bs : List ℕ) (place : ℕ) → recording_check bs ≡ stop 12 place → ⊥
never_12 bs place e = go (check_stops bs 12 place e)
  where
    go : RecordingStop 12 place → ⊥
    go (inl w) = ⊎_elim (λ h. omega (arith, h)) (λ h. omega (arith, h)) w.0
    go (inr (inl w)) = omega (arith, w.0.1)
    go (inr (inr w)) = omega (arith, w.0)

-- ---- the loop: what is read so far, and what the rest comes to

pub record Reading (bs : List ℕ) (breath : ℕ) (rest : List ℕ) : Type 0 where
  pub few : breath ≤ 65537
  pub total : check_on 1 bs ≡ check_from (65538 - breath) breath rest

pub reading_start : (bs : List ℕ) → Reading bs 1 bs
unfolding check_on
reading_start bs = record { few = omega arith; total = refl }

-- how many bytes the next breath takes
pub length_quick : (breath : ℕ) → breath ≤ 65536 → (bs : List ℕ) (used : ℕ) → LineLength bs used → done (Some used) ≡ next_length (next_of breath bs)
unfolding next_length
length_quick breath few bs used s = ap next_length (next_quick breath few bs (record { breath = s.breath; used = used }) s.read)

module _ {y : Outcome Coming} where
  pub length_breath : {entry : Entry} → y ≡ done (a_breath entry) → done (Some entry.used) ≡ next_length y
  unfolding next_length
  length_breath d = ap next_length (sym d)

  pub length_end : y ≡ done the_end → done None ≡ next_length y
  unfolding next_length
  length_end d = ap next_length (sym d)

  pub length_stop : {s : Stop} → y ≡ Err s → Err s ≡ next_length y
  unfolding next_length
  length_stop d = ap next_length (sym d)

-- and what came next, from that
abbrev Measures : Outcome Coming → Outcome (Option ℕ) → Type 0
Measures x (Ok (Some used)) = (entry : Entry) × (x ≡ done (a_breath entry)) × (entry.used ≡ used)
Measures x (Ok None) = x ≡ done the_end
Measures x (Err s) = x ≡ Err s

measures : (x : Outcome Coming) → Measures x (next_length x)
unfolding next_length
measures (Ok (Some entry)) = (entry, refl, refl)
measures (Ok None) = refl
measures (Err s) = refl

module _ {bs : List ℕ} {breath : ℕ} {rest : List ℕ} (i : Reading bs breath rest) {x : Outcome (Option ℕ)} (xe : x ≡ next_length (next_of breath rest)) where
  next_here : (known : Outcome (Option ℕ)) → x ≡ known → Measures (next_of breath rest) known
  next_here known d = subst (Measures (next_of breath rest)) (sym (sym d ∙ xe)) (measures (next_of breath rest))

  -- a step is left
  here : check_on 1 bs ≡ check_from (suc (65537 - breath)) breath rest
  here =
      let step : 65538 - breath ≡ suc (65537 - breath) = omega (arith, i.few) in
      i.total ∙ ap (λ (n : ℕ). check_from n breath rest) step

  pub reading_end : x ≡ done None → done tt ≡ check_on 1 bs
  reading_end d = sym (here ∙ check_end (65537 - breath) breath rest (next_here (done None) d))

  pub reading_stopped : {s : Stop} → x ≡ Err s → Err s ≡ check_on 1 bs
  reading_stopped {s} d = sym (here ∙ check_stop (65537 - breath) breath rest (next_here (Err s) d))

  module _ {used : ℕ} (d : x ≡ done (Some used)) where
    pub reading_used : (breath ≤ 65536) × (1 ≤ used) × (used ≤ length rest)
    reading_used =
        let n = next_here (done (Some used)) d in
        let w = follows_breath breath rest n.0 n.1 in
        (w.0, omega (arith, w.1.ended, n.2), omega (arith, w.1.within, n.2))

    pub reading_shorter : length (take (length rest - used) (drop used rest)) < length rest
    reading_shorter = let u = reading_used in omega (arith, u.1, ap length (tail_is used rest), length-drop used rest)

    pub reading_again : Reading bs (breath + 1) (take (length rest - used) (drop used rest))
    reading_again =
        let n = next_here (done (Some used)) d in
        let u = reading_used in
        let step : 65537 - breath ≡ 65538 - (breath + 1) = omega (arith, u.0) in
        record {
          few = omega (arith, u.0);
          total =
              here
              ∙ check_more (65537 - breath) breath rest n.0 n.1
              ∙ ap (λ (m : ℕ). check_from (65537 - breath) (suc breath) (drop m rest)) n.2
              ∙ ap (check_from (65537 - breath) (suc breath)) (sym (tail_is used rest))
              ∙ ap (λ (m : ℕ). check_from m (suc breath) (take (length rest - used) (drop used rest))) step
              ∙ ap (λ (m : ℕ). check_from (65538 - (breath + 1)) m (take (length rest - used) (drop used rest))) (sym (add-one breath));
        }
