-- A listing line by line and by its breaths. Assumes nothing.
-- `listing_breaths`: it is the numbered lines of the recording's breaths, and then `all` of their sums, or `refused`. `best_night`: demand 3, of a
-- night. `breath_nearest`, `all_nearest`: its percentages are of the whole numbers nearest to 1000 times the words' fractions, at a tie the even
-- ones. `listing_length`: it has at most 65,536 × 33 + 31 bytes. `listing_steps`: more steps than there can be lines change nothing.
use mathlib.Core.Path.{◌≡◌, refl, sym, ap, ◌∙◌, subst}
use mathlib.Core.Logic.{◌⊎◌, inl, inr}
use mathlib.Core.List.{List, [], ◌∷◌, ◌++◌, append_assoc}
use Prim.Native.Nat.{ℕ, zero, suc, ◌+◌, ◌*◌, ◌^◌, ◌≤◌, ◌<◌}
use native.Mathlib.Omega.{arith}
use native.Mathlib.Nat.{suc-add}
use lib.ListN.{length, drop, length-append}
use Rattle.std.specs.Prelude.{Some, None, Ok, Err}
use Rattle.slash.specs.Answers.{Outcome, done}
use Rattle.slash.specs.declared.answer.Stop.{Stop}
use Rattle.breaths.specs.Breaths.{breath_ratio}
use Rattle.breaths.specs.Sums.{no_sums, night_ratio, add_sums, not_void, total, sums_of}
use Rattle.breaths.specs.Steps.{Proper}
use Rattle.breaths.specs.declared.breath.Breath.{Breath}
use Rattle.breaths.specs.declared.rate.Rate.{Rate}
use Rattle.breaths.specs.declared.sums.Sums.{Sums}
use Rattle.breaths.specs.declared.ratio.Ratio.TheVariants.{Word}
use Rattle.breaths.proofs.RatioLaws.{breath_proportion, night_proportion, breaths_best, night_best}
use Rattle.breaths.proofs.SumLaws.{add_none, none_add, add_breath, sums_proper}
use Rattle.text.specs.Lines.{line_of, numbered, refused_line, is_printable}
use Rattle.text.specs.declared.line.Name.TheVariants.{Number, All}
use Rattle.text.proofs.LineLaws.{NearestPrinted, printed_nearest, printable_is, number_length, all_length, refused_length}
use Rattle.recording.specs.Openings.{Start, a_rate, no_line, first_of}
use Rattle.recording.specs.Reading.{Coming, a_breath, the_end, next_of, breaths_from, check_from, breaths_on, check_on, rate_in, breaths_in, recording_check}
use Rattle.recording.specs.declared.line.Entry.{Entry}
use Rattle.recording.specs.declared.opening.Opening.{Opening}
use Rattle.recording.proofs.OpeningLaws.{first_stopped}
use Rattle.recording.proofs.ReadingLaws.{BreathStop, follows_breath, follows_stop, breaths_more, breaths_end, breaths_stop, check_more, check_end, check_stop, breaths_rated, breaths_empty, breaths_refused, rate_rated, check_rated, check_empty, check_refused}
use Rattle.listing.specs.Listing.{breath_line, all_line, listing_from, rated_listing, opened_listing, listing_on, listing_of, ratios_of, last_line, sums_in, BestNight}
use Rattle.listing.specs.Nights.{rated, with_line}
use Rattle.listing.specs.declared.night.RatedNight.{RatedNight}
use Rattle.listing.proofs.NightLaws.{Real, opened_real, real_next, breath_suc}

-- ---- the lines

pub breath_line_lem : (rate n : ℕ) (b : Breath) → line_of (Number n) (breath_ratio rate b) ≡ breath_line rate n b
unfolding breath_line
breath_line_lem rate n b = refl

pub all_line_lem : (s : Sums) → line_of All (night_ratio s) ≡ all_line s
unfolding all_line
all_line_lem s = refl

-- ---- one step

module _ (steps : ℕ) (night : RatedNight) (bs : List ℕ) where
  abbrev listed : Outcome Coming → List ℕ
  listed (Ok (Some entry)) = breath_line night.rate.ticks night.breath entry.breath ++ listing_from steps (with_line night entry.breath) (drop entry.used bs)
  listed (Ok None) = all_line night.sums
  listed (Err s) = refused_line s.number s.place

  listing_step : (x : Outcome Coming) → next_of night.breath bs ≡ x → listing_from (suc steps) night bs ≡ listed x
  unfolding listing_from
  listing_step x e = ap listed e

  pub listing_more : (entry : Entry) → next_of night.breath bs ≡ done (a_breath entry)
      → listing_from (suc steps) night bs ≡ breath_line night.rate.ticks night.breath entry.breath ++ listing_from steps (with_line night entry.breath) (drop entry.used bs)
  listing_more entry e = listing_step (done (a_breath entry)) e

  pub listing_end : next_of night.breath bs ≡ done the_end → listing_from (suc steps) night bs ≡ all_line night.sums
  listing_end e = listing_step (done the_end) e

  pub listing_stop : {s : Stop} → next_of night.breath bs ≡ Err s → listing_from (suc steps) night bs ≡ refused_line s.number s.place
  listing_stop {s} e = listing_step (Err s) e

-- by what a recording opens with
module _ (bs : List ℕ) where
  pub opened_rated : (o : Opening) → first_of bs ≡ done (a_rate o)
      → opened_listing (first_of bs) bs ≡ listing_from 65537 (rated o.rate) (drop o.used bs)
  unfolding opened_listing rated_listing rated
  opened_rated o e = ap (λ (x : Outcome Start). opened_listing x bs) e

  pub opened_empty : first_of bs ≡ done no_line → opened_listing (first_of bs) bs ≡ all_line no_sums
  unfolding opened_listing
  opened_empty e = ap (λ (x : Outcome Start). opened_listing x bs) e

  pub opened_stopped : {s : Stop} → first_of bs ≡ Err s → opened_listing (first_of bs) bs ≡ refused_line s.number s.place
  unfolding opened_listing
  opened_stopped e = ap (λ (x : Outcome Start). opened_listing x bs) e

pub opened_breath : (rate : Rate) → (rated rate).breath ≡ 1
unfolding rated
opened_breath rate = refl

-- a stop's number has at most two digits
breath_short : {breath number : ℕ} → BreathStop breath number → number < 10 ^ 2
breath_short (inl h) = omega (arith, h.1.0)
breath_short (inr h) = omega (arith, h.0)

first_short : {number : ℕ} → (number ≡ 9) ⊎ (number ≡ 19) → number < 10 ^ 2
first_short (inl h) = omega (arith, h)
first_short (inr h) = omega (arith, h)

-- the night behind a breath is one of a recording too
pub follows_real : (night : RatedNight) → Real night → (bs : List ℕ) (entry : Entry) → next_of night.breath bs ≡ done (a_breath entry) → Real (with_line night entry.breath)
follows_real night r bs entry e =
    let w = follows_breath night.breath bs entry e in
    real_next night r entry.breath w.0

-- More steps than up to breath 65,537 change nothing.
pub listing_steps : (steps more : ℕ) (night : RatedNight) (bs : List ℕ) → Real night → night.breath + steps ≡ 65538
    → listing_from (steps + more) night bs ≡ listing_from steps night bs
listing_steps zero more night bs r e = absurd (omega (arith, r.few))
listing_steps (suc steps) more night bs r e =
    ap (λ (k : ℕ). listing_from k night bs) (suc-add steps more) ∙ go (next_of night.breath bs) refl (λ n rest i h. listing_steps steps more n rest i h)
  where
    go : (x : Outcome Coming) → next_of night.breath bs ≡ x
        → ((n : RatedNight) (rest : List ℕ) → Real n → n.breath + steps ≡ 65538 → listing_from (steps + more) n rest ≡ listing_from steps n rest)
        → listing_from (suc (steps + more)) night bs ≡ listing_from (suc steps) night bs
    go (Ok (Some entry)) n ih =
        let b : Breath = entry.breath in
        let number : (with_line night b).breath + steps ≡ 65538 = omega (arith, breath_suc night b) in
        listing_more (steps + more) night bs entry n
        ∙ ap (λ (u : List ℕ). breath_line night.rate.ticks night.breath b ++ u) (ih (with_line night b) (drop entry.used bs) (follows_real night r bs entry n) number)
        ∙ sym (listing_more steps night bs entry n)
    go (Ok None) n ih = listing_end (steps + more) night bs n ∙ sym (listing_end steps night bs n)
    go (Err s) n ih = listing_stop (steps + more) night bs n ∙ sym (listing_stop steps night bs n)

-- ---- its percentages

-- Of every breath that isn't void, and of every night, the percentage is of the whole number nearest to 1000 times the word's fraction, at a tie
-- the even one.
pub breath_nearest : (rate : ℕ) (b : Breath) (w : ℕ) → breath_ratio rate b ≡ Word w → NearestPrinted w
breath_nearest rate b w e = printed_nearest w (ap is_printable (sym e) ∙ printable_is (breath_ratio rate b) (breath_proportion rate b))

pub all_nearest : (rate : ℕ) (bs : List Breath) (w : ℕ) → night_ratio (sums_of rate bs) ≡ Word w → NearestPrinted w
all_nearest rate bs w e = printed_nearest w (ap is_printable (sym e) ∙ printable_is (night_ratio (sums_of rate bs)) (night_proportion (sums_of rate bs) (sums_proper rate bs)))

-- ---- how long it is

-- a breath's number of j + 1 digits
pub breath_length : (rate j n : ℕ) (b : Breath) → n < 10 ^ suc j → length (breath_line rate n b) ≤ 29 + j
breath_length rate j n b h = subst (λ (t : List ℕ). length t ≤ 29 + j) (breath_line_lem rate n b) (number_length j n (breath_ratio rate b) h (breath_proportion rate b))

pub line_length : (night : RatedNight) → Real night → (b : Breath) → length (breath_line night.rate.ticks night.breath b) ≤ 33
line_length night r b = breath_length night.rate.ticks 4 night.breath b (omega (arith, r.few))

pub last_length : (s : Sums) → Proper s → length (all_line s) ≤ 31
last_length s p = subst (λ (t : List ℕ). length t ≤ 31) (all_line_lem s) (all_length (night_ratio s) (night_proportion s p))

-- A listing has at most 65,536 × 33 + 31 bytes.
lines_length : (steps : ℕ) (night : RatedNight) (bs : List ℕ) → Real night → night.breath + steps ≡ 65538 → 2 + length (listing_from steps night bs) ≤ 33 * steps
lines_length zero night bs r e = absurd (omega (arith, r.few))
lines_length (suc steps) night bs r e = go (next_of night.breath bs) refl (λ n rest i h. lines_length steps n rest i h)
  where
    go : (x : Outcome Coming) → next_of night.breath bs ≡ x
        → ((n : RatedNight) (rest : List ℕ) → Real n → n.breath + steps ≡ 65538 → 2 + length (listing_from steps n rest) ≤ 33 * steps)
        → 2 + length (listing_from (suc steps) night bs) ≤ 33 * suc steps
    go (Ok (Some entry)) n ih =
        let b : Breath = entry.breath in
        let rest : List ℕ = listing_from steps (with_line night b) (drop entry.used bs) in
        let behind = ih (with_line night b) (drop entry.used bs) (follows_real night r bs entry n) (omega (arith, breath_suc night b)) in
        omega (arith, ap length (listing_more steps night bs entry n), length-append (breath_line night.rate.ticks night.breath b) rest, line_length night r b, behind)
    go (Ok None) n ih = omega (arith, ap length (listing_end steps night bs n), last_length night.sums r.proper)
    go (Err s) n ih =
        let w = follows_stop night.breath bs n in
        let short : length (refused_line s.number s.place) ≤ 17 = refused_length s.number s.place 1 4 (breath_short w.0) (omega (arith, w.1, r.few)) in
        omega (arith, ap length (listing_stop steps night bs n), short)

pub listing_length : (bs : List ℕ) → length (listing_of bs) ≤ 2162719
unfolding listing_of listing_on
listing_length bs = go (first_of bs) refl
  where
    go : (x : Outcome Start) → first_of bs ≡ x → length (opened_listing (first_of bs) bs) ≤ 2162719
    go (Ok (Some o)) e =
        omega (arith, ap length (opened_rated bs o e), lines_length 65537 (rated o.rate) (drop o.used bs) (opened_real o.rate) (omega (arith, opened_breath o.rate)))
    go (Ok None) e = omega (arith, ap length (opened_empty bs e), last_length no_sums (omega arith))
    go (Err s) e =
        let w = first_stopped bs e in
        let short : length (refused_line s.number s.place) ≤ 17 = refused_length s.number s.place 1 4 (first_short w.0) (omega (arith, w.1)) in
        omega (arith, ap length (opened_stopped bs e), short)

-- ---- the listing by its breaths

-- the lines of some breaths from a night on, and then the last
lines_of : RatedNight → List Breath → Outcome (Unit {0}) → List ℕ
lines_of night breaths o = numbered night.breath (ratios_of night.rate.ticks breaths) ++ last_line (add_sums night.sums (sums_of night.rate.ticks breaths)) o

lines_none : (night : RatedNight) (o : Outcome (Unit {0})) → last_line night.sums o ≡ lines_of night [] o
unfolding lines_of numbered ratios_of
lines_none night o = ap (λ (s : Sums). last_line s o) (add_none night.rate.ticks night.sums)

lines_some : (night : RatedNight) (b : Breath) (breaths : List Breath) (o : Outcome (Unit {0}))
    → breath_line night.rate.ticks night.breath b ++ lines_of (with_line night b) breaths o ≡ lines_of night (b ∷ breaths) o
unfolding lines_of numbered ratios_of breath_line with_line
lines_some night b breaths o =
    let rest : List ℕ = numbered (suc night.breath) (ratios_of night.rate.ticks breaths) in
    ap (λ (s : Sums). breath_line night.rate.ticks night.breath b ++ (rest ++ last_line s o)) (add_breath night.rate.ticks b breaths night.sums)
    ∙ sym (append_assoc (breath_line night.rate.ticks night.breath b) rest (last_line (add_sums night.sums (sums_of night.rate.ticks (b ∷ breaths))) o))

last_done : (s : Sums) → all_line s ≡ last_line s (done tt)
unfolding last_line
last_done s = refl

last_stop : (sums : Sums) (s : Stop) → refused_line s.number s.place ≡ last_line sums (Err s)
unfolding last_line
last_stop sums s = refl

-- from breath 1 to breath 65,537 a step is left
listing_lines : (steps : ℕ) (night : RatedNight) (bs : List ℕ) → Real night → night.breath + steps ≡ 65538
    → listing_from steps night bs ≡ lines_of night (breaths_from steps night.breath bs) (check_from steps night.breath bs)
listing_lines zero night bs r e = absurd (omega (arith, r.few))
listing_lines (suc steps) night bs r e = go (next_of night.breath bs) refl (λ n rest i h. listing_lines steps n rest i h)
  where
    from_as : (breaths : List Breath) (o : Outcome (Unit {0})) → breaths_from (suc steps) night.breath bs ≡ breaths → check_from (suc steps) night.breath bs ≡ o
        → listing_from (suc steps) night bs ≡ lines_of night breaths o
        → listing_from (suc steps) night bs ≡ lines_of night (breaths_from (suc steps) night.breath bs) (check_from (suc steps) night.breath bs)
    from_as breaths o b d l = l ∙ ap (λ (x : List Breath). lines_of night x o) (sym b) ∙ ap (lines_of night (breaths_from (suc steps) night.breath bs)) (sym d)

    go : (x : Outcome Coming) → next_of night.breath bs ≡ x
        → ((n : RatedNight) (rest : List ℕ) → Real n → n.breath + steps ≡ 65538
        → listing_from steps n rest ≡ lines_of n (breaths_from steps n.breath rest) (check_from steps n.breath rest))
        → listing_from (suc steps) night bs ≡ lines_of night (breaths_from (suc steps) night.breath bs) (check_from (suc steps) night.breath bs)
    go (Ok (Some entry)) n ih =
        let b : Breath = entry.breath in
        let rest : List ℕ = drop entry.used bs in
        let breaths : List Breath = breaths_from steps (suc night.breath) rest in
        let o : Outcome (Unit {0}) = check_from steps (suc night.breath) rest in
        let behind : RatedNight = with_line night b in
        from_as (b ∷ breaths) o (breaths_more steps night.breath bs entry n) (check_more steps night.breath bs entry n)
        (listing_more steps night bs entry n
        ∙ ap (λ (u : List ℕ). breath_line night.rate.ticks night.breath b ++ u)
        (ih behind rest (follows_real night r bs entry n) (omega (arith, breath_suc night b))
        ∙ ap (λ (k : ℕ). lines_of behind (breaths_from steps k rest) (check_from steps k rest)) (breath_suc night b))
        ∙ lines_some night b breaths o)
    go (Ok None) n ih =
        from_as [] (done tt) (breaths_end steps night.breath bs n) (check_end steps night.breath bs n)
        (listing_end steps night bs n ∙ last_done night.sums ∙ lines_none night (done tt))
    go (Err s) n ih =
        from_as [] (Err s) (breaths_stop steps night.breath bs n) (check_stop steps night.breath bs n)
        (listing_stop steps night bs n ∙ last_stop night.sums s ∙ lines_none night (Err s))

-- the numbered lines of some breaths at a rate, and then the last
numbered_lines : (rate : ℕ) → List Breath → Outcome (Unit {0}) → List ℕ
numbered_lines rate breaths o = numbered 1 (ratios_of rate breaths) ++ last_line (sums_of rate breaths) o

rated_breaths : (rate : Rate) (bs : List ℕ)
    → listing_from 65537 (rated rate) bs ≡ numbered_lines rate.ticks (breaths_on 1 bs) (check_on 1 bs)
unfolding rated breaths_on check_on numbered_lines lines_of
rated_breaths rate bs =
    listing_lines 65537 (rated rate) bs (opened_real rate) (omega arith)
    ∙ ap (λ (s : Sums). numbered 1 (ratios_of rate.ticks (breaths_from 65537 1 bs)) ++ last_line s (check_from 65537 1 bs)) (none_add (sums_of rate.ticks (breaths_from 65537 1 bs)))

lines_nothing : (rate : ℕ) (o : Outcome (Unit {0})) → last_line no_sums o ≡ numbered_lines rate [] o
unfolding numbered_lines numbered ratios_of sums_of not_void total
lines_nothing rate o = refl

-- as the lines of a recording
lines_in : (rate : ℕ) (breaths : List Breath) (o : Outcome (Unit {0})) (bs : List ℕ) → rate_in bs ≡ rate → breaths_in bs ≡ breaths → recording_check bs ≡ o
    → numbered_lines rate breaths o ≡ numbered 1 (ratios_of (rate_in bs) (breaths_in bs)) ++ last_line (sums_in bs) (recording_check bs)
unfolding numbered_lines sums_in
lines_in rate breaths o bs r b c = rw (r, b, c) refl

-- A listing is the numbered lines of the recording's breaths at its rate, and then `all` of their sums, or `refused`.
pub listing_breaths : (bs : List ℕ) → listing_of bs ≡ numbered 1 (ratios_of (rate_in bs) (breaths_in bs)) ++ last_line (sums_in bs) (recording_check bs)
unfolding listing_of listing_on
listing_breaths bs = go (first_of bs) refl
  where
    go : (x : Outcome Start) → first_of bs ≡ x → opened_listing (first_of bs) bs ≡ numbered 1 (ratios_of (rate_in bs) (breaths_in bs)) ++ last_line (sums_in bs) (recording_check bs)
    go (Ok (Some o)) e =
        opened_rated bs o e
        ∙ rated_breaths o.rate (drop o.used bs)
        ∙ lines_in o.rate.ticks (breaths_on 1 (drop o.used bs)) (check_on 1 (drop o.used bs)) bs (rate_rated bs o e) (breaths_rated bs o e) (check_rated bs o e)
    go (Ok None) e =
        opened_empty bs e ∙ last_done no_sums ∙ lines_nothing (rate_in bs) (done tt) ∙ lines_in (rate_in bs) [] (done tt) bs refl (breaths_empty bs e) (check_empty bs e)
    go (Err s) e =
        opened_stopped bs e
        ∙ last_stop no_sums s
        ∙ lines_nothing (rate_in bs) (Err s)
        ∙ lines_in (rate_in bs) [] (Err s) bs refl (breaths_refused bs e) (check_refused bs e)

-- Demand 3, of a night.
pub best_night : (bs : List ℕ) → BestNight bs
best_night bs = record { lines = listing_breaths bs; each = breaths_best (rate_in bs) (breaths_in bs); all = night_best (sums_in bs) }
