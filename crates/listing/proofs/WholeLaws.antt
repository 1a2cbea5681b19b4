-- The whole of a recording in one piece, and what `list` answers (`list_done`, `list_stopped`). Assumes nothing.
-- `night_stops`: where it stops, it stops as a recording can.
use mathlib.Core.Path.{◌≡◌, refl, sym, ap, ◌∙◌}
use mathlib.Core.Bool.{true}
use mathlib.Core.List.{List, [], ◌++◌}
use Prim.Native.Nat.{ℕ, zero, suc, ◌+◌, ◌-◌, ◌*◌, ◌≤◌}
use native.Mathlib.Omega.{arith}
use lib.ListN.{length, drop}
use Rattle.std.specs.Prelude.{Some, None, Ok, Err}
use Rattle.slash.specs.Answers.{Outcome, stop, done, ◌then◌}
use Rattle.slash.specs.declared.answer.Stop.{Stop}
use Rattle.slash.proofs.AnswerLaws.{no_stop, then_stopped}
use Rattle.breaths.specs.Sums.{no_sums}
use Rattle.breaths.specs.declared.breath.Breath.{Breath}
use Rattle.breaths.specs.declared.rate.Rate.{Rate}
use Rattle.text.specs.Stores.{at_start, length_of, list_after}
use Rattle.recording.specs.Openings.{Start, first_of}
use Rattle.recording.specs.Reading.{Coming, next_of, check_from, check_on, recording_check, RecordingStop}
use Rattle.recording.proofs.ReadingLaws.{check_more, check_stop, check_stops, check_rated, check_refused}
use Rattle.listing.specs.Listing.{breath_line, all_line, listing_from, opened_listing, listing_on, listing_of, night_outcome, BestNight}
use Rattle.listing.specs.Nights.{rated, with_line}
use Rattle.listing.specs.Pieces.{ListedPiece, ends_here, line_then, is_sure, piece_from, piece_of, answer_of}
use Rattle.listing.specs.declared.night.Night.{Night}
use Rattle.listing.specs.declared.night.Night.TheVariants.{Begun, Rated}
use Rattle.listing.specs.declared.night.RatedNight.{RatedNight}
use Rattle.listing.specs.declared.piece.End.TheVariants.{Closed}
use Rattle.listing.specs.declared.piece.Piece.{Piece}
use Rattle.listing.proofs.NightLaws.{Real, opened_real, breath_suc}
use Rattle.listing.proofs.ListingLaws.{follows_real, listing_more, listing_end, opened_rated, opened_empty, breath_length, line_length, best_night}
use Rattle.listing.proofs.PieceLaws.{sure_last, pieces_more, pieces_end, first_rate, first_end}
use Rattle.listing.proofs.StepLaws.{Answers}

-- ---- the whole of a recording in one piece, where no line stops it

ends_here_text : (night : Night) (text : List ℕ) → (ends_here night text Closed).text ≡ text
unfolding ends_here
ends_here_text night text = refl

line_then_text : (line : List ℕ) (used : ℕ) (l : ListedPiece) → (line_then line used l).text ≡ line ++ l.text
unfolding line_then
line_then_text line used l = refl

-- where the next line has room, and so have those behind it
whole_step : (steps : ℕ) (night : RatedNight) (bs : List ℕ) (room most : ℕ) → Real night → 33 ≤ room
    → ((b : Breath) → length (breath_line night.rate.ticks night.breath b) ≤ most)
    → check_from (suc steps) night.breath bs ≡ done tt
    → ((n : RatedNight) (rest : List ℕ) (left : ℕ) → Real n → n.breath ≡ suc night.breath → room ≤ left + most → check_from steps n.breath rest ≡ done tt
    → (piece_from steps n rest true left).text ≡ listing_from steps n rest)
    → (piece_from (suc steps) night bs true room).text ≡ listing_from (suc steps) night bs
whole_step steps night bs room most r h short good ih = go (next_of night.breath bs) refl
  where
    sure : is_sure bs true room ≡ true
    sure = sym (sure_last bs true room h refl)

    go : (x : Outcome Coming) → next_of night.breath bs ≡ x → (piece_from (suc steps) night bs true room).text ≡ listing_from (suc steps) night bs
    go (Ok (Some entry)) n =
        let b : Breath = entry.breath in
        let line : List ℕ = breath_line night.rate.ticks night.breath b in
        let behind : RatedNight = with_line night b in
        let left : ℕ = room - length line in
        let rest : List ℕ = drop entry.used bs in
        let still : check_from steps behind.breath rest ≡ done tt =
        ap (λ (k : ℕ). check_from steps k rest) (breath_suc night b) ∙ sym (check_more steps night.breath bs entry n) ∙ good
        in
        ap (λ (l : ListedPiece). l.text) (pieces_more steps night bs true room sure entry n)
        ∙ line_then_text line entry.used (piece_from steps behind rest true left)
        ∙ ap (λ (u : List ℕ). line ++ u) (ih behind rest left (follows_real night r bs entry n) (breath_suc night b) (omega (arith, short b)) still)
        ∙ sym (listing_more steps night bs entry n)
    go (Ok None) n =
        ap (λ (l : ListedPiece). l.text) (pieces_end steps night bs true room sure n)
        ∙ ends_here_text (Rated night) (all_line night.sums)
        ∙ sym (listing_end steps night bs n)
    go (Err s) n = absurd (no_stop (sym (check_stop steps night.breath bs n) ∙ good))

-- 33 bytes for each line
whole : (steps : ℕ) (night : RatedNight) (bs : List ℕ) (room : ℕ) → Real night → night.breath + steps ≡ 65538 → 33 * steps ≤ room
    → check_from steps night.breath bs ≡ done tt
    → (piece_from steps night bs true room).text ≡ listing_from steps night bs
whole zero night bs room r e h good = absurd (omega (arith, r.few))
whole (suc steps) night bs room r e h good =
    whole_step steps night bs room 33 r (omega arith) (line_length night r) good
    (λ n rest left i number few still. whole steps n rest left i (omega arith) (omega arith) still)

-- The array of `list` holds the last line's 33 bytes too, since the number of breath 1 has one digit.
whole_rated : (rate : Rate) (bs : List ℕ) → check_on 1 bs ≡ done tt → (piece_from 65537 (rated rate) bs true 2162719).text ≡ listing_from 65537 (rated rate) bs
unfolding check_on rated
whole_rated rate bs good =
    whole_step 65536 (rated rate) bs 2162719 29 (opened_real rate) (omega arith) (λ b. breath_length rate.ticks 0 1 b (omega arith)) good
    (λ n rest left i number few still. whole 65536 n rest left i (omega arith) (omega arith) still)

whole_listing : (bs : List ℕ) → recording_check bs ≡ done tt → (piece_of Begun bs true 2162719).text ≡ listing_of bs
unfolding listing_of listing_on
whole_listing bs good = go (first_of bs) refl
  where
    sure : is_sure bs true 2162719 ≡ true
    sure = sym (sure_last bs true 2162719 (omega arith) refl)

    go : (x : Outcome Start) → first_of bs ≡ x → (piece_of Begun bs true 2162719).text ≡ opened_listing (first_of bs) bs
    go (Ok (Some o)) e =
        ap (λ (l : ListedPiece). l.text) (first_rate bs true 2162719 sure o e)
        ∙ line_then_text [] o.used (piece_from 65537 (rated o.rate) (drop o.used bs) true 2162719)
        ∙ whole_rated o.rate (drop o.used bs) (sym (check_rated bs o e) ∙ good)
        ∙ sym (opened_rated bs o e)
    go (Ok None) e =
        ap (λ (l : ListedPiece). l.text) (first_end bs true 2162719 sure e) ∙ ends_here_text Begun (all_line no_sums) ∙ sym (opened_empty bs e)
    go (Err s) e = absurd (no_stop (sym (check_refused bs e) ∙ good))

-- ---- the answers

night_is : (bs : List ℕ) (o : Outcome (Unit {0})) → o ≡ recording_check bs → (o then λ _. done (listing_of bs)) ≡ night_outcome bs
unfolding night_outcome
night_is bs o e = ap (λ (p : Outcome (Unit {0})). p then λ _. done (listing_of bs)) e

pub night_stops : (bs : List ℕ) (number place : ℕ) → night_outcome bs ≡ stop number place → RecordingStop number place
unfolding night_outcome
night_stops bs number place e = check_stops bs number place (sym (then_stopped (listing_of bs) (recording_check bs) (sym e)))

pub list_done : (bs o o' : List ℕ) (p : Piece) → done tt ≡ recording_check bs → length o ≡ 2162719
    → Answers (piece_of Begun bs true (length o)) o o' p
    → (done p.length ≡ length_of (night_outcome bs)) × ((o' ≡ list_after (night_outcome bs) o) × BestNight bs)
unfolding answer_of length_of list_after
list_done bs o o' p good long a =
    let night-done : done (listing_of bs) ≡ night_outcome bs = night_is bs (done tt) good in
    let text : (piece_of Begun bs true (length o)).text ≡ listing_of bs = ap (λ (m : ℕ). (piece_of Begun bs true m).text) long ∙ whole_listing bs (sym good) in (
      ap done (ap (λ (q : Piece). q.length) a.0 ∙ ap length text) ∙ ap length_of night-done,
      (a.1 ∙ ap (λ (t : List ℕ). at_start t o) text ∙ ap (λ (x : Outcome (List ℕ)). list_after x o) night-done, best_night bs),
    )

pub list_stopped : (bs o : List ℕ) {s : Stop} → Err s ≡ recording_check bs
    → (Err s ≡ length_of (night_outcome bs)) × ((o ≡ list_after (night_outcome bs) o) × BestNight bs)
unfolding length_of list_after
list_stopped bs o {s} bad =
    let night-stop : Err s ≡ night_outcome bs = night_is bs (Err s) bad in
    (ap length_of night-stop, (ap (λ (x : Outcome (List ℕ)). list_after x o) night-stop, best_night bs))
