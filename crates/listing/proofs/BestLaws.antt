-- The breaths of a piece, and demand 3 of it (`best_piece`). Assumes nothing.
use mathlib.Core.Path.{◌≡◌, refl, sym, ap, ◌∙◌, subst}
use mathlib.Core.Bool.{Bool, true, false}
use mathlib.Core.List.{List, [], ◌∷◌, ◌++◌, append_assoc}
use Prim.Native.Nat.{ℕ, zero, suc, ◌+◌, ◌-◌, ◌≤◌}
use native.Mathlib.Omega.{arith}
use lib.ListN.{length, take, drop}
use lib.Seq.{take-add, drop_at, length-take-le}
use Rattle.std.specs.Prelude.{Err}
use Rattle.slash.specs.Answers.{done}
use Rattle.slash.specs.declared.answer.Stop.{Stop}
use Rattle.breaths.specs.Sums.{no_sums}
use Rattle.breaths.specs.declared.breath.Breath.{Breath}
use Rattle.breaths.specs.declared.rate.Rate.{Rate}
use Rattle.breaths.specs.declared.sums.Sums.{Sums}
use Rattle.breaths.proofs.RatioLaws.{breaths_best, night_best}
use Rattle.breaths.proofs.SumLaws.{add_none, add_breath}
use Rattle.recording.specs.Openings.{a_rate, first_of}
use Rattle.recording.specs.Reading.{a_breath, next_of, breaths_from, breaths_on, rate_in, breaths_in}
use Rattle.recording.specs.declared.line.Entry.{Entry}
use Rattle.recording.specs.declared.opening.Opening.{Opening}
use Rattle.recording.proofs.OpeningLaws.{first_none, first_rated, first_taken}
use Rattle.recording.proofs.ReadingLaws.{follows_breath, next_taken, breaths_more, breaths_none, breaths_rated, breaths_empty, rate_rated}
use Rattle.text.specs.Lines.{numbered}
use Rattle.listing.specs.Listing.{breath_line, all_line, ratios_of}
use Rattle.listing.specs.Nights.{rated, with_line, sums_so_far}
use Rattle.listing.specs.Pieces.{end_outcome, ListedPiece, left_to_next, ends_here, line_then, piece_from, piece_of, rate_of, breaths_of, end_text, Lists, BestPiece}
use Rattle.listing.specs.declared.night.Night.{Night}
use Rattle.listing.specs.declared.night.Night.TheVariants.{Begun, Rated}
use Rattle.listing.specs.declared.night.RatedNight.{RatedNight}
use Rattle.listing.specs.declared.piece.End.{End}
use Rattle.listing.specs.declared.piece.End.TheVariants.{Open, Closed, Refused, NoNight}
use Rattle.listing.proofs.NightLaws.{breath_suc, rate_same}
use Rattle.listing.proofs.PieceLaws.{further, pieces_case, first_case, rated_case}

-- ---- the breaths of the bytes that a piece used

-- those behind a line's bytes
drop_taken : (n m : ℕ) (bs : List ℕ) → n ≤ length bs → drop n (take (n + m) bs) ≡ take m (drop n bs)
drop_taken n m bs h = ap (drop n) (take-add n m bs) ∙ drop_at (take n bs) (take m (drop n bs)) n (length-take-le n bs h)

breaths_one : (bs : List ℕ) → breaths_from 65537 1 bs ≡ breaths_on 1 bs
unfolding breaths_on
breaths_one bs = refl

taken_more : (steps breath : ℕ) (bs : List ℕ) (entry : Entry) → next_of breath bs ≡ done (a_breath entry) → (used : ℕ)
    → breaths_from (suc steps) breath (take (entry.used + used) bs) ≡ entry.breath ∷ breaths_from steps (suc breath) (take used (drop entry.used bs))
taken_more steps breath bs entry n used =
    breaths_more steps breath (take (entry.used + used) bs) entry (next_taken breath bs entry n (entry.used + used) (omega arith))
    ∙ ap (λ (u : List ℕ). entry.breath ∷ breaths_from steps (suc breath) u) (drop_taken entry.used used bs (follows_breath breath bs entry n).1.within)

-- ---- a piece by these breaths

lists_ends_here : (night : Night) (rate : ℕ) (text : List ℕ) (end : End) → text ≡ end_text (sums_so_far night) (end_outcome end) → Lists night rate [] (ends_here night text end)
unfolding ends_here numbered ratios_of
lists_ends_here night rate text end e = record { lines = e; sums = add_none rate (sums_so_far night) }

left_text : (used : ℕ) (s : Sums) (end : End) → end_text s (end_outcome end) ≡ end_text s (end_outcome (left_to_next used end))
unfolding left_to_next end_text
left_text zero s end = refl
left_text (suc n) s Open = refl
left_text (suc n) s Closed = refl
left_text (suc n) s (Refused x) = refl
left_text (suc n) s NoNight = refl

lists_line_then : (night : RatedNight) (b : Breath) (breaths : List Breath) (used : ℕ) (l : ListedPiece) → Lists (Rated (with_line night b)) night.rate.ticks breaths l
    → Lists (Rated night) night.rate.ticks (b ∷ breaths) (line_then (breath_line night.rate.ticks night.breath b) used l)
unfolding line_then numbered ratios_of breath_line with_line
lists_line_then night b breaths used l p =
    let rate : ℕ = night.rate.ticks in
    let line : List ℕ = breath_line rate night.breath b in
    let rest : List ℕ = numbered (suc night.breath) (ratios_of rate breaths) in
    record {
      lines =
          ap (λ (t : List ℕ). line ++ t) p.lines
          ∙ sym (append_assoc line rest (end_text (sums_so_far l.night) (end_outcome l.end)))
          ∙ ap (λ (t : List ℕ). (line ++ rest) ++ t) (left_text used (sums_so_far l.night) l.end);
      sums = p.sums ∙ add_breath rate b breaths night.sums;
    }

-- behind the rate line
lists_after_rate : (rate : Rate) (breaths : List Breath) (used : ℕ) (l : ListedPiece) → Lists (Rated (rated rate)) rate.ticks breaths l
    → Lists Begun rate.ticks breaths (line_then [] used l)
unfolding line_then rated
lists_after_rate rate breaths used l p =
    record { lines = p.lines ∙ ap (λ (t : List ℕ). numbered 1 (ratios_of rate.ticks breaths) ++ t) (left_text used (sums_so_far l.night) l.end); sums = p.sums }

ends_here_used : (night : Night) (text : List ℕ) (end : End) → 0 ≡ (ends_here night text end).used
unfolding ends_here
ends_here_used night text end = refl

line_then_used : (line : List ℕ) (used : ℕ) (l : ListedPiece) → used + l.used ≡ (line_then line used l).used
unfolding line_then
line_then_used line used l = refl

-- what a piece stays with: it uses no byte, of which there are no breaths
abbrev ListsUsed : (steps : ℕ) (night : RatedNight) (bs : List ℕ) → ListedPiece → Type 0
ListsUsed steps night bs l = Lists (Rated night) night.rate.ticks (breaths_from steps night.breath (take l.used bs)) l

used_ends_here : (steps : ℕ) (night : RatedNight) (bs text : List ℕ) (end : End) → text ≡ end_text night.sums (end_outcome end)
    → ListsUsed steps night bs (ends_here (Rated night) text end)
used_ends_here steps night bs text end e =
    subst (λ (x : List Breath). Lists (Rated night) night.rate.ticks x (ends_here (Rated night) text end))
    (sym (breaths_none steps night.breath) ∙ ap (λ (n : ℕ). breaths_from steps night.breath (take n bs)) (ends_here_used (Rated night) text end))
    (lists_ends_here (Rated night) night.rate.ticks text end e)

open_text : (s : Sums) → [] ≡ end_text s (done false)
unfolding end_text
open_text s = refl

closed_text : (s : Sums) → all_line s ≡ end_text s (done true)
unfolding end_text
closed_text s = refl

refused_text : (sums : Sums) (s : Stop) → [] ≡ end_text sums (Err s)
unfolding end_text
refused_text sums s = refl

listed : (steps : ℕ) (night : RatedNight) (bs : List ℕ) (last : Bool) (room : ℕ) → ListsUsed steps night bs (piece_from steps night bs last room)
unfolding piece_from
listed zero night bs last room = used_ends_here zero night bs [] Open (open_text night.sums)
listed (suc steps) night bs last room =
    pieces_case steps night bs last room (ListsUsed (suc steps) night bs)
    (λ t. used_ends_here (suc steps) night bs [] Open (open_text night.sums))
    (λ t entry n. further_lists entry n
    (listed steps (with_line night entry.breath) (drop entry.used bs) last (room - length (breath_line night.rate.ticks night.breath entry.breath))))
    (λ t n. used_ends_here (suc steps) night bs (all_line night.sums) Closed (closed_text night.sums))
    (λ t s n. used_ends_here (suc steps) night bs [] _ (refused_text night.sums s))
  where
    further_lists : (entry : Entry) → next_of night.breath bs ≡ done (a_breath entry)
        → ListsUsed steps (with_line night entry.breath) (drop entry.used bs)
        (piece_from steps (with_line night entry.breath) (drop entry.used bs) last (room - length (breath_line night.rate.ticks night.breath entry.breath)))
        → ListsUsed (suc steps) night bs (further steps night bs last room entry)
    further_lists entry n ih =
        let b : Breath = entry.breath in
        let rate : ℕ = night.rate.ticks in
        let line : List ℕ = breath_line rate night.breath b in
        let behind : RatedNight = with_line night b in
        let rest : List ℕ = drop entry.used bs in
        let l : ListedPiece = piece_from steps behind rest last (room - length line) in
        let these : breaths_from steps behind.breath (take l.used rest) ≡ breaths_from steps (suc night.breath) (take l.used rest) =
        ap (λ (k : ℕ). breaths_from steps k (take l.used rest)) (breath_suc night b)
        in
        let same : Lists (Rated behind) rate (breaths_from steps behind.breath (take l.used rest)) l =
        subst (λ (x : Rate). Lists (Rated behind) x.ticks (breaths_from steps behind.breath (take l.used rest)) l) (rate_same night b) ih
        in
        subst (λ (x : List Breath). Lists (Rated night) rate x (line_then line entry.used l))
        (ap (λ (x : List Breath). b ∷ x) these
        ∙ sym (taken_more steps night.breath bs entry n l.used)
        ∙ ap (λ (m : ℕ). breaths_from (suc steps) night.breath (take m bs)) (line_then_used line entry.used l))
        (lists_line_then night b _ entry.used l same)

-- ---- demand 3

best_lists : (night : Night) (bs : List ℕ) (l : ListedPiece) → Lists night (rate_of night (take l.used bs)) (breaths_of night (take l.used bs)) l → BestPiece night bs l
best_lists night bs l p = record { lists = p; each = breaths_best _ _; all = night_best (sums_so_far l.night) }

best_rated : (night : RatedNight) (bs : List ℕ) (l : ListedPiece) → ListsUsed (65538 - night.breath) night bs l → BestPiece (Rated night) bs l
unfolding rate_of breaths_of breaths_on
best_rated night bs l p = best_lists (Rated night) bs l p

-- of a night of which nothing is read: no bytes are used, or the rate line's are
best_unread : (bs text : List ℕ) (end : End) → text ≡ end_text no_sums (end_outcome end) → BestPiece Begun bs (ends_here Begun text end)
unfolding rate_of breaths_of
best_unread bs text end e =
    let none : [] ≡ breaths_in (take (ends_here Begun text end).used bs) =
    sym (breaths_empty [] (sym (first_none [] refl))) ∙ ap (λ (n : ℕ). breaths_in (take n bs)) (ends_here_used Begun text end)
    in
    best_lists Begun bs (ends_here Begun text end)
    (subst (λ (x : List Breath). Lists Begun (rate_in (take (ends_here Begun text end).used bs)) x (ends_here Begun text end)) none
    (lists_ends_here Begun _ text end e))

best_after_rate : (bs : List ℕ) (o : Opening) → first_of bs ≡ done (a_rate o) → (l : ListedPiece)
    → ListsUsed 65537 (rated o.rate) (drop o.used bs) l → BestPiece Begun bs (line_then [] o.used l)
unfolding rate_of breaths_of rated
best_after_rate bs o e l p =
    let m : ℕ = o.used + l.used in
    let opens : first_of (take m bs) ≡ done (a_rate o) = first_taken bs o e m (omega arith) in
    let rate : o.rate.ticks ≡ rate_in (take m bs) = sym (rate_rated (take m bs) o opens) in
    let breaths : breaths_from 65537 1 (take l.used (drop o.used bs)) ≡ breaths_in (take m bs) =
    ap (breaths_from 65537 1) (sym (drop_taken o.used l.used bs (first_rated bs o e).0.within)) ∙ breaths_one (drop o.used (take m bs)) ∙ sym (breaths_rated (take m bs) o opens)
    in
    let all : ListedPiece = line_then [] o.used l in
    let p' : Lists Begun o.rate.ticks (breaths_from 65537 1 (take l.used (drop o.used bs))) all = lists_after_rate o.rate _ o.used l p in
    let p'' : Lists Begun (rate_in (take m bs)) (breaths_from 65537 1 (take l.used (drop o.used bs))) all =
    subst (λ (r : ℕ). Lists Begun r (breaths_from 65537 1 (take l.used (drop o.used bs))) all) rate p'
    in
    let p''' : Lists Begun (rate_in (take m bs)) (breaths_in (take m bs)) all = subst (λ (x : List Breath). Lists Begun (rate_in (take m bs)) x all) breaths p'' in
    best_lists Begun bs all (subst (λ (n : ℕ). Lists Begun (rate_in (take n bs)) (breaths_in (take n bs)) all) (line_then_used [] o.used l) p''')

-- Demand 3, of a piece.
pub best_piece : (night : Night) (bs : List ℕ) (last : Bool) (room : ℕ) → BestPiece night bs (piece_of night bs last room)
best_piece Begun bs last room =
    first_case bs last room (BestPiece Begun bs)
    (λ t. best_unread bs [] Open (open_text no_sums))
    (λ t o e. best_after_rate bs o e _ (listed 65537 (rated o.rate) (drop o.used bs) last room))
    (λ t e. best_unread bs (all_line no_sums) Closed (closed_text no_sums))
    (λ t s e. best_unread bs [] _ (refused_text no_sums s))
best_piece (Rated night) bs last room =
    rated_case (BestPiece (Rated night) bs) night bs last room
    (λ e. best_rated night bs _ (listed (65538 - night.breath) night bs last room))
    (best_rated night bs _ (used_ends_here (65538 - night.breath) night bs [] NoNight (refused_text night.sums _)))
