-- A listing in pieces. Assumes nothing.
-- `piece_listing`: from a night on, the listing of some bytes and whatever follows them is the piece's text, and then what it goes on with.
-- `piece_refusing`: a piece that is refused lists nothing. `piece_sound`: from a night of a recording on, a piece uses no more bytes than there are, its text has room, and the
-- night behind it and its stop are those of a recording; `piece_rate`: and the night's rate is one. `piece_on`: an open piece with room for a line took one, or
-- waits for bytes.
use mathlib.Core.Path.{◌≡◌, refl, sym, ap, ◌∙◌, subst}
use mathlib.Core.Logic.{◌⊎◌, inl, inr}
use mathlib.Core.Bool.{Bool, true, false, ◌||◌, and-eq-true_iff, true≢false}
use mathlib.Core.List.{List, [], ◌++◌, append_assoc, append-nil}
use Prim.Native.Nat.{ℕ, zero, suc, ◌+◌, ◌-◌, ◌≤◌, ◌<◌}
use native.Mathlib.Omega.{arith}
use native.Mathlib.Nat.{sub-zero}
use native.Mathlib.Decide.{dec_le}
use lib.Dec.{leb, ltb}
use lib.ListN.{length, drop, length-append, length-drop}
use lib.Seq.{drop-append-le, drop-drop}
use borrow.Author.Tests.{leb-true, ltb-true, ltb-false, le-leb, lt-leb}
use Rattle.std.specs.Prelude.{Some, None, Ok, Err, if◌then◌else◌}
use Rattle.slash.specs.Answers.{Outcome, done, Stops}
use Rattle.slash.specs.declared.answer.Stop.{Stop}
use Rattle.breaths.specs.Rates.{is_rate}
use Rattle.breaths.specs.Sums.{no_sums}
use Rattle.breaths.specs.declared.breath.Breath.{Breath}
use Rattle.breaths.specs.declared.rate.Rate.{Rate}
use Rattle.text.specs.Scan.{length_before}
use Rattle.text.specs.Lines.{refused_line}
use Rattle.text.proofs.ScanLaws.{before_le}
use Rattle.recording.specs.Openings.{Start, a_rate, no_line, first_of}
use Rattle.recording.specs.Reading.{Coming, a_breath, the_end, next_of}
use Rattle.recording.specs.declared.line.Entry.{Entry}
use Rattle.recording.specs.declared.opening.Opening.{Opening}
use Rattle.recording.proofs.LineLaws.{Ready}
use Rattle.recording.proofs.OpeningLaws.{first_rated, first_stopped, first_ready}
use Rattle.recording.proofs.ReadingLaws.{StopAt, follows_breath, follows_stop, next_ready}
use Rattle.listing.specs.Listing.{breath_line, all_line, listing_from, rated_listing, opened_listing, listing_on}
use Rattle.listing.specs.Nights.{rated, with_line, is_rated, is_night}
use Rattle.listing.specs.Pieces.{end_outcome, ListedPiece, left_to_next, ends_here, line_then, is_sure, piece_from, rated_piece, opened_piece, piece_of, goes_on, rest_of, MakesListing}
use Rattle.listing.specs.Steps.{next_line}
use Rattle.listing.specs.declared.night.Night.{Night}
use Rattle.listing.specs.declared.night.Night.TheVariants.{Begun, Rated}
use Rattle.listing.specs.declared.night.RatedNight.{RatedNight}
use Rattle.listing.specs.declared.piece.End.{End}
use Rattle.listing.specs.declared.piece.End.TheVariants.{Open, Closed, Refused, NoNight}
use Rattle.listing.proofs.NightLaws.{Real, RealNight, night_real, opened_real, breath_suc}
use Rattle.listing.proofs.ListingLaws.{follows_real, listing_more, listing_end, listing_stop, opened_rated, opened_empty, opened_stopped, opened_breath, line_length, last_length}

-- ---- which lines are sure

pub sure_room : (bs : List ℕ) (last : Bool) (room : ℕ) → is_sure bs last room ≡ true → 33 ≤ room
unfolding is_sure
sure_room bs last room e = leb-true _ _ ((and-eq-true_iff (leb 33 room) (last || (leb 33 (length bs) || ltb (length_before 10 bs) (length bs)))).0 e).0

sure_ready : (bs : List ℕ) (room : ℕ) → is_sure bs false room ≡ true → Ready bs
unfolding is_sure
sure_ready bs room e = go (leb 33 (length bs)) refl ((and-eq-true_iff (leb 33 room) (leb 33 (length bs) || ltb (length_before 10 bs) (length bs))).0 e).1
  where
    go : (t : Bool) → leb 33 (length bs) ≡ t → (t || ltb (length_before 10 bs) (length bs)) ≡ true → Ready bs
    go true g h = inl (leb-true _ _ g)
    go false g h = inr (ltb-true _ _ h)

-- nothing that follows changes what comes next, where it is sure
sure_next : (breath : ℕ) (bs more : List ℕ) (last : Bool) (room : ℕ) → (last ≡ true → more ≡ []) → is_sure bs last room ≡ true
    → next_of breath (bs ++ more) ≡ next_of breath bs
sure_next breath bs more true room ends e = ap (λ (m : List ℕ). next_of breath (bs ++ m)) (ends refl) ∙ ap (next_of breath) (append-nil bs)
sure_next breath bs more false room ends e = next_ready breath bs more (sure_ready bs room e)

sure_first : (bs more : List ℕ) (last : Bool) (room : ℕ) → (last ≡ true → more ≡ []) → is_sure bs last room ≡ true → first_of (bs ++ more) ≡ first_of bs
sure_first bs more true room ends e = ap (λ (m : List ℕ). first_of (bs ++ m)) (ends refl) ∙ ap first_of (append-nil bs)
sure_first bs more false room ends e = first_ready bs more (sure_ready bs room e)

-- the test, case by case
module _ (bs : List ℕ) (last : Bool) (room : ℕ) where
  pub sure_no_room : room < 33 → false ≡ is_sure bs last room
  unfolding is_sure
  sure_no_room h = rw (lt-leb _ _ h) refl

  module _ (h : 33 ≤ room) where
    pub sure_last : last ≡ true → true ≡ is_sure bs last room
    unfolding is_sure
    sure_last e = rw (le-leb _ _ h, e) refl

    module _ (e : last ≡ false) where
      pub sure_long : 33 ≤ length bs → true ≡ is_sure bs last room
      unfolding is_sure
      sure_long l = rw (le-leb _ _ h, e, le-leb _ _ l) refl

      pub sure_ended : length bs < 33 → (k : ℕ) → k ≡ length_before 10 bs → ltb k (length bs) ≡ is_sure bs last room
      unfolding is_sure
      sure_ended l k g = rw (le-leb _ _ h, e, lt-leb _ _ l, g) refl

-- Bytes that wait for others: there may be more, and neither 33 bytes nor a line feed are there.
abbrev pub Waits : List ℕ → (last : Bool) → Type 0
Waits bs last = (last ≡ false) × (length bs < 33) × (length_before 10 bs ≡ length bs)

-- a line that has room and isn't sure waits for bytes
unsure : (bs : List ℕ) (last : Bool) (room : ℕ) → 33 ≤ room → is_sure bs last room ≡ false → Waits bs last
unsure bs true room h e = absurd (true≢false (sure_last bs true room h refl ∙ e))
unsure bs false room h e = go (dec_le 33 (length bs))
  where
    go : Dec (33 ≤ length bs) → Waits bs false
    go (yes l) = absurd (true≢false (sure_long bs false room h refl l ∙ e))
    go (no l) =
        let none : length bs ≤ length_before 10 bs = ltb-false _ _ (sure_ended bs false room h refl (omega arith) (length_before 10 bs) refl ∙ e) in
        (refl, omega arith, omega (arith, none, before_le 10 bs))

-- ---- one step of a piece

module _ (steps : ℕ) (night : RatedNight) (bs : List ℕ) (last : Bool) (room : ℕ) where
  -- a breath's line, and what is listed behind it
  abbrev pub further : Entry → ListedPiece
  further entry =
      line_then (breath_line night.rate.ticks night.breath entry.breath) entry.used
      (piece_from steps (with_line night entry.breath) (drop entry.used bs) last (room - length (breath_line night.rate.ticks night.breath entry.breath)))

  -- a stop at the next line
  abbrev pub refused_with : Stop → ListedPiece
  refused_with s = ends_here (Rated night) [] (Refused s)

  surely : Outcome Coming → ListedPiece
  surely (Ok (Some entry)) = further entry
  surely (Ok None) = ends_here (Rated night) (all_line night.sums) Closed
  surely (Err s) = refused_with s

  pieces_step : (t : Bool) → is_sure bs last room ≡ t → piece_from (suc steps) night bs last room ≡ elim t [ true ↦ surely (next_of night.breath bs) | false ↦ ends_here (Rated night) [] Open ]
  unfolding piece_from surely
  pieces_step t e = ap (λ (y : Bool). elim y as (λ z. ListedPiece) [ true ↦ surely (next_of night.breath bs) | false ↦ ends_here (Rated night) [] Open ]) e

  pub pieces_open : is_sure bs last room ≡ false → piece_from (suc steps) night bs last room ≡ ends_here (Rated night) [] Open
  pieces_open f = pieces_step false f

  module _ (sure : is_sure bs last room ≡ true) where
    surely_is : (x : Outcome Coming) → next_of night.breath bs ≡ x → piece_from (suc steps) night bs last room ≡ surely x
    surely_is x e = pieces_step true sure ∙ ap surely e

    pub pieces_more : (entry : Entry) → next_of night.breath bs ≡ done (a_breath entry) → piece_from (suc steps) night bs last room ≡ further entry
    unfolding surely
    pieces_more entry e = surely_is (done (a_breath entry)) e

    pub pieces_end : next_of night.breath bs ≡ done the_end → piece_from (suc steps) night bs last room ≡ ends_here (Rated night) (all_line night.sums) Closed
    unfolding surely
    pieces_end e = surely_is (done the_end) e

    pub pieces_stop : {s : Stop} → next_of night.breath bs ≡ Err s → piece_from (suc steps) night bs last room ≡ refused_with s
    unfolding surely
    pieces_stop {s} e = surely_is (Err s) e

  -- what holds in each case holds of the piece
  pub pieces_case : (P : ListedPiece → Type 0) → (is_sure bs last room ≡ false → P (ends_here (Rated night) [] Open))
      → (is_sure bs last room ≡ true → (entry : Entry) → next_of night.breath bs ≡ done (a_breath entry) → P (further entry))
      → (is_sure bs last room ≡ true → next_of night.breath bs ≡ done the_end → P (ends_here (Rated night) (all_line night.sums) Closed))
      → (is_sure bs last room ≡ true → (s : Stop) → next_of night.breath bs ≡ Err s → P (refused_with s))
      → P (piece_from (suc steps) night bs last room)
  pieces_case P opened more ended stopped = go (is_sure bs last room) refl (next_of night.breath bs) refl
    where
      go : (t : Bool) → is_sure bs last room ≡ t → (x : Outcome Coming) → next_of night.breath bs ≡ x → P (piece_from (suc steps) night bs last room)
      go false t x n = subst P (sym (pieces_open t)) (opened t)
      go true t (Ok (Some entry)) n = subst P (sym (pieces_more t entry n)) (more t entry n)
      go true t (Ok None) n = subst P (sym (pieces_end t n)) (ended t n)
      go true t (Err s) n = subst P (sym (pieces_stop t n)) (stopped t s n)

-- ---- a piece of a night, whether its rate is read or not

pub rated_is : (night : RatedNight) (bs : List ℕ) (last : Bool) (room : ℕ) → is_rated night ≡ true
    → piece_of (Rated night) bs last room ≡ piece_from (65538 - night.breath) night bs last room
unfolding piece_of rated_piece
rated_is night bs last room e = rw (e) refl

pub none_is : (night : RatedNight) (bs : List ℕ) (last : Bool) (room : ℕ) → is_rated night ≡ false → piece_of (Rated night) bs last room ≡ ends_here (Rated night) [] NoNight
unfolding piece_of
none_is night bs last room e = rw (e) refl

module _ (bs : List ℕ) (last : Bool) (room : ℕ) where
  -- behind the rate line
  abbrev pub after_rate : Opening → ListedPiece
  after_rate o = line_then [] o.used (piece_from 65537 (rated o.rate) (drop o.used bs) last room)

  first_step : (t : Bool) → is_sure bs last room ≡ t → piece_of Begun bs last room ≡ (if t then opened_piece (first_of bs) bs last room else ends_here Begun [] Open)
  unfolding piece_of
  first_step t e = ap (λ (y : Bool). if y then opened_piece (first_of bs) bs last room else ends_here Begun [] Open) e

  pub first_open : is_sure bs last room ≡ false → piece_of Begun bs last room ≡ ends_here Begun [] Open
  first_open e = first_step false e

  module _ (sure : is_sure bs last room ≡ true) where
    first_as : (x : Outcome Start) → first_of bs ≡ x → piece_of Begun bs last room ≡ opened_piece x bs last room
    first_as x e = first_step true sure ∙ ap (λ (y : Outcome Start). opened_piece y bs last room) e

    pub first_rate : (o : Opening) → first_of bs ≡ done (a_rate o) → piece_of Begun bs last room ≡ after_rate o
    unfolding opened_piece rated_piece rated
    first_rate o e = first_as (done (a_rate o)) e

    pub first_end : first_of bs ≡ done no_line → piece_of Begun bs last room ≡ ends_here Begun (all_line no_sums) Closed
    unfolding opened_piece
    first_end e = first_as (done no_line) e

    pub first_stop : {s : Stop} → first_of bs ≡ Err s → piece_of Begun bs last room ≡ ends_here Begun [] (Refused s)
    unfolding opened_piece
    first_stop {s} e = first_as (Err s) e

  -- what holds in each case holds of the first piece
  pub first_case : (P : ListedPiece → Type 0) → (is_sure bs last room ≡ false → P (ends_here Begun [] Open))
      → (is_sure bs last room ≡ true → (o : Opening) → first_of bs ≡ done (a_rate o) → P (after_rate o))
      → (is_sure bs last room ≡ true → first_of bs ≡ done no_line → P (ends_here Begun (all_line no_sums) Closed))
      → (is_sure bs last room ≡ true → (s : Stop) → first_of bs ≡ Err s → P (ends_here Begun [] (Refused s)))
      → P (piece_of Begun bs last room)
  first_case P opened more ended stopped = go (is_sure bs last room) refl (first_of bs) refl
    where
      go : (t : Bool) → is_sure bs last room ≡ t → (x : Outcome Start) → first_of bs ≡ x → P (piece_of Begun bs last room)
      go false t x n = subst P (sym (first_open t)) (opened t)
      go true t (Ok (Some o)) n = subst P (sym (first_rate t o n)) (more t o n)
      go true t (Ok None) n = subst P (sym (first_end t n)) (ended t n)
      go true t (Err s) n = subst P (sym (first_stop t n)) (stopped t s n)

-- what holds of every piece of a night whose rate is read, and where the night is none
pub rated_case : (P : ListedPiece → Type 0) (night : RatedNight) (bs : List ℕ) (last : Bool) (room : ℕ)
    → (is_rated night ≡ true → P (piece_from (65538 - night.breath) night bs last room)) → P (ends_here (Rated night) [] NoNight)
    → P (piece_of (Rated night) bs last room)
rated_case P night bs last room real none = go (is_rated night) refl
  where
    go : (t : Bool) → is_rated night ≡ t → P (piece_of (Rated night) bs last room)
    go true e = subst P (sym (rated_is night bs last room e)) (real e)
    go false e = subst P (sym (none_is night bs last room e)) none

-- ---- a piece that is refused

-- It lists nothing, uses nothing, and its night is the one it began with.
pub record Refusing (start : Night) (l : ListedPiece) : Type 0 where
  pub text : l.text ≡ []
  pub used : l.used ≡ 0
  pub night : l.night ≡ start

held_not : (used : ℕ) (end : End) → 1 ≤ used → Stops (end_outcome (left_to_next used end)) → ⊥
unfolding left_to_next
held_not zero end h e = absurd (omega arith)
held_not (suc n) Open h e = e
held_not (suc n) Closed h e = e
held_not (suc n) (Refused s) h e = e
held_not (suc n) NoNight h e = e

abbrev IfStops : Night → ListedPiece → Type 0
IfStops night l = Stops (end_outcome l.end) → Refusing night l

refusing_ends_here : (night : Night) (end : End) → IfStops night (ends_here night [] end)
unfolding ends_here
refusing_ends_here night end h = record { text = refl; used = refl; night = refl }

closed_ends_here : (night : Night) (text : List ℕ) → IfStops night (ends_here night text Closed)
unfolding ends_here
closed_ends_here night text h = absurd h

refusing_line_then : (night : Night) (line : List ℕ) (used : ℕ) (l : ListedPiece) → 1 ≤ used → IfStops night (line_then line used l)
unfolding line_then
refusing_line_then night line used l some h = absurd (held_not used l.end some h)

refusing : (steps : ℕ) (night : RatedNight) (bs : List ℕ) (last : Bool) (room : ℕ) → IfStops (Rated night) (piece_from steps night bs last room)
unfolding piece_from
refusing zero night bs last room = refusing_ends_here (Rated night) Open
refusing (suc steps) night bs last room =
    pieces_case steps night bs last room (IfStops (Rated night))
    (λ t. refusing_ends_here (Rated night) Open)
    (λ t entry n. further_refusing t entry n)
    (λ t n. closed_ends_here (Rated night) (all_line night.sums))
    (λ t s n. refusing_ends_here (Rated night) _)
  where
    further_refusing : is_sure bs last room ≡ true → (entry : Entry) → next_of night.breath bs ≡ done (a_breath entry)
        → IfStops (Rated night) (further steps night bs last room entry)
    further_refusing t entry n = refusing_line_then (Rated night) _ entry.used _ (omega (arith, (follows_breath night.breath bs entry n).1.ended))

refuses : (night : Night) (bs : List ℕ) (last : Bool) (room : ℕ) → IfStops night (piece_of night bs last room)
refuses Begun bs last room =
    first_case bs last room (IfStops Begun)
    (λ t. refusing_ends_here Begun Open)
    (λ t o e. refusing_line_then Begun [] o.used _ (omega (arith, (first_rated bs o e).0.ended)))
    (λ t e. closed_ends_here Begun (all_line no_sums))
    (λ t s e. refusing_ends_here Begun _)
refuses (Rated night) bs last room =
    rated_case (IfStops (Rated night)) night bs last room (λ e. refusing (65538 - night.breath) night bs last room) (refusing_ends_here (Rated night) NoNight)

pub piece_refusing : (night : Night) (bs : List ℕ) (last : Bool) (room : ℕ) → Stops (end_outcome (piece_of night bs last room).end) → (piece_of night bs last room).text ≡ []
piece_refusing night bs last room h = (refuses night bs last room h).text

-- ---- the pieces make the listing

open_rest : (night : RatedNight) (bs : List ℕ) (steps : ℕ) → steps ≡ 65538 - night.breath → listing_from steps night bs ≡ goes_on (done false) (Rated night) bs
unfolding goes_on listing_on rated_listing
open_rest night bs steps e = ap (λ (k : ℕ). listing_from k night bs) e

begun_rest : (bs : List ℕ) → opened_listing (first_of bs) bs ≡ goes_on (done false) Begun bs
unfolding goes_on listing_on
begun_rest bs = refl

refusing_rest : (night : Night) (l : ListedPiece) (bs more : List ℕ) → Refusing night l → goes_on (done false) night (bs ++ more) ≡ l.text ++ goes_on (done false) l.night (drop l.used bs ++ more)
refusing_rest night l bs more r = rw (r.text, r.used, r.night) refl

-- what a piece goes on with is what its last step does: a stop that it leaves is the next piece's
line_then_rest : (x : List ℕ) (line : List ℕ) (used : ℕ) (l : ListedPiece) (bs more : List ℕ) → x ≡ l.text ++ rest_of l (drop used bs) more
    → (Stops (end_outcome l.end) → x ≡ l.text ++ goes_on (done false) l.night (drop l.used (drop used bs) ++ more))
    → line ++ x ≡ (line_then line used l).text ++ rest_of (line_then line used l) bs more
unfolding rest_of line_then left_to_next
line_then_rest x line used l bs more e held =
    ap (λ (u : List ℕ). line ++ u)
    (go used l.end e held ∙ ap (λ (u : List ℕ). l.text ++ goes_on (end_outcome (left_to_next used l.end)) l.night (u ++ more)) (drop-drop l.used used bs))
    ∙ sym (append_assoc line l.text (rest_of (line_then line used l) bs more))
  where
    left : List ℕ
    left = drop l.used (drop used bs) ++ more

    go : (n : ℕ) (end : End) → x ≡ l.text ++ goes_on (end_outcome end) l.night left
        → (Stops (end_outcome end) → x ≡ l.text ++ goes_on (done false) l.night left)
        → x ≡ l.text ++ goes_on (end_outcome (left_to_next n end)) l.night left
    go zero end e h = e
    go (suc n) Open e h = e
    go (suc n) Closed e h = e
    go (suc n) (Refused s) e h = h tt
    go (suc n) NoNight e h = h tt

module _ (more : List ℕ) (last : Bool) (ends : last ≡ true → more ≡ []) where
  abbrev Goes : (bs : List ℕ) → List ℕ → ListedPiece → Type 0
  Goes bs text l = text ≡ l.text ++ rest_of l bs more

  goes_open : (night : Night) (bs text : List ℕ) → text ≡ goes_on (done false) night (bs ++ more) → Goes bs text (ends_here night [] Open)
  unfolding ends_here rest_of
  goes_open night bs text e = e

  goes_closed : (night : Night) (bs text : List ℕ) → Goes bs text (ends_here night text Closed)
  unfolding ends_here rest_of goes_on
  goes_closed night bs text = sym (append-nil text)

  goes_stopped : (night : Night) (bs text : List ℕ) (s : Stop) → text ≡ refused_line s.number s.place
      → Goes bs text (ends_here night [] (Refused s))
  unfolding ends_here rest_of goes_on
  goes_stopped night bs text s e = e

  goes : (steps : ℕ) (night : RatedNight) (bs : List ℕ) (room : ℕ) → Real night → night.breath + steps ≡ 65538
      → Goes bs (listing_from steps night (bs ++ more)) (piece_from steps night bs last room)
  goes zero night bs room r e = absurd (omega (arith, r.few))
  goes (suc steps) night bs room r e =
      pieces_case steps night bs last room (Goes bs (listing_from (suc steps) night (bs ++ more)))
      (λ t. goes_open (Rated night) bs _ (open_rest night (bs ++ more) (suc steps) (omega (arith, e))))
      (λ t entry n. further_goes t entry n
      (goes steps (with_line night entry.breath) (drop entry.used bs) (room - length (breath_line night.rate.ticks night.breath entry.breath))
      (follows_real night r bs entry n) (omega (arith, breath_suc night entry.breath, e))))
      (λ t n. subst (λ (u : List ℕ). Goes bs u (ends_here (Rated night) (all_line night.sums) Closed)) (sym (listing_end steps night (bs ++ more) (after t ∙ n))) (goes_closed (Rated night) bs (all_line night.sums)))
      (λ t s n. goes_stopped (Rated night) bs _ s (listing_stop steps night (bs ++ more) (after t ∙ n)))
    where
      after : is_sure bs last room ≡ true → next_of night.breath (bs ++ more) ≡ next_of night.breath bs
      after t = sure_next night.breath bs more last room ends t

      further_goes : is_sure bs last room ≡ true → (entry : Entry) → next_of night.breath bs ≡ done (a_breath entry)
          → Goes (drop entry.used bs) (listing_from steps (with_line night entry.breath) (drop entry.used bs ++ more))
          (piece_from steps (with_line night entry.breath) (drop entry.used bs) last (room - length (breath_line night.rate.ticks night.breath entry.breath)))
          → Goes bs (listing_from (suc steps) night (bs ++ more)) (further steps night bs last room entry)
      further_goes t entry n ih =
          let line : List ℕ = breath_line night.rate.ticks night.breath entry.breath in
          let behind : RatedNight = with_line night entry.breath in
          let rest : List ℕ = drop entry.used bs in
          let l : ListedPiece = piece_from steps behind rest last (room - length line) in
          let number : steps ≡ 65538 - behind.breath = omega (arith, breath_suc night entry.breath, e) in
          let held : Stops (end_outcome l.end) → listing_from steps behind (rest ++ more) ≡ l.text ++ goes_on (done false) l.night (drop l.used rest ++ more) =
          λ h. open_rest behind (rest ++ more) steps number ∙ refusing_rest (Rated behind) l rest more (refusing steps behind rest last (room - length line) h)
          in
          listing_more steps night (bs ++ more) entry (after t ∙ n)
          ∙ ap (λ (u : List ℕ). line ++ listing_from steps behind u) (drop-append-le entry.used bs more (follows_breath night.breath bs entry n).1.within)
          ∙ line_then_rest (listing_from steps behind (rest ++ more)) line entry.used l bs more ih held

  -- behind the rate line
  goes_rate : (bs : List ℕ) (room : ℕ) → is_sure bs last room ≡ true → (o : Opening) → first_of bs ≡ done (a_rate o)
      → Goes bs (opened_listing (first_of (bs ++ more)) (bs ++ more)) (after_rate bs last room o)
  goes_rate bs room t o e =
      let night : RatedNight = rated o.rate in
      let rest : List ℕ = drop o.used bs in
      let l : ListedPiece = piece_from 65537 night rest last room in
      let number : 65537 ≡ 65538 - night.breath = omega (arith, opened_breath o.rate) in
      let held : Stops (end_outcome l.end) → listing_from 65537 night (rest ++ more) ≡ l.text ++ goes_on (done false) l.night (drop l.used rest ++ more) =
      λ h. open_rest night (rest ++ more) 65537 number ∙ refusing_rest (Rated night) l rest more (refusing 65537 night rest last room h)
      in
      opened_rated (bs ++ more) o (sure_first bs more last room ends t ∙ e)
      ∙ ap (listing_from 65537 night) (drop-append-le o.used bs more (first_rated bs o e).0.within)
      ∙ line_then_rest (listing_from 65537 night (rest ++ more)) [] o.used l bs more (goes 65537 night rest room (opened_real o.rate) (omega (arith, opened_breath o.rate))) held

  goes_first : (bs : List ℕ) (room : ℕ) → Goes bs (opened_listing (first_of (bs ++ more)) (bs ++ more)) (piece_of Begun bs last room)
  goes_first bs room =
      first_case bs last room (Goes bs (opened_listing (first_of (bs ++ more)) (bs ++ more)))
      (λ t. goes_open Begun bs _ (begun_rest (bs ++ more)))
      (λ t o e. goes_rate bs room t o e)
      (λ t e. subst (λ (u : List ℕ). Goes bs u (ends_here Begun (all_line no_sums) Closed)) (sym (opened_empty (bs ++ more) (sure_first bs more last room ends t ∙ e))) (goes_closed Begun bs (all_line no_sums)))
      (λ t s e. goes_stopped Begun bs _ s (opened_stopped (bs ++ more) (sure_first bs more last room ends t ∙ e)))

-- From a night on, the listing of some bytes and whatever follows them is the piece's text, and then what it goes on with: where the piece is
-- open, the listing from its night of the bytes that it didn't use and whatever follows them; where it is refused, the line of the stop; else
-- nothing. (Nothing follows the last bytes.)
pub piece_listing : (night : Night) (bs more : List ℕ) (last : Bool) (room : ℕ) → is_night night ≡ true → (last ≡ true → more ≡ [])
    → listing_on night (bs ++ more) ≡ (piece_of night bs last room).text ++ rest_of (piece_of night bs last room) bs more
unfolding listing_on rated_listing is_night
piece_listing Begun bs more last room e ends = goes_first more last ends bs room
piece_listing (Rated night) bs more last room e ends =
    let r : Real night = night_real night e in
    subst (λ (l : ListedPiece). listing_from (65538 - night.breath) night (bs ++ more) ≡ l.text ++ rest_of l bs more) (sym (rated_is night bs last room e))
    (goes more last ends (65538 - night.breath) night bs room r (omega (arith, r.few)))

pub makes_listing : (night : Night) (bs : List ℕ) (last : Bool) (room : ℕ) → MakesListing night bs last room
unfolding MakesListing
makes_listing night bs last room more e ends = piece_listing night bs more last room e ends

-- ---- what holds of every piece

-- A stop of a recording at a night's next line.
abbrev pub StopOf : Night → (number place : ℕ) → Type 0
StopOf Begun number place = ((number ≡ 9) ⊎ (number ≡ 19)) × (place ≡ 1)
StopOf (Rated night) number place = StopAt night.breath number place

-- An end of a recording: a stop is one of those that it can cause, at the line that comes next.
abbrev pub StopIn : Night → Outcome Bool → Type 0
StopIn night (Err s) = StopOf night s.number s.place
StopIn night (Ok whole) = Unit {0}

-- It uses no more bytes than there are, its text has room, and the night behind it and its end are those of a recording.
pub record Sound (bs : List ℕ) (room : ℕ) (l : ListedPiece) : Type 0 where
  pub used : l.used ≤ length bs
  pub fits : length l.text ≤ room
  pub real : RealNight l.night
  pub stops : StopIn l.night (end_outcome l.end)

sound_ends_here : (bs : List ℕ) (room : ℕ) (night : Night) (text : List ℕ) (end : End) → RealNight night → length text ≤ room → StopIn night (end_outcome end) → Sound bs room (ends_here night text end)
unfolding ends_here
sound_ends_here bs room night text end r h s = record { used = omega arith; fits = h; real = r; stops = s }

left_stops : (night : Night) (used : ℕ) (end : End) → StopIn night (end_outcome end) → StopIn night (end_outcome (left_to_next used end))
unfolding left_to_next
left_stops night zero end s = s
left_stops night (suc n) Open s = tt
left_stops night (suc n) Closed s = tt
left_stops night (suc n) (Refused x) s = tt
left_stops night (suc n) NoNight s = tt

sound_line_then : (bs : List ℕ) (room : ℕ) (line : List ℕ) (used : ℕ) (l : ListedPiece) → used ≤ length bs → length line ≤ room
    → Sound (drop used bs) (room - length line) l → Sound bs room (line_then line used l)
unfolding line_then
sound_line_then bs room line used l u h s =
    record {
      used = omega (arith, s.used, length-drop used bs);
      fits = omega (arith, s.fits, length-append line l.text);
      real = s.real;
      stops = left_stops l.night used l.end s.stops;
    }

sound : (steps : ℕ) (night : RatedNight) (bs : List ℕ) (last : Bool) (room : ℕ) → Real night → Sound bs room (piece_from steps night bs last room)
unfolding piece_from
sound zero night bs last room r = sound_ends_here bs room (Rated night) [] Open r (omega arith) tt
sound (suc steps) night bs last room r =
    pieces_case steps night bs last room (Sound bs room)
    (λ t. sound_ends_here bs room (Rated night) [] Open r (omega arith) tt)
    (λ t entry n. further_sound t entry n
    (sound steps (with_line night entry.breath) (drop entry.used bs) last (room - length (breath_line night.rate.ticks night.breath entry.breath)) (follows_real night r bs entry n)))
    (λ t n. sound_ends_here bs room (Rated night) (all_line night.sums) Closed r (omega (arith, sure_room bs last room t, last_length night.sums r.proper)) tt)
    (λ t s n. sound_ends_here bs room (Rated night) [] _ r (omega arith) (follows_stop night.breath bs n))
  where
    further_sound : is_sure bs last room ≡ true → (entry : Entry) → next_of night.breath bs ≡ done (a_breath entry)
        → Sound (drop entry.used bs) (room - length (breath_line night.rate.ticks night.breath entry.breath))
        (piece_from steps (with_line night entry.breath) (drop entry.used bs) last (room - length (breath_line night.rate.ticks night.breath entry.breath)))
        → Sound bs room (further steps night bs last room entry)
    further_sound t entry n ih =
        let line : List ℕ = breath_line night.rate.ticks night.breath entry.breath in
        let few : length line ≤ room = omega (arith, sure_room bs last room t, line_length night r entry.breath) in
        sound_line_then bs room line entry.used _ (follows_breath night.breath bs entry n).1.within few ih

sound_first : (bs : List ℕ) (last : Bool) (room : ℕ) → Sound bs room (piece_of Begun bs last room)
sound_first bs last room =
    first_case bs last room (Sound bs room)
    (λ t. sound_ends_here bs room Begun [] Open tt (omega arith) tt)
    (λ t o e. rate_sound o e)
    (λ t e. sound_ends_here bs room Begun (all_line no_sums) Closed tt (omega (arith, sure_room bs last room t, last_length no_sums (omega arith))) tt)
    (λ t s e. sound_ends_here bs room Begun [] _ tt (omega arith) (first_stopped bs e))
  where
    rate_sound : (o : Opening) → first_of bs ≡ done (a_rate o) → Sound bs room (after_rate bs last room o)
    rate_sound o e =
        let s : Sound (drop o.used bs) (room - 0) (piece_from 65537 (rated o.rate) (drop o.used bs) last room) =
        subst (λ (n : ℕ). Sound (drop o.used bs) n (piece_from 65537 (rated o.rate) (drop o.used bs) last room)) (sym (sub-zero room))
        (sound 65537 (rated o.rate) (drop o.used bs) last room (opened_real o.rate))
        in
        sound_line_then bs room [] o.used _ (first_rated bs o e).0.within (omega arith) s

pub piece_sound : (night : Night) (bs : List ℕ) (last : Bool) (room : ℕ) → is_night night ≡ true → Sound bs room (piece_of night bs last room)
unfolding is_night
piece_sound Begun bs last room e = sound_first bs last room
piece_sound (Rated night) bs last room e =
    subst (Sound bs room) (sym (rated_is night bs last room e)) (sound (65538 - night.breath) night bs last room (night_real night e))

-- ---- that its rate is one

-- The rate of a night, where it is read, is one from 1 to 4096.
abbrev pub RateIn : Night → Type 0
RateIn Begun = Unit {0}
RateIn (Rated night) = is_rate night.rate.ticks ≡ true

rate_ends_here : (night : Night) (text : List ℕ) (end : End) → RateIn night → RateIn (ends_here night text end).night
unfolding ends_here
rate_ends_here night text end g = g

rate_line_then : (line : List ℕ) (used : ℕ) (l : ListedPiece) → RateIn l.night → RateIn (line_then line used l).night
unfolding line_then
rate_line_then line used l g = g

rate_with_line : (night : RatedNight) (b : Breath) → RateIn (Rated night) → RateIn (Rated (with_line night b))
unfolding with_line
rate_with_line night b g = g

rate_opened : (rate : Rate) → is_rate rate.ticks ≡ true → RateIn (Rated (rated rate))
unfolding rated
rate_opened rate g = g

rate_from : (steps : ℕ) (night : RatedNight) (bs : List ℕ) (last : Bool) (room : ℕ) → RateIn (Rated night) → RateIn (piece_from steps night bs last room).night
unfolding piece_from
rate_from zero night bs last room g = rate_ends_here (Rated night) [] Open g
rate_from (suc steps) night bs last room g =
    pieces_case steps night bs last room (λ (l : ListedPiece). RateIn l.night)
    (λ t. rate_ends_here (Rated night) [] Open g)
    (λ t entry n. further_rate entry
    (rate_from steps (with_line night entry.breath) (drop entry.used bs) last (room - length (breath_line night.rate.ticks night.breath entry.breath)) (rate_with_line night entry.breath g)))
    (λ t n. rate_ends_here (Rated night) (all_line night.sums) Closed g)
    (λ t s n. rate_ends_here (Rated night) [] _ g)
  where
    further_rate : (entry : Entry)
        → RateIn (piece_from steps (with_line night entry.breath) (drop entry.used bs) last (room - length (breath_line night.rate.ticks night.breath entry.breath))).night
        → RateIn (further steps night bs last room entry).night
    further_rate entry ih = rate_line_then _ entry.used _ ih

rate_first : (bs : List ℕ) (last : Bool) (room : ℕ) → RateIn (piece_of Begun bs last room).night
rate_first bs last room =
    first_case bs last room (λ (l : ListedPiece). RateIn l.night)
    (λ t. rate_ends_here Begun [] Open tt)
    (λ t o e. after_rate_lem o e)
    (λ t e. rate_ends_here Begun (all_line no_sums) Closed tt)
    (λ t s e. rate_ends_here Begun [] _ tt)
  where
    after_rate_lem : (o : Opening) → first_of bs ≡ done (a_rate o) → RateIn (after_rate bs last room o).night
    after_rate_lem o e =
        rate_line_then [] o.used _ (rate_from 65537 (rated o.rate) (drop o.used bs) last room (rate_opened o.rate (first_rated bs o e).1))

pub piece_rate : (night : Night) (bs : List ℕ) (last : Bool) (room : ℕ) → is_night night ≡ true → RateIn night → RateIn (piece_of night bs last room).night
unfolding is_night
piece_rate Begun bs last room e g = rate_first bs last room
piece_rate (Rated night) bs last room e g =
    subst (λ (l : ListedPiece). RateIn l.night) (sym (rated_is night bs last room e)) (rate_from (65538 - night.breath) night bs last room g)

-- ---- that a piece goes on

-- no line number falls
abbrev Later : Night → ListedPiece → Type 0
Later night l = next_line night ≤ next_line l.night

later_ends_here : (night : Night) (text : List ℕ) (end : End) → Later night (ends_here night text end)
unfolding ends_here
later_ends_here night text end = omega arith

later_line_then : (night : Night) (line : List ℕ) (used : ℕ) (l : ListedPiece) → Later night l → Later night (line_then line used l)
unfolding line_then
later_line_then night line used l h = h

later : (steps : ℕ) (night : RatedNight) (bs : List ℕ) (last : Bool) (room : ℕ) → Later (Rated night) (piece_from steps night bs last room)
unfolding piece_from
later zero night bs last room = later_ends_here (Rated night) [] Open
later (suc steps) night bs last room =
    pieces_case steps night bs last room (Later (Rated night))
    (λ t. later_ends_here (Rated night) [] Open)
    (λ t entry n. further_later entry
    (later steps (with_line night entry.breath) (drop entry.used bs) last (room - length (breath_line night.rate.ticks night.breath entry.breath))))
    (λ t n. later_ends_here (Rated night) (all_line night.sums) Closed)
    (λ t s n. later_ends_here (Rated night) [] _)
  where
    further_later : (entry : Entry)
        → Later (Rated (with_line night entry.breath)) (piece_from steps (with_line night entry.breath) (drop entry.used bs) last (room - length (breath_line night.rate.ticks night.breath entry.breath)))
        → Later (Rated night) (further steps night bs last room entry)
    further_later entry ih = later_line_then (Rated night) _ entry.used _ (omega (arith, ih, breath_suc night entry.breath))

-- An open piece with room for a line took a line, the rate line or a breath's, and used bytes; or it used none, and waits for bytes.
abbrev pub GoesOn : (line : ℕ) (bs : List ℕ) (last : Bool) (used line' : ℕ) → Type 0
GoesOn line bs last used line' = ((line < line') × (1 ≤ used)) ⊎ ((used ≡ 0) × Waits bs last)

abbrev IfOpen : (night : Night) (bs : List ℕ) (last : Bool) → ListedPiece → Type 0
IfOpen night bs last l = l.end ≡ Open → GoesOn (next_line night) bs last l.used (next_line l.night)

-- an end that isn't open
abbrev NotOpen : End → Type 0
NotOpen Open = ⊥
NotOpen Closed = Unit {0}
NotOpen (Refused s) = Unit {0}
NotOpen NoNight = Unit {0}

module _ (night : Night) (bs : List ℕ) (last : Bool) where
  waits : Waits bs last → IfOpen night bs last (ends_here night [] Open)
  unfolding ends_here
  waits w o = inr (refl, w)

  ends : (text : List ℕ) (end : End) → NotOpen end → IfOpen night bs last (ends_here night text end)
  unfolding ends_here
  ends text end f o = absurd (subst NotOpen o f)

  more_line_then : (line : List ℕ) (used : ℕ) (l : ListedPiece) → 1 ≤ used → next_line night < next_line l.night → IfOpen night bs last (line_then line used l)
  unfolding line_then
  more_line_then line used l some h o = inl (h, omega arith)

goes_on_lem : (steps : ℕ) (night : RatedNight) (bs : List ℕ) (last : Bool) (room : ℕ) → 33 ≤ room → IfOpen (Rated night) bs last (piece_from (suc steps) night bs last room)
goes_on_lem steps night bs last room h =
    pieces_case steps night bs last room (IfOpen (Rated night) bs last)
    (λ t. waits (Rated night) bs last (unsure bs last room h t))
    (λ t entry n. further_on entry n)
    (λ t n. ends (Rated night) bs last (all_line night.sums) Closed tt)
    (λ t s n. ends (Rated night) bs last [] _ tt)
  where
    further_on : (entry : Entry) → next_of night.breath bs ≡ done (a_breath entry) → IfOpen (Rated night) bs last (further steps night bs last room entry)
    further_on entry n =
        let b : Breath = entry.breath in
        let grows = later steps (with_line night b) (drop entry.used bs) last (room - length (breath_line night.rate.ticks night.breath b)) in
        more_line_then (Rated night) bs last _ entry.used _ (omega (arith, (follows_breath night.breath bs entry n).1.ended)) (omega (arith, grows, breath_suc night b))

pub piece_on : (night : Night) (bs : List ℕ) (last : Bool) (room : ℕ) → is_night night ≡ true → 33 ≤ room → IfOpen night bs last (piece_of night bs last room)
unfolding is_night
piece_on Begun bs last room e h =
    first_case bs last room (IfOpen Begun bs last)
    (λ t. waits Begun bs last (unsure bs last room h t))
    (λ t o n. more_line_then Begun bs last [] o.used _ (omega (arith, (first_rated bs o n).0.ended))
    (omega (arith, opened_breath o.rate, later 65537 (rated o.rate) (drop o.used bs) last room)))
    (λ t n. ends Begun bs last (all_line no_sums) Closed tt)
    (λ t s n. ends Begun bs last [] _ tt)
piece_on (Rated night) bs last room e h =
    let r : Real night = night_real night e in
    let step : 65538 - night.breath ≡ suc (65537 - night.breath) = omega (arith, r.few) in
    subst (IfOpen (Rated night) bs last)
    (sym (rated_is night bs last room e ∙ ap (λ (n : ℕ). piece_from n night bs last room) step))
    (goes_on_lem (65537 - night.breath) night bs last room h)
