-- The loop that stores a piece, and what the functions answer. Assumes nothing.
-- `piecing_open`, `piecing_closed`, `piecing_stopped`: what each way out of the loop answers and leaves in the lent list. `piece_untouched`: a
-- piece that is refused leaves it as it was. `piece_answer`: what a caller needs that goes on behind a piece.
use mathlib.Core.Path.{◌≡◌, refl, sym, ap, ◌∙◌, subst}
use mathlib.Core.Bool.{Bool, true, false}
use mathlib.Core.List.{List, [], ◌++◌, append_assoc}
use Prim.Native.Nat.{ℕ, zero, suc, ◌+◌, ◌-◌, ◌≤◌}
use native.Mathlib.Omega.{arith}
use native.Mathlib.Nat.{add-zero, zero-add, suc-add, add_assoc, sub-zero}
use lib.ListN.{length, take, drop, length-drop}
use lib.Seq.{drop-drop}
use Rattle.std.specs.Prelude.{Err}
use Rattle.slash.specs.Answers.{Outcome, Stops, done}
use Rattle.slash.specs.declared.answer.Stop.{Stop}
use Rattle.breaths.specs.Breaths.{breath_ratio}
use Rattle.breaths.specs.Sums.{no_sums, none_left, night_ratio}
use Rattle.breaths.specs.declared.breath.Breath.{Breath}
use Rattle.breaths.specs.declared.ratio.Ratio.{Ratio}
use Rattle.breaths.specs.declared.ratio.Ratio.TheVariants.{Void}
use Rattle.breaths.proofs.RatioLaws.{breath_proportion, night_proportion}
use Rattle.text.specs.Lines.{line_of, is_name, is_printable, line_in}
use Rattle.text.specs.Stores.{Stored, at_start}
use Rattle.text.specs.declared.line.Name.{Name}
use Rattle.text.specs.declared.line.Name.TheVariants.{Number, All}
use Rattle.text.proofs.NumberLaws.{put_front, store_none, stored_length, stored_as, chain}
use Rattle.text.proofs.LineLaws.{number_name, printable_is, line_is, text_within}
use Rattle.recording.specs.Openings.{a_rate, no_line, first_of}
use Rattle.recording.specs.Reading.{Coming, a_breath, the_end, next_of}
use Rattle.recording.specs.declared.line.Entry.{Entry}
use Rattle.recording.specs.declared.opening.Opening.{Opening}
use Rattle.recording.proofs.LineLaws.{Whole}
use Rattle.text.proofs.PartLaws.{tail_is}
use Rattle.recording.proofs.ReadingLaws.{follows_breath, opening_within}
use Rattle.listing.specs.Listing.{breath_line, all_line}
use Rattle.listing.specs.Nights.{rated, with_line, is_rated, is_night}
use Rattle.listing.specs.Pieces.{end_outcome, ListedPiece, left_to_next, ends_here, line_then, is_sure, piece_from, piece_of, answer_of, MakesListing, BestPiece}
use Rattle.listing.specs.Steps.{next_line, behind_rate}
use Rattle.listing.specs.declared.night.Night.{Night}
use Rattle.listing.specs.declared.night.Night.TheVariants.{Begun, Rated}
use Rattle.listing.specs.declared.night.RatedNight.{RatedNight}
use Rattle.listing.specs.declared.piece.End.{End}
use Rattle.listing.specs.declared.piece.End.TheVariants.{Open, Closed, Refused, NoNight}
use Rattle.listing.specs.declared.piece.Piece.{Piece}
use Rattle.listing.proofs.NightLaws.{Real, night_real, real_night, real_is, opened_real, breath_suc}
use Rattle.listing.proofs.ListingLaws.{breath_line_lem, all_line_lem, follows_real, opened_breath, line_length, last_length}
use Rattle.listing.proofs.BestLaws.{best_piece}
use Rattle.listing.proofs.PieceLaws.{sure_room, pieces_open, pieces_more, pieces_end, pieces_stop, rated_is, none_is, first_open, first_rate, first_end, first_stop, makes_listing, piece_refusing, StopIn, Sound, piece_sound, GoesOn, piece_on}

-- ---- the loop: the text stored so far, and what is listed behind it

pub record Piecing (bs : List ℕ) (last : Bool) (o : List ℕ) (night : RatedNight) (o' : List ℕ) (at from : ℕ) (next : RatedNight) : Type 0 where
  pub real : Real next
  pub within : from ≤ length bs
  pub fits : at ≤ length o
  pub text : List ℕ
  pub stored : Stored o 0 text o' at
  pub total : piece_of (Rated night) bs last (length o) ≡ line_then text from (piece_from (65538 - next.breath) next (drop from bs) last (length o - at))

line_then_none : (l : ListedPiece) → l ≡ line_then [] 0 l
unfolding line_then left_to_next
line_then_none l = ap (λ (n : ℕ). record { text = l.text; used = n; night = l.night; end = l.end }) (sym (zero-add l.used))

pub piecing_start : (bs : List ℕ) (last : Bool) (o : List ℕ) (night : RatedNight) → is_rated night ≡ true → Piecing bs last o night o 0 0 night
piecing_start bs last o night e =
    record {
      real = night_real night e;
      within = omega arith;
      fits = omega arith;
      text = [];
      stored = store_none o 0;
      total =
          rated_is night bs last (length o) e
          ∙ ap (λ (room : ℕ). piece_from (65538 - night.breath) night bs last room) (sym (sub-zero (length o)))
          ∙ line_then_none (piece_from (65538 - night.breath) night bs last (length o - 0));
    }

left_twice : (m n : ℕ) (end : End) → left_to_next m (left_to_next n end) ≡ left_to_next (m + n) end
unfolding left_to_next
left_twice zero n end = ap (λ (k : ℕ). left_to_next k end) (sym (zero-add n))
left_twice (suc m) n end = held_more n end ∙ ap (λ (k : ℕ). left_to_next k end) (sym (suc-add m n))
  where
    held_more : (n : ℕ) (end : End) → left_to_next (suc m) (left_to_next n end) ≡ left_to_next (suc (m + n)) end
    held_more zero Open = refl
    held_more zero Closed = refl
    held_more zero (Refused stop) = refl
    held_more zero NoNight = refl
    held_more (suc n) Open = refl
    held_more (suc n) Closed = refl
    held_more (suc n) (Refused stop) = refl
    held_more (suc n) NoNight = refl

line_then_line_then : (t u : List ℕ) (m n : ℕ) (l : ListedPiece) → line_then t m (line_then u n l) ≡ line_then (t ++ u) (m + n) l
unfolding line_then
line_then_line_then t u m n l =
    ap (λ (x : List ℕ). record { text = x; used = m + (n + l.used); night = l.night; end = left_to_next m (left_to_next n l.end) }) (sym (append_assoc t u l.text))
    ∙ ap (λ (x : ℕ). record { text = (t ++ u) ++ l.text; used = x; night = l.night; end = left_to_next m (left_to_next n l.end) }) (sym (add_assoc m n l.used))
    ∙ ap (λ (x : End). record { text = (t ++ u) ++ l.text; used = m + n + l.used; night = l.night; end = x }) (left_twice m n l.end)

-- What the function answers, and what it leaves in the lent list, for a piece.
abbrev pub Answers : ListedPiece → (o o' : List ℕ) → Piece → Type 0
Answers l o o' p = (p ≡ answer_of l) × (o' ≡ at_start l.text o)

-- one line, and the end
answers_closed : (night : Night) (t : List ℕ) {o o' : List ℕ} {k : ℕ} → Stored o 0 t o' k → k ≤ length o
    → Answers (ends_here night t Closed) o o' (record { used = 0; length = k; night = night; end = Closed })
unfolding ends_here answer_of
answers_closed night t {o} {o'} {k} s h =
    let long : k ≡ length t = omega (arith, s.next) in
    (ap (λ (n : ℕ). record { used = 0; length = n; night = night; end = Closed }) long, s.bytes ∙ put_front o t (omega arith))

-- a piece of what stands behind a rate line, as one of both
answers_behind : (used : ℕ) (l : ListedPiece) (o o' : List ℕ) (p : Piece) → Answers l o o' p → (q : Piece) → q ≡ behind_rate used p → Answers (line_then [] used l) o o' q
unfolding line_then answer_of behind_rate
answers_behind used l o o' p a q e = (e ∙ ap (behind_rate used) a.0, a.1)

-- the text so far and an end
answers : {o o'' : List ℕ} {k : ℕ} (text t : List ℕ) (from : ℕ) (night : Night) (end end' : End) → end' ≡ left_to_next from end → Stored o 0 (text ++ t) o'' k → k ≤ length o
    → Answers (line_then text from (ends_here night t end)) o o'' (record { used = from; length = k; night = night; end = end' })
unfolding line_then ends_here answer_of
answers {o} {o''} {k} text t from night end end' he s h =
    let long : k ≡ length (text ++ t) = omega (arith, s.next) in (
      ap (λ (n : ℕ). record { used = n; length = k; night = night; end = end' }) (sym (add-zero from))
          ∙ ap (λ (n : ℕ). record { used = from + 0; length = n; night = night; end = end' }) long
          ∙ ap (λ (x : End). record { used = from + 0; length = length (text ++ t); night = night; end = x }) he,
      s.bytes ∙ put_front o (text ++ t) (omega arith),
    )

left_open : (used : ℕ) → Open ≡ left_to_next used Open
unfolding left_to_next
left_open zero = refl
left_open (suc n) = refl

all_name : is_name All ≡ true
unfolding is_name
all_name = refl

-- the ratio of a night with nothing in it
void_shown : is_printable Void ≡ true
unfolding is_printable
void_shown = refl

void_line : line_of All Void ≡ all_line no_sums
unfolding none_left night_ratio
void_line = all_line_lem no_sums

left_closed : (used : ℕ) → Closed ≡ left_to_next used Closed
unfolding left_to_next
left_closed zero = refl
left_closed (suc n) = refl

module _ {bs : List ℕ} {last : Bool} {o : List ℕ} {night : RatedNight} {o' : List ℕ} {at from : ℕ} {next : RatedNight} (i : Piecing bs last o night o' at from next) where
  pub piecing_long : length o' ≡ length o
  piecing_long = stored_length i.stored

  -- the loop's test
  test_is : is_sure (drop from bs) last (length o - at) ≡ is_sure (take (length bs - from) (drop from bs)) last (length o' - at)
  test_is =
      ap (λ (u : List ℕ). is_sure u last (length o - at)) (sym (tail_is from bs))
      ∙ ap (λ (n : ℕ). is_sure (take (length bs - from) (drop from bs)) last (n - at)) (sym piecing_long)

  -- a step is left
  step_is : 65538 - next.breath ≡ suc (65537 - next.breath)
  step_is = omega (arith, i.real.few)

  here : (l : ListedPiece) → piece_from (suc (65537 - next.breath)) next (drop from bs) last (length o - at) ≡ l
      → piece_of (Rated night) bs last (length o) ≡ line_then i.text from l
  here l e =
      i.total
      ∙ ap (λ (steps : ℕ). line_then i.text from (piece_from steps next (drop from bs) last (length o - at))) step_is
      ∙ ap (line_then i.text from) e

  answered : {o'' : List ℕ} {k : ℕ} (t : List ℕ) (end end' : End) → end' ≡ left_to_next from end
      → piece_from (suc (65537 - next.breath)) next (drop from bs) last (length o - at) ≡ ends_here (Rated next) t end
      → Stored o 0 (i.text ++ t) o'' k → k ≤ length o
      → Answers (piece_of (Rated night) bs last (length o)) o o'' (record { used = from; length = k; night = Rated next; end = end' })
  answered {o''} {k} t end end' he e s h =
      subst (λ (l : ListedPiece). Answers l o o'' (record { used = from; length = k; night = Rated next; end = end' })) (sym (here (ends_here (Rated next) t end) e))
      (answers i.text t from (Rated next) end end' he s h)

  pub piecing_open : is_sure (take (length bs - from) (drop from bs)) last (length o' - at) ≡ false
      → Answers (piece_of (Rated night) bs last (length o)) o o' (record { used = from; length = at; night = Rated next; end = Open })
  piecing_open f =
      answered [] Open Open (left_open from) (pieces_open (65537 - next.breath) next (drop from bs) last (length o - at) (test_is ∙ f)) (chain i.stored (store_none o' at)) i.fits

  module _ (t : is_sure (take (length bs - from) (drop from bs)) last (length o' - at) ≡ true) where
    sure : is_sure (drop from bs) last (length o - at) ≡ true
    sure = test_is ∙ t

    room : 33 ≤ length o' - at
    room = omega (arith, sure_room (drop from bs) last (length o - at) sure, piecing_long)

    -- a line that a listing has
    line_here : (name : Name) (r : Ratio) → is_name name ≡ true → is_printable r ≡ true → {o'' : List ℕ} {k : ℕ}
        → Stored o' at (line_in (length o' - at) name r) o'' k → Stored o' at (line_of name r) o'' k
    line_here name r n s w = stored_as (sym (line_is o' at name r room n s)) w

    module _ {x : Outcome Coming} (xe : x ≡ next_of next.breath (take (length bs - from) (drop from bs))) where
      next_here : next_of next.breath (drop from bs) ≡ x
      next_here = sym (xe ∙ ap (next_of next.breath) (tail_is from bs))

      pub piecing_closed : x ≡ done the_end → (r : Ratio) → r ≡ night_ratio next.sums → {o'' : List ℕ} {k : ℕ}
          → Stored o' at (line_in (length o' - at) All r) o'' k
          → Answers (piece_of (Rated night) bs last (length o)) o o'' (record { used = from; length = k; night = Rated next; end = Closed })
      piecing_closed d r e {o''} {k} w =
          let shown : is_printable r ≡ true = ap is_printable e ∙ printable_is _ (night_proportion next.sums i.real.proper) in
          let s : Stored o' at (all_line next.sums) o'' k = stored_as (ap (line_of All) e ∙ all_line_lem next.sums) (line_here All r all_name shown w) in
          answered (all_line next.sums) Closed Closed (left_closed from)
          (pieces_end (65537 - next.breath) next (drop from bs) last (length o - at) sure (next_here ∙ d))
          (chain i.stored s)
          (omega (arith, s.next, last_length next.sums i.real.proper, room, piecing_long))

      pub piecing_stopped : (s : Stop) → x ≡ Err s → (end : End) → end ≡ left_to_next from (Refused s)
          → Answers (piece_of (Rated night) bs last (length o)) o o' (record { used = from; length = at; night = Rated next; end = end })
      piecing_stopped s d end e =
          answered [] (Refused s) end e
          (pieces_stop (65537 - next.breath) next (drop from bs) last (length o - at) sure (next_here ∙ d))
          (chain i.stored (store_none o' at))
          i.fits

      module _ (entry : Entry) (d : x ≡ done (a_breath entry)) where
        follows : (next.breath ≤ 65536) × Whole (drop from bs) entry.used
        follows = follows_breath next.breath (drop from bs) entry (next_here ∙ d)

        pub piecing_used : (1 ≤ entry.used) × (from + entry.used ≤ length bs)
        piecing_used = (omega (arith, follows.1.ended), omega (arith, follows.1.within, length-drop from bs))

        line_stored : {o'' : List ℕ} {k : ℕ} → Stored o' at (breath_line next.rate.ticks next.breath entry.breath) o'' k
            → Piecing bs last o night o'' k (from + entry.used) (with_line next entry.breath)
        line_stored {o''} {k} s =
            let b : Breath = entry.breath in
            let line : List ℕ = breath_line next.rate.ticks next.breath b in
            let behind : RatedNight = with_line next b in
            let steps : 65537 - next.breath ≡ 65538 - behind.breath = omega (arith, breath_suc next b) in
            let left : length o - at - length line ≡ length o - k = omega (arith, s.next) in
            let l : ℕ → List ℕ → ℕ → ListedPiece = λ n rest m. piece_from n behind rest last m in
            record {
              real = follows_real next i.real (drop from bs) entry (next_here ∙ d);
              within = piecing_used.1;
              fits = omega (arith, s.next, room, piecing_long, line_length next i.real b);
              text = i.text ++ line;
              stored = chain i.stored s;
              total =
                  here _ (pieces_more (65537 - next.breath) next (drop from bs) last (length o - at) sure entry (next_here ∙ d))
                  ∙ line_then_line_then i.text line from entry.used (l (65537 - next.breath) (drop entry.used (drop from bs)) (length o - at - length line))
                  ∙ ap (λ (n : ℕ). line_then (i.text ++ line) (from + entry.used) (l n (drop entry.used (drop from bs)) (length o - at - length line))) steps
                  ∙ ap (λ (u : List ℕ). line_then (i.text ++ line) (from + entry.used) (l (65538 - behind.breath) u (length o - at - length line))) (drop-drop entry.used from bs)
                  ∙ ap (λ (m : ℕ). line_then (i.text ++ line) (from + entry.used) (l (65538 - behind.breath) (drop (from + entry.used) bs) m)) left;
            }

        pub piecing_again : (r : Ratio) → r ≡ breath_ratio next.rate.ticks entry.breath → {o'' : List ℕ} {k : ℕ} (behind : RatedNight) → behind ≡ with_line next entry.breath
            → Stored o' at (line_in (length o' - at) (Number next.breath) r) o'' k
            → Piecing bs last o night o'' k (from + entry.used) behind
        piecing_again r e {o''} {k} behind f w =
            let shown : is_printable r ≡ true = ap is_printable e ∙ printable_is _ (breath_proportion next.rate.ticks entry.breath) in
            let number : is_name (Number next.breath) ≡ true =
            number_name next.breath i.real.some follows.0
            in
            subst (λ (n : RatedNight). Piecing bs last o night o'' k (from + entry.used) n) (sym f)
            (line_stored (stored_as (ap (line_of (Number next.breath)) e ∙ breath_line_lem next.rate.ticks next.breath entry.breath) (line_here (Number next.breath) r number shown w)))

-- ---- the functions' answers

-- nothing listed, and an end
answers_none : (l : ListedPiece) (night : Night) (end : End) (o : List ℕ) → l ≡ ends_here night [] end → Answers l o o (record { used = 0; length = 0; night = night; end = end })
unfolding ends_here answer_of
answers_none l night end o e = rw (e) (refl, refl)

pub piece_none : (night : RatedNight) (bs : List ℕ) (last : Bool) (o : List ℕ) → is_rated night ≡ false
    → Answers (piece_of (Rated night) bs last (length o)) o o (record { used = 0; length = 0; night = Rated night; end = NoNight })
piece_none night bs last o e = answers_none _ (Rated night) NoNight o (none_is night bs last (length o) e)

pub piece_untouched : (night : Night) (bs : List ℕ) (last : Bool) (o o' : List ℕ) (p : Piece) → Answers (piece_of night bs last (length o)) o o' p
    → Stops (end_outcome p.end) → o' ≡ o
unfolding answer_of
piece_untouched night bs last o o' p a h =
    a.1 ∙ ap (λ (t : List ℕ). at_start t o) (piece_refusing night bs last (length o) (subst (λ (q : Piece). Stops (end_outcome q.end)) a.0 h))

pub piece_ended : (l : ListedPiece) (p : Piece) → p ≡ answer_of l → end_outcome p.end ≡ end_outcome l.end
unfolding answer_of
piece_ended l p e = ap (λ (q : Piece). end_outcome q.end) e

-- the answers of `left_to_next`
module _ (used : ℕ) (end : End) where
  pub left_whole : end ≡ Closed → Closed ≡ left_to_next used end
  left_whole d = left_closed used ∙ ap (left_to_next used) (sym d)

  pub left_none : used ≡ 0 → end ≡ left_to_next used end
  unfolding left_to_next
  left_none e = ap (λ (n : ℕ). left_to_next n end) (sym e)

  pub left_behind : (used ≡ 0 → ⊥) → (end ≡ Closed → ⊥) → Open ≡ left_to_next used end
  unfolding left_to_next
  left_behind some other = go used end some other
    where
      go : (n : ℕ) (e : End) → (n ≡ 0 → ⊥) → (e ≡ Closed → ⊥) → Open ≡ left_to_next n e
      go zero e h k = absurd (h refl)
      go (suc n) Open h k = refl
      go (suc n) Closed h k = absurd (k refl)
      go (suc n) (Refused s) h k = refl
      go (suc n) NoNight h k = refl

pub behind_rate_lem : (used : ℕ) (p : Piece) (end : End) → end ≡ left_to_next used p.end
    → record { used = used + p.used; length = p.length; night = p.night; end = end } ≡ behind_rate used p
unfolding behind_rate
behind_rate_lem used p end e = ap (λ (x : End). record { used = used + p.used; length = p.length; night = p.night; end = x }) e

-- What `list_piece` promises, where its night is known.
pub piece_promised : (night known : Night) → night ≡ known → (bs : List ℕ) (last : Bool) (o o' : List ℕ) (p : Piece) → Answers (piece_of known bs last (length o)) o o' p
    → (p ≡ answer_of (piece_of night bs last (length o)))
    × ((o' ≡ at_start (piece_of night bs last (length o)).text o)
    × ((Stops (end_outcome p.end) → o' ≡ o)
    × (MakesListing night bs last (length o)
    × (BestPiece night bs (piece_of night bs last (length o)) × (end_outcome p.end ≡ end_outcome (piece_of night bs last (length o)).end)))))
piece_promised night known e bs last o o' p b =
    let a : Answers (piece_of night bs last (length o)) o o' p = subst (λ (n : Night). Answers (piece_of n bs last (length o)) o o' p) (sym e) b in
    (a.0, (a.1, (piece_untouched night bs last o o' p a, (makes_listing night bs last (length o), (best_piece night bs last (length o), piece_ended _ p a.0)))))

-- What a caller needs that goes on behind a piece: where its bytes and its text end, that its night and its end are those of a recording, and that each
-- of its turns comes nearer to an end.
module _ (night : Night) (bs : List ℕ) (last : Bool) (o o' : List ℕ) (p : Piece) (e : is_night night ≡ true) (a : Answers (piece_of night bs last (length o)) o o' p) where
  pub piece_answer : (p.used ≤ length bs) × (p.length ≤ length o') × (is_night p.night ≡ true)
  unfolding answer_of
  piece_answer =
      let l : ListedPiece = piece_of night bs last (length o) in
      let s : Sound bs (length o) l = piece_sound night bs last (length o) e in
      let used : p.used ≡ l.used = ap (λ (q : Piece). q.used) a.0 in
      let behind : p.night ≡ l.night = ap (λ (q : Piece). q.night) a.0 in
      (omega (arith, s.used), text_within l.text o o' p.length (ap (λ (q : Piece). q.length) a.0) a.1, ap is_night behind ∙ real_is l.night s.real)

  pub piece_stops : StopIn p.night (end_outcome p.end)
  unfolding answer_of
  piece_stops = subst (λ (q : Piece). StopIn q.night (end_outcome q.end)) (sym a.0) (piece_sound night bs last (length o) e).stops

  pub piece_goes_on : 33 ≤ length o → p.end ≡ Open → GoesOn (next_line night) bs last p.used (next_line p.night)
  unfolding answer_of
  piece_goes_on h opened =
      subst (λ (q : Piece). GoesOn (next_line night) bs last q.used (next_line q.night)) (sym a.0)
      (piece_on night bs last (length o) e h (sym (ap (λ (q : Piece). q.end) a.0) ∙ opened))

-- the piece behind a rate line uses no more bytes than there are
pub first_room : (bs : List ℕ) (opening : Opening) → first_of bs ≡ done (a_rate opening) → (last : Bool) (o o' : List ℕ) (p : Piece)
    → (night : RatedNight) → night ≡ rated opening.rate
    → Answers (piece_of (Rated night) (take (length bs - opening.used) (drop opening.used bs)) last (length o)) o o' p → opening.used + p.used ≤ length bs
unfolding is_night
first_room bs opening d last o o' p night ne a =
    let rest : List ℕ = take (length bs - opening.used) (drop opening.used bs) in
    let e : is_night (Rated night) ≡ true = ap is_rated ne ∙ real_night _ (opened_real opening.rate) in
    let used = (piece_answer (Rated night) rest last o o' p e a).0 in
    omega (arith, used, opening_within bs d, ap length (tail_is opening.used bs), length-drop opening.used bs)

-- the answers of `put_first`
module _ (bs : List ℕ) (last : Bool) (o : List ℕ) where
  pub first_waits : is_sure bs last (length o) ≡ false → Answers (piece_of Begun bs last (length o)) o o (record { used = 0; length = 0; night = Begun; end = Open })
  first_waits e = answers_none _ Begun Open o (first_open bs last (length o) e)

  module _ (sure : is_sure bs last (length o) ≡ true) where
    pub first_refuses : (s : Stop) → first_of bs ≡ Err s → Answers (piece_of Begun bs last (length o)) o o (record { used = 0; length = 0; night = Begun; end = Refused s })
    first_refuses s d = answers_none _ Begun (Refused s) o (first_stop bs last (length o) sure d)

    pub first_closed : first_of bs ≡ done no_line → {o' : List ℕ} {k : ℕ} → Stored o 0 (line_in (length o - 0) All Void) o' k
        → Answers (piece_of Begun bs last (length o)) o o' (record { used = 0; length = k; night = Begun; end = Closed })
    first_closed d {o'} {k} w =
        let room : 33 ≤ length o - 0 = omega (arith, sure_room bs last (length o) sure) in
        let s : Stored o 0 (all_line no_sums) o' k = stored_as (sym (line_is o 0 All Void room all_name void_shown) ∙ void_line) w in
        subst (λ (l : ListedPiece). Answers l o o' (record { used = 0; length = k; night = Begun; end = Closed })) (sym (first_end bs last (length o) sure d))
        (answers_closed Begun (all_line no_sums) s (omega (arith, s.next, last_length no_sums (omega arith), room)))

    module _ (opening : Opening) (d : first_of bs ≡ done (a_rate opening)) where
      pub first_goes : {night : RatedNight} → night ≡ rated opening.rate → {o' : List ℕ} {p : Piece}
          → Answers (piece_of (Rated night) (take (length bs - opening.used) (drop opening.used bs)) last (length o)) o o' p → {q : Piece} → q ≡ behind_rate opening.used p
          → Answers (piece_of Begun bs last (length o)) o o' q
      first_goes {night} ne {o'} {p} a {q} e =
          let l : ListedPiece = piece_from 65537 (rated opening.rate) (drop opening.used bs) last (length o) in
          let these : piece_of (Rated night) (take (length bs - opening.used) (drop opening.used bs)) last (length o) ≡ l =
          ap (λ (n : RatedNight). piece_of (Rated n) (take (length bs - opening.used) (drop opening.used bs)) last (length o)) ne
          ∙ ap (λ (u : List ℕ). piece_of (Rated (rated opening.rate)) u last (length o)) (tail_is opening.used bs)
          ∙ rated_is (rated opening.rate) (drop opening.used bs) last (length o) (real_night _ (opened_real opening.rate))
          ∙ ap (λ (b : ℕ). piece_from (65538 - b) (rated opening.rate) (drop opening.used bs) last (length o)) (opened_breath opening.rate)
          in
          subst (λ (m : ListedPiece). Answers m o o' q) (sym (first_rate bs last (length o) sure opening d))
          (answers_behind opening.used l o o' p (subst (λ (m : ListedPiece). Answers m o o' p) these a) q e)
