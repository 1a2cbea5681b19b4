-- What a run has written: the listing of the bytes that were read, as far as it has come. Assumes nothing.
-- `begun`: nothing yet, and all is left. `with_piece`: a piece's text is written. `whole`, `refused`, `goes`: what that comes to, by the piece's
-- end. `moved`, `read_on`: the buffer's bytes moved to its front, or more of them read.
use mathlib.Core.Path.{◌≡◌, refl, sym, ap, ◌∙◌, subst}
use mathlib.Core.Bool.{Bool, true, false}
use mathlib.Core.List.{List, [], ◌∷◌, ◌++◌, append_assoc, append-nil}
use Prim.Native.Nat.{ℕ, zero, suc, ◌+◌, ◌-◌, ◌≤◌}
use native.Mathlib.Omega.{arith}
use lib.ListN.{length, take, drop, length-drop}
use Rattle.std.proofs.Math.Seq.{take-append_seam, drop-append_seam}
use Rattle.std.specs.Prelude.{Option, None, Some, IfSome, Result, Ok, Err, OnOk, is_ok, is_err}
use Rattle.text.specs.Stores.{at_start}
use Rattle.std.specs.Io.KnownBytes.{Appends, Consumes, IsAtEnd}
use Rattle.std.proofs.lemmas.List.{take-append-drop, drop-take, take-append-le, length-take-le}
use Rattle.std.proofs.lemmas.Bool.{eqb-true}
use lib.Dec.{eqb}
use borrow.Rule.Slice.PartMut.{put_mid, post_of}
use Rattle.text.specs.Lines.{refused_line}
use Rattle.listing.specs.Listing.{listing_on, listing_of}
use Rattle.listing.specs.Nights.{is_night}
use Rattle.breaths.specs.declared.breath.Breath.{Breath}
use Rattle.recording.specs.Openings.{first_of}
use Rattle.recording.specs.Reading.{next_of, lines_from, breaths_from, breaths_on, breaths_in}
use Rattle.text.specs.Lines.{numbered}
use Rattle.listing.specs.Listing.{ratios_of}
use Rattle.listing.specs.Nights.{next_breath, sums_so_far}
use Rattle.listing.specs.Pieces.{ListedPiece, MakesListing, BestPiece, piece_of, answer_of, rest_of, goes_on, end_outcome, rate_of, breaths_of, end_text}
use Rattle.listing.specs.declared.piece.Piece.{Piece}
use Rattle.listing.specs.declared.piece.End.{End}
use Rattle.listing.specs.declared.piece.End.TheVariants.{Open, Closed, Refused}
use Rattle.slash.specs.declared.answer.Stop.{Stop}
use Rattle.stream.specs.Runs.{Adds}
use Rattle.stream.specs.declared.run.Cut.{Cut}
use mathlib.Core.Logic.{◌⊎◌, inl, inr}
use Rattle.listing.specs.declared.night.Night.{Night}
use Rattle.listing.specs.declared.night.Night.TheVariants.{Begun, Rated}
use Rattle.slash.specs.Answers.{Outcome, stop, done}

-- one text behind another
pub appends_nothing : (o : Option (List ℕ)) → Appends o o []
appends_nothing None = tt
appends_nothing (Some xs) = sym (append-nil xs)

pub appends_both : (o p q : Option (List ℕ)) (s t : List ℕ) → Appends o p s → Appends p q t → Appends o q (s ++ t)
appends_both None p q s t a b = tt
appends_both (Some xs) None q s t a b = absurd a
appends_both (Some xs) (Some ys) None s t a b = absurd b
appends_both (Some xs) (Some ys) (Some zs) s t a b = b ∙ ap (λ (l : List ℕ). l ++ t) a ∙ append_assoc xs s t

-- Of the bytes `all`, so many are left to read, and the listing is what was written and what the night goes on with.
pub record Progress (all : List ℕ) (old : Option (List ℕ)) (left new : Option (List ℕ)) (night : Night) (pending : List ℕ) (last : Bool) : Type 0 where
  pub rest : List ℕ
  pub is_left : left ≡ Some rest
  pub ended : last ≡ true → rest ≡ []
  pub text : List ℕ
  pub wrote : Appends old new text
  pub listing : listing_of all ≡ text ++ listing_on night (pending ++ rest)

pub begun : (all : List ℕ) (left old : Option (List ℕ)) → left ≡ Some all → Progress all old left old Begun [] false
unfolding listing_of
begun all left old e = record { rest = all; is_left = e; ended = λ h. absurd (cc); text = []; wrote = appends_nothing old; listing = refl }

-- The same with a piece's text written.
pub record Pieced (all : List ℕ) (old : Option (List ℕ)) (left new : Option (List ℕ)) (l : ListedPiece) (pending : List ℕ) (last : Bool) : Type 0 where
  pub rest : List ℕ
  pub is_left : left ≡ Some rest
  pub ended : last ≡ true → rest ≡ []
  pub text : List ℕ
  pub wrote : Appends old new text
  pub listing : listing_of all ≡ text ++ rest_of l pending rest

module _ {all : List ℕ} {old left new : Option (List ℕ)} {night : Night} {pending : List ℕ} {last : Bool} (p : Progress all old left new night pending last) where
  pub with_piece : (room : ℕ) (new' : Option (List ℕ)) → is_night night ≡ true → MakesListing night pending last room
      → Appends new new' (piece_of night pending last room).text → Pieced all old left new' (piece_of night pending last room) pending last
  unfolding MakesListing
  with_piece room new' real makes a = record {
    rest = p.rest;
    is_left = p.is_left;
    ended = p.ended;
    text = p.text ++ (piece_of night pending last room).text;
    wrote = appends_both old new new' p.text _ p.wrote a;
    listing = p.listing ∙ ap (λ (t : List ℕ). p.text ++ t) (makes p.rest real p.ended) ∙ sym (append_assoc p.text (piece_of night pending last room).text (rest_of (piece_of night pending last room) pending p.rest));
  }

module _ {all : List ℕ} {old left new : Option (List ℕ)} {l : ListedPiece} {pending : List ℕ} {last : Bool} (p : Pieced all old left new l pending last) where
  pub whole : end_outcome l.end ≡ done true → Appends old new (listing_of all)
  unfolding rest_of goes_on
  whole e =
      let g : listing_of all ≡ p.text ++ [] = p.listing ∙ ap (λ (o : Outcome Bool). p.text ++ goes_on o l.night (drop l.used pending ++ p.rest)) e in
      subst (λ (t : List ℕ). Appends old new t) (sym (g ∙ append-nil p.text)) p.wrote

  pub refused : (n k : ℕ) (new' : Option (List ℕ)) → end_outcome l.end ≡ stop n k → Appends new new' (refused_line n k) → Appends old new' (listing_of all)
  unfolding rest_of goes_on
  refused n k new' e a =
      let g : listing_of all ≡ p.text ++ refused_line n k = p.listing ∙ ap (λ (o : Outcome Bool). p.text ++ goes_on o l.night (drop l.used pending ++ p.rest)) e in
      subst (λ (t : List ℕ). Appends old new' t) (sym g) (appends_both old new new' p.text _ p.wrote a)

  -- a front part
  pub part : (t : List ℕ) × (rest : List ℕ) × Appends old new t × (listing_of all ≡ t ++ rest)
  part = (p.text, rest_of l pending p.rest, p.wrote, p.listing)

  pub goes : end_outcome l.end ≡ done false → Progress all old left new l.night (drop l.used pending) last
  unfolding rest_of goes_on
  goes e = record {
    rest = p.rest;
    is_left = p.is_left;
    ended = p.ended;
    text = p.text;
    wrote = p.wrote;
    listing = p.listing ∙ ap (λ (o : Outcome Bool). p.text ++ goes_on o l.night (drop l.used pending ++ p.rest)) e;
  }

-- nothing more written
pub and_nothing : {all : List ℕ} {old left new : Option (List ℕ)} {night : Night} {pending : List ℕ} {last : Bool} → Progress all old left new night pending last
    → (new' : Option (List ℕ)) → Appends new new' [] → Progress all old left new' night pending last
and_nothing {all} {old} {left} {new} {night} {pending} {last} p new' a = record {
  rest = p.rest;
  is_left = p.is_left;
  ended = p.ended;
  text = p.text;
  wrote = subst (λ (t : List ℕ). Appends old new' t) (append-nil p.text) (appends_both old new new' p.text [] p.wrote a);
  listing = p.listing;
}

-- more bytes read behind those that wait
module _ {all : List ℕ} {old left new : Option (List ℕ)} {night : Night} {pending : List ℕ} {last : Bool} (p : Progress all old left new night pending last) where
  pub read_on : (more pending' : List ℕ) (left' : Option (List ℕ)) (last' : Bool) → Consumes left left' more → (last' ≡ true → IsAtEnd left') → pending' ≡ pending ++ more
      → Progress all old left' new night pending' last'
  read_on more pending' left' last' c e f = go left' (subst (λ (o : Option (List ℕ)). Consumes o left' more) p.is_left c) e
    where
      go : (o : Option (List ℕ)) → Consumes (Some p.rest) o more → (last' ≡ true → IsAtEnd o) → Progress all old o new night pending' last'
      go None c e = absurd c
      go (Some ys) c e = record {
        rest = ys;
        is_left = refl;
        ended = e;
        text = p.text;
        wrote = p.wrote;
        listing = p.listing ∙ ap (λ (t : List ℕ). p.text ++ listing_on night t)
            (ap (λ (t : List ℕ). pending ++ t) c ∙ sym (append_assoc pending more ys) ∙ ap (λ (t : List ℕ). t ++ ys) (sym f));
      }

-- what a write that went well promises
pub on_ok : {T F : Type 0} (r : Result T F) {P : Type 0} → is_ok r ≡ true → OnOk r P → P
on_ok (Ok x) e h = h
on_ok (Err x) e h = absurd (cc)

pub on_no_err : {T F : Type 0} (r : Result T F) {P : Type 0} → is_err r ≡ false → OnOk r P → P
on_no_err (Ok x) e h = h
on_no_err (Err x) e h = absurd (cc)

-- a text stored at a list's start, taken from there
pub front : (t o o' : List ℕ) (k : ℕ) → k ≡ length t → o' ≡ at_start t o → take k o' ≡ t
front t o o' k e f = rw (e, f) (take-append_seam t (drop (length t) o))

-- the bytes that a read put behind the first ones
pub taken : (filled k n : ℕ) (xs ys : List ℕ) → filled ≤ length xs → n ≤ length ys → drop filled (take (filled + n) (put_mid filled k xs ys)) ≡ take n ys
taken filled k n xs ys h l =
    drop-take filled n (put_mid filled k xs ys)
    ∙ ap (λ (zs : List ℕ). take n zs) (ap (λ (j : ℕ). drop j (take filled xs ++ (ys ++ post_of filled k xs))) (sym (length-take-le filled xs h))
    ∙ drop-append_seam (take filled xs) (ys ++ post_of filled k xs))
    ∙ take-append-le n ys (post_of filled k xs) l

-- no byte came
pub no_byte : (n : ℕ) (c : Option (List ℕ)) {last : Bool} → last ≡ eqb n 0 → (n ≡ 0 → IsAtEnd c) → last ≡ true → IsAtEnd c
no_byte n c e f t = f (eqb-true n 0 (sym e ∙ t))

-- what holds where the bytes are known
pub where_known : (r : Option (List ℕ)) (P : List ℕ → Type 0) → ((all : List ℕ) → r ≡ Some all → P all) → IfSome r P
where_known None P f = tt
where_known (Some all) P f = f all refl

-- a front part of a front part
take_of_take : (k m : ℕ) (xs : List ℕ) → k ≤ m → take k (take m xs) ≡ take k xs
take_of_take zero m xs h = refl
take_of_take (suc k) zero xs h = absurd (omega arith)
take_of_take (suc k) (suc m) [] h = refl
take_of_take (suc k) (suc m) (x ∷ xs) h = ap (λ (ys : List ℕ). x ∷ ys) (take_of_take k m xs (omega arith))

-- no byte, no breath
no_breaths : (steps breath : ℕ) → breaths_from steps breath [] ≡ []
unfolding breaths_from next_of
no_breaths zero breath = refl
no_breaths (suc steps) breath = refl

none_of : (night : Night) → breaths_of night [] ≡ []
unfolding breaths_of breaths_in first_of breaths_on
none_of Begun = refl
none_of (Rated night) = no_breaths (lines_from night.breath) night.breath

-- an open piece that used nothing lists nothing
pub nothing_listed : (night : Night) (bs : List ℕ) (l : ListedPiece) → BestPiece night bs l → l.used ≡ 0 → end_outcome l.end ≡ done false → l.text ≡ []
unfolding numbered ratios_of end_text
nothing_listed night bs l b u e =
    let none : breaths_of night (take l.used bs) ≡ [] = ap (λ (k : ℕ). breaths_of night (take k bs)) u ∙ none_of night in
    b.lists.lines
    ∙ ap (λ (xs : List Breath). numbered (next_breath night) (ratios_of (rate_of night (take l.used bs)) xs) ++ end_text (sums_so_far l.night) (end_outcome l.end)) none
    ∙ ap (λ (o : Outcome Bool). end_text (sums_so_far l.night) o) e

-- ---- a turn

module _ (all : List ℕ) (old left new : Option (List ℕ)) (night : Night) (bytes text : List ℕ) (filled : ℕ) (last : Bool)
    (p : Progress all old left new night (take filled bytes) last) (real : is_night night ≡ true)
    (piece : Piece) (text' : List ℕ)
    (answered : piece ≡ answer_of (piece_of night (take filled bytes) last (length text)))
    (stored : text' ≡ at_start (piece_of night (take filled bytes) last (length text)).text text)
    (listing : MakesListing night (take filled bytes) last (length text))
    (new' : Option (List ℕ)) {T F : Type 0} (r : Result T F) (ok : is_err r ≡ false) (wrote : OnOk r (Appends new new' (take piece.length text'))) where
  abbrev l : ListedPiece
  l = piece_of night (take filled bytes) last (length text)

  pieced : Pieced all old left new' l (take filled bytes) last
  unfolding answer_of
  pieced =
      let told : take piece.length text' ≡ l.text = front l.text text text' piece.length (ap (λ (q : Piece). q.length) answered) stored in
      with_piece p (length text) new' real listing (subst (λ (t : List ℕ). Appends new new' t) told (on_no_err r ok wrote))

  ends : (e : End) → piece.end ≡ e → end_outcome l.end ≡ end_outcome e
  unfolding answer_of
  ends e h = ap end_outcome (sym (ap (λ (q : Piece). q.end) answered) ∙ h)

  pub turn_closed : piece.end ≡ Closed → Appends old new' (listing_of all)
  turn_closed h = whole pieced (ends Closed h)

  pub turn_refused : (s : Stop) → piece.end ≡ Refused s → (new'' : Option (List ℕ)) → Appends new' new'' (refused_line s.number s.place) → Appends old new'' (listing_of all)
  turn_refused s h new'' a = refused pieced s.number s.place new'' (ends (Refused s) h) a

  pub turn_part : (t : List ℕ) × (rest : List ℕ) × Appends old new' t × (listing_of all ≡ t ++ rest)
  turn_part = part pieced

  -- lines were listed, and the bytes that are left moved to the front
  pub turn_moved : piece.end ≡ Open → piece.used ≤ filled → filled ≤ length bytes → (filled' : ℕ) (bytes' : List ℕ) → filled' ≡ filled - piece.used
      → bytes' ≡ at_start (take (filled - piece.used) (drop piece.used bytes)) bytes → Progress all old left new' piece.night (take filled' bytes') last
  unfolding answer_of
  turn_moved h u f filled' bytes' ef eb =
      let used : piece.used ≡ l.used = ap (λ (q : Piece). q.used) answered in
      let after : piece.night ≡ l.night = ap (λ (q : Piece). q.night) answered in
      let kept : List ℕ = take (filled - piece.used) (drop piece.used bytes) in
      let long : length kept ≡ filled - piece.used = length-take-le (filled - piece.used) (drop piece.used bytes) (omega (arith, length-drop piece.used bytes)) in
      let moved : take filled' bytes' ≡ kept = front kept bytes bytes' filled' (ef ∙ sym long) eb in
      let sum : piece.used + (filled - piece.used) ≡ filled = omega arith in
      let same : drop piece.used (take filled bytes) ≡ kept =
      ap (λ (k : ℕ). drop piece.used (take k bytes)) (sym sum) ∙ drop-take piece.used (filled - piece.used) bytes in
      let pending : drop l.used (take filled bytes) ≡ take filled' bytes' = ap (λ (k : ℕ). drop k (take filled bytes)) (sym used) ∙ same ∙ sym moved in
      subst (λ (n : Night). Progress all old left new' n (take filled' bytes') last) (sym after)
      (subst (λ (q : List ℕ). Progress all old left new' l.night q last) pending (goes pieced (ends Open h)))

  -- nothing was listed, and more bytes are read
  pub turn_waits : BestPiece night (take filled bytes) l → piece.end ≡ Open → piece.used ≤ 0 → filled ≤ length bytes → (left' : Option (List ℕ)) (last' : Bool) (filled' : ℕ) (bytes' : List ℕ)
      → Consumes left left' (drop filled (take filled' bytes')) → (last' ≡ true → IsAtEnd left') → filled ≤ filled' → filled' ≤ length bytes' → take filled bytes' ≡ take filled bytes
      → Progress all old left' new' night (take filled' bytes') last'
  unfolding answer_of
  turn_waits best h u f left' last' filled' bytes' c e up within kept =
      let used : l.used ≡ 0 = sym (ap (λ (q : Piece). q.used) answered) ∙ omega arith in
      let none : l.text ≡ [] = nothing_listed night (take filled bytes) l best used (ends Open h) in
      let told : take piece.length text' ≡ l.text = front l.text text text' piece.length (ap (λ (q : Piece). q.length) answered) stored in
      let wrote' : Appends new new' [] = subst (λ (t : List ℕ). Appends new new' t) (told ∙ none) (on_no_err r ok wrote) in
      let split : take filled' bytes' ≡ take filled bytes ++ drop filled (take filled' bytes') =
      sym (take-append-drop filled (take filled' bytes'))
      ∙ ap (λ (t : List ℕ). t ++ drop filled (take filled' bytes')) (take_of_take filled filled' bytes' up ∙ kept) in
      read_on (and_nothing p new' wrote') (drop filled (take filled' bytes')) (take filled' bytes') left' last' c e split

-- what `refuse` answered, by its case
pub adds_refused : (cut : Cut) (s : Stop) (listing : List ℕ) (old new : Option (List ℕ)) → (cut ≡ Cut.Refused s) ⊎ (cut ≡ Cut.Unwritten)
    → (cut ≡ Cut.Refused s → Appends old new listing) → Adds (Err cut) listing old new
adds_refused cut s listing old new (inl e) f = subst (λ (x : Cut). Adds (Err x) listing old new) (sym e) (f e)
adds_refused cut s listing old new (inr e) f = subst (λ (x : Cut). Adds (Err x) listing old new) (sym e) tt
