-- A night listed in pieces for C. Assumes nothing.
-- `state_again`, `begun_again`: the state of a night of a recording tells that night. `piece_again`: so does the state that a call leaves tell the
-- night behind its piece, and calls in a row make the listing.
use mathlib.Core.Path.{◌≡◌, refl, sym, ap, ◌∙◌, subst}
use mathlib.Core.Bool.{Bool, true, false, ◌&&◌}
use mathlib.Core.List.{List}
use Prim.Native.Nat.{ℕ, ◌≤◌}
use native.Mathlib.Omega.{arith}
use lib.Dec.{eqb, ltb}
use lib.ListN.{get_or}
use borrow.Author.Tests.{le-ltb}
use Rattle.std.specs.Prelude.{Ok, Err}
use Rattle.slash.specs.Answers.{Outcome, done}
use Rattle.slash.proofs.AnswerLaws.{some_not, if_case, done_inj, no_stop}
use Rattle.breaths.specs.Rates.{is_rate, make_rate}
use Rattle.breaths.proofs.RateLaws.{rate_done, rate_made}
use Rattle.breaths.specs.declared.sums.Sums.{Sums}
use Rattle.breaths.specs.declared.rate.Rate.{Rate}
use Rattle.listing.specs.Nights.{is_rated, is_night}
use Rattle.listing.specs.Pieces.{ListedPiece, ends_here, piece_of}
use Rattle.listing.proofs.NightLaws.{RealNight, night_real, real_night}
use Rattle.listing.proofs.PieceLaws.{none_is, piece_sound, RateIn, piece_rate}
use Rattle.listing.specs.declared.night.Night.{Night}
use Rattle.listing.specs.declared.night.Night.TheVariants.{Begun, Rated}
use Rattle.listing.specs.declared.night.RatedNight.{RatedNight}
use Rattle.listing.specs.declared.piece.End.{End}
use Rattle.lekhnaom.specs.Pieces.{state_of, rated_from, night_from, night_at, told_by, piece_from}

-- ---- there and back

-- the night of a rate, and of what is read behind its line
from_rate : (rate breath inspiration whole : ℕ) → (eqb rate 0 && (eqb breath 0 && (eqb inspiration 0 && eqb whole 0))) ≡ false → breath ≤ 4294967295 → (r : Rate) → done r ≡ make_rate rate
    → done (Rated (record { rate = r; breath = breath; sums = record { inspiration = inspiration; whole = whole } })) ≡ night_from rate breath inspiration whole
unfolding night_from rated_from
from_rate rate breath inspiration whole e h r g = rw (e, le-ltb _ _ h, ← g) refl

-- The state of a night of a recording tells just that night. (Every `Rate` is one: only `Rate::make` makes them.)
pub state_again : (night : RatedNight) → is_rated night ≡ true → is_rate night.rate.ticks ≡ true → night_at (state_of (Rated night)) ≡ done (Rated night)
unfolding night_at state_of
state_again night e r =
    let breath : 1 ≤ night.breath = (night_real night e).some in
    let few : night.breath ≤ 65537 = (night_real night e).few in
    let begun : (eqb night.rate.ticks 0 && (eqb night.breath 0 && (eqb night.sums.inspiration 0 && eqb night.sums.whole 0))) ≡ false =
    and_middle (eqb night.rate.ticks 0) (eqb night.breath 0) _ (some_not night.breath breath)
    in
    sym (from_rate night.rate.ticks night.breath night.sums.inspiration night.sums.whole begun (omega arith) night.rate (rate_done night.rate.ticks r))
  where
    and_middle : (a b c : Bool) → b ≡ false → (a && (b && c)) ≡ false
    and_middle true b c h = rw h refl
    and_middle false b c h = refl

-- And nothing read is all zeros.
pub begun_again : night_at (state_of Begun) ≡ done Begun
unfolding night_at state_of night_from
begun_again = refl

night_again : (night : Night) → RealNight night → RateIn night → night_at (state_of night) ≡ done night
night_again Begun r g = begun_again
night_again (Rated night) r g = state_again night (real_night night r) g

-- a night that a state tells has a rate
rated_good : (ticks breath : ℕ) (sums : Sums) (o : Outcome Rate) → make_rate ticks ≡ o → (night : Night) → rated_from o breath sums ≡ done night → RateIn night
unfolding rated_from
rated_good ticks breath sums (Err s) m night e = absurd (no_stop e)
rated_good ticks breath sums (Ok rate) m night e =
    let r = rate_made ticks rate m in
    subst RateIn (done_inj e) (ap is_rate r.0 ∙ r.1)

abbrev Good : Outcome Night → Type 0
Good o = (night : Night) → o ≡ done night → RateIn night

from_good : (rate breath inspiration whole : ℕ) (night : Night) → night_from rate breath inspiration whole ≡ done night → RateIn night
unfolding night_from
from_good rate breath inspiration whole =
    if_case Good (eqb rate 0 && (eqb breath 0 && (eqb inspiration 0 && eqb whole 0))) _ _
    (λ z night e. subst RateIn (done_inj e) tt)
    (λ z. if_case Good (ltb 4294967295 breath) _ _ (λ l night e. absurd (no_stop e)) (λ l. rated_good rate breath _ (make_rate rate) refl))

-- a piece that is told is the one that was listed, of a night of a recording
told_same : (end : End) (p l : ListedPiece) → told_by end p ≡ done l → p ≡ l
unfolding told_by
told_same End.Open p l e = done_inj e
told_same End.Closed p l e = done_inj e
told_same (End.Refused s) p l e = absurd (no_stop e)
told_same End.NoNight p l e = absurd (no_stop e)

none_told : (night : RatedNight) (bytes : List ℕ) (last : Bool) (room : ℕ) (l : ListedPiece) → is_rated night ≡ false
    → told_by (piece_of (Rated night) bytes last room).end (piece_of (Rated night) bytes last room) ≡ done l → ⊥
unfolding told_by ends_here
none_told night bytes last room l h e = no_stop (subst (λ (p : ListedPiece). told_by p.end p ≡ done l) (none_is night bytes last room h) e)

told_night : (night : Night) (bytes : List ℕ) (last : Bool) (room : ℕ) (l : ListedPiece)
    → told_by (piece_of night bytes last room).end (piece_of night bytes last room) ≡ done l → is_night night ≡ true
unfolding is_night
told_night Begun bytes last room l e = refl
told_night (Rated night) bytes last room l e = go (is_rated night) refl
  where
    go : (b : Bool) → is_rated night ≡ b → is_rated night ≡ true
    go true h = h
    go false h = absurd (none_told night bytes last room l h e)

-- What a call leaves as a state tells the night behind its piece.
pub piece_again : (state bytes : List ℕ) (last : Bool) (room : ℕ) (l : ListedPiece) → piece_from (night_at state) bytes last room ≡ done l
    → night_at (state_of l.night) ≡ done l.night
unfolding night_at piece_from
piece_again state bytes last room l e = go (night_at state) refl e
  where
    go : (o : Outcome Night) → night_at state ≡ o → piece_from o bytes last room ≡ done l → night_at (state_of l.night) ≡ done l.night
    go (Err s) m h = absurd (no_stop h)
    go (Ok night) m h =
        let real : is_night night ≡ true = told_night night bytes last room l h in
        let good : RateIn night = from_good (get_or state 0 0) (get_or state 1 0) (get_or state 2 0) (get_or state 3 0) night m in
        subst (λ (p : ListedPiece). night_at (state_of p.night) ≡ done p.night) (told_same _ _ l h)
        (night_again (piece_of night bytes last room).night (piece_sound night bytes last room real).real (piece_rate night bytes last room real good))
