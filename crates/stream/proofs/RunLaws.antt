-- What a run tells: a stop of a piece is one of the recording's (`refused_tells`). Assumes nothing.
use mathlib.Core.Path.{◌≡◌, sym, subst}
use mathlib.Core.Logic.{◌⊎◌, inl, inr}
use mathlib.Core.Bool.{Bool, true}
use Rattle.std.specs.Prelude.{Ok, Err}
use Rattle.slash.specs.Answers.{Outcome}
use Rattle.slash.specs.declared.answer.Stop.{Stop}
use Rattle.listing.specs.Nights.{is_night}
use Rattle.listing.specs.Pieces.{end_outcome}
use Rattle.listing.specs.declared.night.Night.{Night}
use Rattle.listing.specs.declared.night.Night.TheVariants.{Begun, Rated}
use Rattle.listing.specs.declared.piece.End.{End}
use Rattle.listing.proofs.NightLaws.{Real, night_real}
use Rattle.listing.proofs.PieceLaws.{StopIn}
use Rattle.recording.proofs.ReadingLaws.{breath_stop}
use Rattle.stream.specs.Runs.{run_outcome, Tells}
use Rattle.stream.specs.declared.run.Cut.{Cut}
use Rattle.stream.specs.declared.run.Cut.TheVariants.{Refused, Unwritten}

-- a stop of a piece is the recording's
end_tells : (night : Night) → is_night night ≡ true → (o : Outcome Bool) → StopIn night o → Tells o
unfolding is_night
end_tells Begun e (Err s) i = inl i
end_tells (Rated night) e (Err s) i =
    let r : Real night = night_real night e in
    breath_stop night.breath s.number s.place r.some r.few i
end_tells Begun e (Ok whole) i = tt
end_tells (Rated night) e (Ok whole) i = tt

pub refused_tells : (night : Night) → is_night night ≡ true → (end : End) → StopIn night (end_outcome end) → (s : Stop) → end ≡ End.Refused s
    → (cut : Cut) → (cut ≡ Refused s) ⊎ (cut ≡ Unwritten) → Tells (run_outcome (Err cut))
refused_tells night real end i s e cut (inl d) =
    subst (λ (x : Cut). Tells (run_outcome (Err x))) (sym d) (subst (λ (x : End). Tells (end_outcome x)) e (end_tells night real (end_outcome end) i))
refused_tells night real end i s e cut (inr d) = subst (λ (x : Cut). Tells (run_outcome (Err x))) (sym d) tt
