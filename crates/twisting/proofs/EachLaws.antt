-- The vector forms: their stops in their order, and what is stored. Assumes nothing.
-- `twist_each_undone`, `untwist_each_undone`: each undoes the other.
use mathlib.Core.Path.{◌≡◌, refl, sym, ap, ap₂, ◌∙◌}
use mathlib.Core.Bool.{Bool, true, false}
use mathlib.Core.List.{List, [], ◌∷◌, map}
use Prim.Native.Nat.{ℕ, suc, suc-le-suc}
use native.Mathlib.Omega.{arith}
use lib.ListN.{length}
use lib.Dec.{eqb}
use borrow.Author.Tests.{eq-eqb, ne_eqb, eqb-true, eqb-false}
use Rattle.std.specs.Prelude.{Ok, Err}
use Rattle.slash.specs.Answers.{Outcome, stop, done, WhenDone}
use Rattle.slash.specs.Steps.{or_zero}
use Rattle.slash.specs.Formats.{known, is_fixed}
use Rattle.slash.specs.Reading.{check_word}
use Rattle.slash.specs.declared.answer.Stop.{Stop}
use Rattle.slash.specs.declared.format.Format.{Format}
use Rattle.slash.proofs.AnswerLaws.{no_stop, done_inj, then_stop, zero_done}
use Rattle.vectors.specs.Each.{at_place, each, vector_after, stop_only}
use Rattle.vectors.specs.Places.{same_length}
use Rattle.vectors.specs.Checks.{checks, checked_words}
use Rattle.vectors.proofs.EachLaws.{stop_checked, each_stopped, each_done, refused}
use Rattle.vectors.proofs.CheckLaws.{words_all}
use Rattle.twisting.specs.Twisting.{twisted_field, untwisted_field, rearranged, check_floating, rearrange, twist_word, untwist_word}
use Rattle.twisting.specs.Each.{rearrange_each, twist_each, untwist_each}
use Rattle.twisting.specs.Steps.{AllGood}
use Rattle.twisting.proofs.StepLaws.{good_checked}
use Rattle.twisting.proofs.TwistingLaws.{floating_known, rearrange_done, twist_undone, untwist_undone}

-- ---- the stops

module _ (way : ℕ → ℕ → ℕ → ℕ) (f : Format) (operand out : List ℕ) where
  pub each_format : {s : Stop} → Err s ≡ check_floating f → Err s ≡ rearrange_each way f operand out
  unfolding rearrange_each
  each_format e = then_stop _ e

  module _ (c : done tt ≡ check_floating f) where
    pub each_length : (length operand ≡ length out → ⊥) → stop 3 0 ≡ rearrange_each way f operand out
    unfolding rearrange_each same_length
    each_length n = rw (← c, ne_eqb _ _ n) refl

    each_all : length operand ≡ length out → each (rearrange way f) 0 operand ≡ rearrange_each way f operand out
    unfolding rearrange_each same_length
    each_all e = rw (← c, eq-eqb _ _ e) refl

-- ---- the words: checked, they are stored as they are rearranged

module _ (way : ℕ → ℕ → ℕ → ℕ) (f : Format) (c : done tt ≡ check_floating f) where
  stops_alike : (w : ℕ) → stop_only (rearrange way f w) ≡ check_word f w
  unfolding rearrange
  stops_alike w = stop_checked (check_word f w) (rearranged way f.k w) (rearrange way f w) (rw (← c) refl)

  words_stored : (i : ℕ) (xs : List ℕ) → checks (check_word f) i xs ≡ done tt → map (rearranged way f.k) xs ≡ map (λ x. or_zero (rearrange way f x)) xs
  unfolding checks at_place
  words_stored i [] h = refl
  words_stored i (x ∷ xs) h = go (check_word f x) refl (words_stored (suc i) xs)
    where
      go : (o : Outcome (Unit {0})) → check_word f x ≡ o → (checks (check_word f) (suc i) xs ≡ done tt → map (rearranged way f.k) xs ≡ map (λ y. or_zero (rearrange way f y)) xs)
          → map (rearranged way f.k) (x ∷ xs) ≡ map (λ y. or_zero (rearrange way f y)) (x ∷ xs)
      go (Err s) e ih =
          let d : stop s.number i ≡ checks (check_word f) i (x ∷ xs) = rw e refl in
          absurd (no_stop (d ∙ h))
      go (Ok u) e ih =
          let d : checks (check_word f) (suc i) xs ≡ checks (check_word f) i (x ∷ xs) = rw e refl in
          ap₂ (λ (y : ℕ) (ys : List ℕ). y ∷ ys) (zero_done (rearrange_done way f x c (sym e) refl)) (ih (d ∙ h))

-- words that are good by the quick test are checked
module _ (f : Format) (h : (known f ≡ true) × (is_fixed f ≡ false)) where
  words_good : (i : ℕ) (xs : List ℕ) → AllGood f.k xs → done tt ≡ checks (check_word f) i xs
  unfolding checks at_place
  words_good i [] g = refl
  words_good i (x ∷ xs) g =
      let c : done tt ≡ check_word f x = good_checked f h x (g 0 (omega arith)) in
      rw (← c) (words_good (suc i) xs (λ j l. g (suc j) (suc-le-suc l)))

  pub all_checked : (xs : List ℕ) → AllGood f.k xs → done tt ≡ checked_words f xs
  all_checked xs g = words_good 0 xs g ∙ words_all f xs h.0

-- a stop before the words are looked at
pub stopped_before : {s : Stop} (o : Outcome (List ℕ)) (old : List ℕ) → Err s ≡ o → (Err s ≡ stop_only o) × (old ≡ vector_after o old)
stopped_before o old e = let t = refused o old e in (t.0, t.1.0)

-- nothing more is said of a word
said : (o : Outcome ℕ) → WhenDone o (λ _. Unit {0})
said (Err s) = tt
said (Ok w) = tt

module _ (way : ℕ → ℕ → ℕ → ℕ) (f : Format) (operand out : List ℕ) (c : done tt ≡ check_floating f) (e : length operand ≡ length out) where
  module _ (res : Outcome (Unit {0})) (re : res ≡ checked_words f operand) where
    pub rearranged_stopped : (s : Stop) → res ≡ Err s
        → (Err s ≡ stop_only (rearrange_each way f operand out)) × (out ≡ vector_after (rearrange_each way f operand out) out)
    rearranged_stopped s h =
        let t = each_stopped (rearrange way f) (check_word f) (stops_alike way f c) (λ _ _. Unit {0}) (λ x. said (rearrange way f x)) operand out (rearrange_each way f operand out) (each_all way f operand out c e) res (re ∙ sym (words_all f operand (floating_known f c).0)) s h in
        (t.0, t.1.0)

    pub rearranged_done : res ≡ Ok tt → (new : List ℕ) → new ≡ map (rearranged way f.k) operand
        → (done tt ≡ stop_only (rearrange_each way f operand out)) × (new ≡ vector_after (rearrange_each way f operand out) out)
    rearranged_done h new ne =
        let all : res ≡ checks (check_word f) 0 operand = re ∙ sym (words_all f operand (floating_known f c).0) in
        let good : checks (check_word f) 0 operand ≡ done tt = sym all ∙ h in
        let t = each_done (rearrange way f) (check_word f) (stops_alike way f c) (λ _ _. Unit {0}) (λ x. said (rearrange way f x)) operand out (rearrange_each way f operand out) (each_all way f operand out c e) res all h new (ne ∙ words_stored way f c 0 operand good) in
        (t.0, t.1.0)

-- ---- each undoes the other

module _ (op back : ℕ → Outcome ℕ) (undo : (x w : ℕ) → op x ≡ done w → back w ≡ done x) where
  each_undone : (i : ℕ) (xs ws : List ℕ) → each op i xs ≡ done ws → each back i ws ≡ done xs
  unfolding each at_place
  each_undone i [] ws e = ap (each back i) (sym (done_inj e))
  each_undone i (x ∷ xs) ws e = go (op x) refl (each op (suc i) xs) refl (each_undone (suc i) xs)
    where
      go : (o : Outcome ℕ) → op x ≡ o → (p : Outcome (List ℕ)) → each op (suc i) xs ≡ p → ((vs : List ℕ) → each op (suc i) xs ≡ done vs → each back (suc i) vs ≡ done xs)
          → each back i ws ≡ done (x ∷ xs)
      go (Err s) oe q qe ih =
          let d : stop s.number i ≡ each op i (x ∷ xs) = rw oe refl in
          absurd (no_stop (d ∙ e))
      go (Ok w) oe (Err s) qe ih =
          let d : Err s ≡ each op i (x ∷ xs) = rw (oe, qe) refl in
          absurd (no_stop (d ∙ e))
      go (Ok w) oe (Ok vs) qe ih =
          let d : done (w ∷ vs) ≡ each op i (x ∷ xs) = rw (oe, qe) refl in
          let b : each back i (w ∷ vs) ≡ done (x ∷ xs) = rw (undo x w oe, ih vs qe) refl in
          ap (each back i) (sym (done_inj (d ∙ e))) ∙ b

-- what a vector that isn't stopped tells of its format and its words
module _ (way : ℕ → ℕ → ℕ → ℕ) (f : Format) (operand out : List ℕ) where
  pub record Stored (words : List ℕ) : Type 0 where
    pub format_good : done tt ≡ check_floating f
    pub made : each (rearrange way f) 0 operand ≡ done words

  each_made : {words : List ℕ} → rearrange_each way f operand out ≡ done words → Stored words
  each_made {words} e = go (check_floating f) refl (eqb (length operand) (length out)) refl
    where
      go : (o : Outcome (Unit {0})) → check_floating f ≡ o → (b : Bool) → eqb (length operand) (length out) ≡ b → Stored words
      go (Err s) oe b be = absurd (no_stop (each_format way f operand out (sym oe) ∙ e))
      go (Ok u) oe false be = absurd (no_stop (each_length way f operand out (sym oe) (eqb-false _ _ be) ∙ e))
      go (Ok u) oe true be =
          let l : length operand ≡ length out = eqb-true _ _ be in
          record { format_good = sym oe; made = each_all way f operand out (sym oe) l ∙ e }

module _ (f : Format) (operand words out old : List ℕ) (same : length words ≡ length old) where
  pub twist_each_undone : twist_each f operand out ≡ done words → untwist_each f words old ≡ done operand
  unfolding twist_each untwist_each twist_word untwist_word
  twist_each_undone e =
      let m = each_made twisted_field f operand out e in
      sym (each_all untwisted_field f words old m.format_good same) ∙ each_undone (rearrange twisted_field f) (rearrange untwisted_field f) (λ x w h. twist_undone f h) 0 operand words m.made

  pub untwist_each_undone : untwist_each f operand out ≡ done words → twist_each f words old ≡ done operand
  unfolding twist_each untwist_each twist_word untwist_word
  untwist_each_undone e =
      let m = each_made untwisted_field f operand out e in
      sym (each_all twisted_field f words old m.format_good same) ∙ each_undone (rearrange untwisted_field f) (rearrange twisted_field f) (λ x w h. untwist_undone f h) 0 operand words m.made
