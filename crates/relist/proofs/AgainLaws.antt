-- A listing loaded, and printed again. Assumes nothing.
-- `again_same`: a text that isn't refused is printed again byte for byte. `again_done`, `again_stopped`: what the function answers.
use mathlib.Core.Path.{◌≡◌, refl, sym, ap, ◌∙◌}
use mathlib.Core.List.{List}
use Prim.Native.Nat.{ℕ, ◌≤◌}
use native.Mathlib.Omega.{arith}
use lib.ListN.{length, take, drop, length-append}
use lib.Seq.{take_at}
use borrow.Author.Tests.{le-leb}
use Rattle.std.specs.Prelude.{Ok, Err}
use Rattle.slash.specs.Answers.{Outcome, done, ◌then◌}
use Rattle.slash.specs.declared.answer.Stop.{Stop}
use Rattle.slash.proofs.AnswerLaws.{done_inj, no_stop}
use Rattle.text.specs.Stores.{at_start, length_of, list_after}
use Rattle.loading.specs.Prints.{printed, IsListing, print_outcome}
use Rattle.loading.specs.Loads.{Listing, load}
use Rattle.loading.specs.Fills.{where_fits, load_into, count_of, words_after}
use Rattle.loading.specs.declared.load.Counted.{Counted}
use Rattle.loading.proofs.LoadLaws.{load_only}
use Rattle.loading.proofs.FillLaws.{count_stop}
use Rattle.loading.proofs.PrintLaws.{print_listing}
use Rattle.relist.specs.Again.{printed_again, SameAgain}

pub again_same : (text : List ℕ) → SameAgain text
unfolding printed_again
again_same text again h = go (load text) refl h
  where
    go : (o : Outcome Listing) → load text ≡ o → (o then λ l. done (printed l.words l.total)) ≡ done again → again ≡ text
    go (Err s) e g = absurd (no_stop g)
    go (Ok l) e g = sym (done_inj g) ∙ sym (load_only text l e).1

-- lists of 65,536 places are never too short
fits_all : (text : List ℕ) → load_into text 65536 65536 ≡ load text
unfolding load_into where_fits
fits_all text = go (load text) refl
  where
    go : (o : Outcome Listing) → load text ≡ o → (o then where_fits 65536 65536) ≡ o
    go (Err s) e = refl
    go (Ok l) e = rw (le-leb (length l.words) 65536 (load_only text l e).0.few) refl

module _ (text o : List ℕ) {r : Outcome Counted} (h : r ≡ count_of (load_into text 65536 65536)) where
  loaded : r ≡ count_of (load text)
  loaded = h ∙ ap count_of (fits_all text)

  pub again_stopped : {s : Stop} → r ≡ Err s
      → (Err s ≡ length_of (printed_again text)) × ((o ≡ list_after (printed_again text) o) × SameAgain text)
  unfolding printed_again length_of list_after
  again_stopped {s} e =
      let stopped : Err s ≡ load text = count_stop (load text) (sym e ∙ loaded) in
      let m : printed_again text ≡ Err s = ap (λ (y : Outcome Listing). y then λ l. done (printed l.words l.total)) (sym stopped) in
      (ap length_of (sym m), (ap (λ (y : Outcome (List ℕ)). list_after y o) (sym m), again_same text))

  module _ (c : Counted) (e : r ≡ Ok c) (old new : List ℕ) (we : new ≡ words_after (load_into text 65536 65536) old) where
    record Words : Type 0 where
      words : List ℕ
      last : ℕ
      is : load text ≡ done (record { words = words; total = last })
      count : c.breaths ≡ length words
      total_is : c.total ≡ last
      first : take c.breaths new ≡ words
      within : c.breaths ≤ length new

    given : Words
    unfolding count_of words_after list_after
    given = go (load text) refl (sym e ∙ loaded)
      where
        go : (x : Outcome Listing) → load text ≡ x → done c ≡ count_of x → Words
        go (Err s) i g = absurd (no_stop (sym g))
        go (Ok l) i g =
            let d : c ≡ record { breaths = length l.words; total = l.total } = done_inj g in
            let n : c.breaths ≡ length l.words = ap (λ (x : Counted). x.breaths) d in
            let list : new ≡ at_start l.words old = we ∙ ap (λ (x : Outcome Listing). words_after x old) (fits_all text ∙ i) in
            record {
              words = l.words;
              last = l.total;
              is = i;
              count = n;
              total_is = ap (λ (x : Counted). x.total) d;
              first = ap (take c.breaths) list ∙ take_at l.words (drop (length l.words) old) c.breaths (sym n);
              within = omega (arith, n, ap length list, length-append l.words (drop (length l.words) old));
            }

    pub words_within : c.breaths ≤ length new
    words_within = given.within

    pub again_done : (k : Outcome ℕ) (o' : List ℕ)
        → (k ≡ length_of (print_outcome (take c.breaths new) c.total)) × (o' ≡ list_after (print_outcome (take c.breaths new) c.total) o)
        → (k ≡ length_of (printed_again text)) × ((o' ≡ list_after (printed_again text) o) × SameAgain text)
    unfolding printed_again
    again_done k o' m =
        let g : Words = given in
        let is : IsListing g.words g.last = (load_only text _ g.is).0 in
        let out : print_outcome (take c.breaths new) c.total ≡ done (printed g.words g.last) =
        ap (λ (ws : List ℕ). print_outcome ws c.total) g.first ∙ ap (print_outcome g.words) g.total_is ∙ print_listing g.words g.last is
        in
        let same : print_outcome (take c.breaths new) c.total ≡ printed_again text =
        out ∙ sym (ap (λ (x : Outcome Listing). x then λ l. done (printed l.words l.total)) g.is)
        in
        (m.0 ∙ ap length_of same, (m.1 ∙ ap (λ (x : Outcome (List ℕ)). list_after x o) same, again_same text))

-- how long what is printed is, within the array
pub again_within : (text o o' : List ℕ) (k : ℕ) → done k ≡ length_of (printed_again text) → o' ≡ list_after (printed_again text) o → k ≤ length o'
unfolding length_of list_after
again_within text o o' k e f = go (printed_again text) refl
  where
    go : (x : Outcome (List ℕ)) → printed_again text ≡ x → k ≤ length o'
    go (Err s) i = absurd (no_stop (sym (e ∙ ap length_of i)))
    go (Ok t) i =
        let n : k ≡ length t = done_inj (e ∙ ap length_of i) in
        let l : o' ≡ at_start t o = f ∙ ap (λ (x : Outcome (List ℕ)). list_after x o) i in
        omega (arith, n, ap length l, length-append t (drop (length t) o))
