-- The column of a word's partial quotients. Assumes nothing.
-- `spacing_end`: what the loop over the quotients comes to. `quotients_listed`, `quotients_refused`: what `euclid::quotients` leaves in a list of 64
-- places. `quotients_length`: how long the column is.
use mathlib.Core.Path.{◌≡◌, refl, sym, ap, ◌∙◌}
use mathlib.Core.List.{List, [], ◌∷◌, ◌++◌, append_assoc, append-nil}
use Prim.Native.Nat.{ℕ, zero, suc, ◌+◌, ◌-◌, ◌*◌, ◌/◌, ◌%◌, ◌^◌, ◌≤◌, ◌<◌}
use native.Mathlib.Omega.{arith}
use native.Mathlib.Nat.{mod-lt, div-le_self}
use lib.ListN.{length, get_or, take, drop, length-append}
use lib.Seq.{take_at}
use borrow.Author.Tests.{le-leb}
use Rattle.convergents.specs.Convergents.{euclid, quotients}
use Rattle.std.specs.Prelude.{Ok, Err}
use Rattle.slash.specs.Answers.{Outcome, done, ◌then◌}
use Rattle.slash.specs.Numbers.{pair_of}
use Rattle.slash.specs.Reading.{read_word}
use Rattle.slash.specs.declared.answer.Stop.{Stop}
use Rattle.slash.specs.declared.format.Format.{Format}
use Rattle.slash.specs.declared.number.Number.{Number}
use Rattle.slash.specs.declared.number.Value.{Value}
use Rattle.slash.proofs.AnswerLaws.{done_inj, no_stop}
use Rattle.slash.proofs.FormatLaws.{known_k}
use Rattle.slash.proofs.CanonicalLaws.{read_known}
use Rattle.euclid.specs.Quotients.{value_quotients, word_quotients, count_in, stored_in, quotient_count, quotients_after}
use Rattle.euclid.proofs.QuotientLaws.{quotients_at_most, value_quotients_lem}
use Rattle.text.specs.Numbers.{tab, decimal}
use Rattle.text.proofs.NumberLaws.{decimal_length}
use Rattle.text.proofs.ScanLaws.{drop_past}
use Rattle.text.proofs.PartLaws.{tail_is, drop_here}
use Rattle.inspect.specs.Columns.{behind_spaces, quotients_text}
use Rattle.inspect.specs.Steps.{Room, Added, column, quotients_column}
use Rattle.inspect.proofs.StoreLaws.{room_as, room_first}

-- ---- numbers, each behind a space

behind_step : (q : ℕ) (qs : List ℕ) → behind_spaces (q ∷ qs) ≡ (32 ∷ []) ++ decimal q ++ behind_spaces qs
unfolding behind_spaces
behind_step q qs = refl

behind_nil : behind_spaces [] ≡ []
unfolding behind_spaces
behind_nil = refl

pub record Spacing (o qs o' : List ℕ) (i : ℕ) : Type 0 where
  pub total : o ++ behind_spaces qs ≡ o' ++ behind_spaces (drop i qs)

module _ {o qs o' : List ℕ} {i : ℕ} (s : Spacing o qs o' i) where
  module _ (l : i < length qs) where
    pub spacing_here : (32 ∷ []) ++ decimal (get_or qs i 0) ++ behind_spaces (drop (i + 1) qs) ≡ behind_spaces (drop i qs)
    spacing_here = sym (ap behind_spaces (drop_here qs i l) ∙ behind_step (get_or qs i 0) (drop (i + 1) qs))

    pub spacing_room : Room o (behind_spaces qs) → Room o' ((32 ∷ []) ++ decimal (get_or qs i 0) ++ behind_spaces (drop (i + 1) qs))
    spacing_room r =
        record {
          room =
              omega (
                arith,
                r.room,
                ap length s.total,
                length-append o (behind_spaces qs),
                length-append o' (behind_spaces (drop i qs)),
                ap length spacing_here,
              );
        }

    pub spacing_first : Room o (behind_spaces qs) → Room o' (32 ∷ [])
    spacing_first r = let more : Room o' ((32 ∷ []) ++ (decimal (get_or qs i 0) ++ behind_spaces (drop (i + 1) qs))) = room_as (append_assoc (32 ∷ []) (decimal (get_or qs i 0)) (behind_spaces (drop (i + 1) qs))) (spacing_room r) in room_first _ more

    pub spacing_next : {o'' : List ℕ} → Added o' ((32 ∷ []) ++ decimal (get_or qs i 0)) o'' → Spacing o qs o'' (i + 1)
    spacing_next {o''} t =
        let text : List ℕ = (32 ∷ []) ++ decimal (get_or qs i 0) in
        let more : List ℕ = behind_spaces (drop (i + 1) qs) in
        record {
          total =
              s.total ∙ ap (λ (u : List ℕ). o' ++ u) (sym spacing_here) ∙ sym (append_assoc o' text more)
              ∙ ap (λ (u : List ℕ). u ++ more) (sym t.bytes);
        }

  pub spacing_end : i ≡ length qs → Added o (behind_spaces qs) o'
  spacing_end l =
      let none : behind_spaces (drop i qs) ≡ [] = ap behind_spaces (drop_past qs i (omega arith)) ∙ behind_nil in
      record { bytes = sym (s.total ∙ ap (λ (u : List ℕ). o' ++ u) none ∙ append-nil o') }

-- ---- the column of a list

pub list_none : (qs : List ℕ) → length qs < 1 → (9 ∷ 45 ∷ []) ≡ column (quotients_text qs)
unfolding column quotients_text
list_none [] e = refl
list_none (q ∷ qs) e = absurd (omega arith)

list_first : (qs : List ℕ) → (length qs ≡ 0 → ⊥) → tab ++ decimal (get_or qs 0 0) ++ behind_spaces (drop 1 qs) ≡ column (quotients_text qs)
unfolding column quotients_text
list_first [] e = absurd (e refl)
list_first (q ∷ qs) e = refl

-- the rest as code has it
pub list_some : (qs : List ℕ) → 1 ≤ length qs → tab ++ decimal (get_or qs 0 0) ++ behind_spaces (take (length qs - 1) (drop 1 qs)) ≡ column (quotients_text qs)
list_some qs l = ap (λ (rest : List ℕ). tab ++ decimal (get_or qs 0 0) ++ behind_spaces rest) (tail_is 1 qs) ∙ list_first qs (λ e. omega arith)

-- ---- what `euclid::quotients` leaves in a list of 64 places

pub quotients_few : (f : Format) (w : ℕ) (new : List ℕ) → word_quotients f w ≡ done new → length new ≤ 64
unfolding word_quotients
quotients_few f w new e = go (read_word f w) refl
  where
    go : (o : Outcome Number) → read_word f w ≡ o → length new ≤ 64
    go (Err t) r = absurd (no_stop (sym (ap (λ (o : Outcome Number). o then λ x. done (value_quotients x.value)) r) ∙ e))
    go (Ok x) r = omega (arith, quotients_at_most f w new e, known_k f (read_known f w x r))

module _ (f : Format) (w : ℕ) (old : List ℕ) (long : 64 ≡ length old) {r : Outcome ℕ} (h : r ≡ quotient_count f w old) where
  counted : (o : Outcome (List ℕ)) → word_quotients f w ≡ o → r ≡ (o then count_in old)
  unfolding quotient_count
  counted o e = h ∙ ap (λ (q : Outcome (List ℕ)). q then count_in old) e

  -- they fit
  fits : (new : List ℕ) → word_quotients f w ≡ done new → (r ≡ done (length new)) × (stored_in old new ≡ new ++ drop (length new) old)
  unfolding count_in stored_in
  fits new e =
      let l : length new ≤ length old = omega (arith, quotients_few f w new e) in
      (counted (done new) e ∙ rw (le-leb _ _ l) refl, rw (le-leb _ _ l) refl)

  pub quotients_refused : {s : Stop} → r ≡ Err s → [] ≡ quotients_column (word_quotients f w)
  unfolding quotients_column
  quotients_refused {s} e = go (word_quotients f w) refl
    where
      go : (o : Outcome (List ℕ)) → word_quotients f w ≡ o → [] ≡ quotients_column o
      go (Err t) q = refl
      go (Ok new) q = absurd (no_stop (sym e ∙ (fits new q).0))

  module _ {after : List ℕ} (a : after ≡ quotients_after (word_quotients f w) old) {n : ℕ} (e : r ≡ Ok n) where
    listed : (n ≤ length after) × (column (quotients_text (take n after)) ≡ quotients_column (word_quotients f w))
    unfolding quotients_column quotients_after
    listed = go (word_quotients f w) refl
      where
        go : (o : Outcome (List ℕ)) → word_quotients f w ≡ o → (n ≤ length after) × (column (quotients_text (take n after)) ≡ quotients_column (word_quotients f w))
        go (Err t) q = absurd (no_stop (sym (counted (Err t) q) ∙ e))
        go (Ok new) q =
            let b = fits new q in
            let size : n ≡ length new = done_inj (sym e ∙ b.0) in
            let all : after ≡ new ++ drop (length new) old = a ∙ ap (λ (o : Outcome (List ℕ)). quotients_after o old) q ∙ b.1 in
            let front : take n after ≡ new = ap (λ (j : ℕ). take j after) size ∙ ap (take (length new)) all ∙ take_at new (drop (length new) old) (length new) refl in (
              omega (arith, ap length all, length-append new (drop (length new) old)),
              ap (λ (l : List ℕ). column (quotients_text l)) front ∙ ap quotients_column (sym q),
            )

    pub quotients_within : n ≤ length after
    quotients_within = listed.0

    pub quotients_listed : column (quotients_text (take n after)) ≡ quotients_column (word_quotients f w)
    quotients_listed = listed.1

-- ---- how long the column is

behind_length : (steps n d : ℕ) → n < 2 ^ 32 → d < 2 ^ 32 → length (behind_spaces (euclid steps n d)) ≤ 11 * length (euclid steps n d)
unfolding euclid
behind_length zero n d h i = omega (arith, ap length behind_nil)
behind_length (suc steps) n zero h i = omega (arith, ap length behind_nil)
behind_length (suc steps) n (suc d) h i =
    let q : ℕ = n / suc d in
    let qs : List ℕ = euclid steps (suc d) (n % suc d) in
    let m : n % suc d < suc d = mod-lt n (omega arith) in
    let small : q ≤ n = div-le_self n (suc d) in
    let few : length (decimal q) ≤ 10 = decimal_length 9 q (omega (arith, small)) in
    omega (
      arith,
      ap length (behind_step q qs),
      length-append ((32 ∷ []) ++ decimal q) (behind_spaces qs),
      behind_length steps (suc d) (n % suc d) i (omega arith),
      few,
    )

text_length : (qs : List ℕ) → length (quotients_text qs) ≤ 1 + length (behind_spaces qs)
unfolding quotients_text
text_length [] = omega arith
text_length (q ∷ qs) = omega (arith, ap length (behind_step q qs), length-append ((32 ∷ []) ++ decimal q) (behind_spaces qs), length-append (decimal q) (behind_spaces qs))

pub quotients_length : (v : Value) → (pair_of v).numerator < 2 ^ 32 → (pair_of v).denominator < 2 ^ 32 → length (value_quotients v) ≤ 64
    → length (quotients_text (value_quotients v)) ≤ 705
unfolding quotients
quotients_length v h i few =
    let n : ℕ = (pair_of v).numerator in
    let d : ℕ = (pair_of v).denominator in
    let e : euclid d n d ≡ value_quotients v = value_quotients_lem v in
    omega (
      arith,
      text_length (value_quotients v),
      ap (λ (qs : List ℕ). length (behind_spaces qs)) e,
      ap length e,
      behind_length d n d h i,
    )
