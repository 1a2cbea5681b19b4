-- The text of an inspected word. Assumes nothing.
-- `columns_pieces`: the columns as `put_columns` stores them. `inspected_stop`, `inspected_done`: the text by what reading a word comes to.
-- `inspected_length`: it has at most 1024 bytes.
use mathlib.Core.Path.{◌≡◌, refl, sym, ap, ◌∙◌, subst}
use mathlib.Core.Bool.{true}
use mathlib.Core.Logic.{⊎_elim}
use mathlib.Core.List.{List, ◌++◌}
use Prim.Native.Nat.{ℕ, ◌+◌, ◌/◌, ◌^◌, ◌≤◌, ◌<◌}
use native.Mathlib.Omega.{arith}
use lib.ListN.{length, length-append}
use Rattle.std.specs.Prelude.{Ok, Err, IsOk}
use Rattle.slash.specs.Answers.{Outcome, stop, done, ◌then◌}
use Rattle.slash.specs.Formats.{known, of_known, width_of}
use Rattle.slash.specs.Numbers.{parts_of, pair_of}
use Rattle.slash.specs.Reading.{read_word}
use Rattle.slash.specs.declared.answer.Stop.{Stop}
use Rattle.slash.specs.declared.format.Format.{Format}
use Rattle.slash.specs.declared.number.Number.{Number}
use Rattle.slash.specs.declared.number.Parts.{Parts}
use Rattle.slash.proofs.AnswerLaws.{done_inj}
use Rattle.slash.proofs.FormatLaws.{of_known_lem, width_range, largest_below}
use Rattle.slash.proofs.ReadingLaws.{read_stops}
use Rattle.slash.proofs.CanonicalLaws.{held_most, read_known, read_held}
use Rattle.euclid.specs.Quotients.{value_quotients, word_quotients}
use Rattle.text.specs.Numbers.{line_feed}
use Rattle.text.specs.Lines.{refused_line}
use Rattle.text.proofs.LineLaws.{refused_most}
use Rattle.inspect.specs.Columns.{digit_count, size_text, quotients_text}
use Rattle.inspect.specs.Words.{columns, read_text, inspected_text}
use Rattle.inspect.specs.Steps.{column, stored_columns, quotients_column}
use Rattle.inspect.proofs.ColumnLaws.{column_length, size_length, stored_long}
use Rattle.inspect.proofs.QuotientLaws.{quotients_few, quotients_length}

-- ---- how many digits

module _ (f : Format) (h : known f ≡ true) {r : Outcome ℕ} (e : r ≡ of_known f (width_of f)) where
  width_done : r ≡ Ok (width_of f)
  width_done = e ∙ sym (of_known_lem f (width_of f) h)

  pub width_known : IsOk r
  width_known = subst (λ (o : Outcome ℕ). IsOk o) (sym width_done) refl

  width_is : {n : ℕ} → r ≡ Ok n → n ≡ width_of f
  width_is g = done_inj (sym g ∙ width_done)

  pub width_small : {n : ℕ} → r ≡ Ok n → n < 65
  width_small g = omega (arith, width_is g, width_range f h)

  pub digit_count_lem : {n : ℕ} → r ≡ Ok n → (n + 3) / 4 ≡ digit_count f
  unfolding digit_count
  digit_count_lem g = ap (λ (m : ℕ). (m + 3) / 4) (width_is g)

-- ---- a word that was read

module _ (f : Format) (w : ℕ) (x : Number) (r : read_word f w ≡ done x) where
  quotients_read : word_quotients f w ≡ done (value_quotients x.value)
  unfolding word_quotients
  quotients_read = ap (λ (o : Outcome Number). o then λ y. done (value_quotients y.value)) r

  pair_small : ((pair_of x.value).numerator < 2 ^ 32) × ((pair_of x.value).denominator < 2 ^ 32)
  pair_small =
      let h = read_known f w x r in
      omega (arith, held_most f h x.value (read_held f h w x r), largest_below f h)

  pub parts_small : (p : Parts) → p ≡ parts_of x.value → (p.numerator < 2 ^ 32) × (p.denominator < 2 ^ 32)
  unfolding pair_of
  parts_small p e = subst (λ (q : Parts). (q.numerator < 2 ^ 32) × (q.denominator < 2 ^ 32)) (sym e) pair_small

  -- its columns by their pieces
  pub columns_pieces : (p : Parts) → p ≡ parts_of x.value → (count : ℕ) → count ≡ digit_count f
      → stored_columns count w p x.approximate ++ column (size_text p.numerator p.denominator) ++ quotients_column (word_quotients f w) ++ line_feed
      ≡ columns f w x ++ line_feed
  unfolding columns stored_columns column quotients_column
  columns_pieces p e count g = rw (e, g, quotients_read) refl

  quotients_column_lem : length (quotients_column (word_quotients f w)) ≤ 706
  unfolding quotients_column
  quotients_column_lem =
      let few : length (value_quotients x.value) ≤ 64 = quotients_few f w _ quotients_read in
      omega (
        arith,
        ap (λ (o : Outcome (List ℕ)). length (quotients_column o)) quotients_read,
        column_length (quotients_text (value_quotients x.value)),
        quotients_length x.value pair_small.0 pair_small.1 few,
      )

  count_small : digit_count f ≤ 16
  unfolding digit_count
  count_small = omega (arith, width_range f (read_known f w x r))

  columns_length : length (columns f w x ++ line_feed) ≤ 1024
  columns_length =
      let p : Parts = parts_of x.value in
      let s : List ℕ = stored_columns (digit_count f) w p x.approximate in
      let z : List ℕ = column (size_text p.numerator p.denominator) in
      let q : List ℕ = quotients_column (word_quotients f w) in
      let small = parts_small p refl in
      omega (
        arith,
        ap length (columns_pieces p refl (digit_count f) refl),
        length-append (s ++ z ++ q) line_feed,
        length-append (s ++ z) q,
        length-append s z,
        stored_long (digit_count f) w p x.approximate small.0 small.1,
        column_length (size_text p.numerator p.denominator),
        size_length p.numerator p.denominator small.0,
        quotients_column_lem,
        count_small,
      )

-- ---- the text, by what reading a word comes to

module _ (f : Format) (line w : ℕ) {r : Outcome Number} (h : r ≡ read_word f w) where
  pub inspected_stop : {s : Stop} → r ≡ Err s → refused_line s.number line ≡ inspected_text f line w
  unfolding inspected_text read_text
  inspected_stop e = ap (read_text f line w) (sym e ∙ h)

  pub inspected_read : {x : Number} → r ≡ Ok x → read_word f w ≡ done x
  inspected_read e = sym h ∙ e

  pub inspected_done : {x : Number} → r ≡ Ok x → columns f w x ++ line_feed ≡ inspected_text f line w
  unfolding inspected_text read_text
  inspected_done e = ap (read_text f line w) (sym e ∙ h)

stop_small : (f : Format) (w n p : ℕ) → read_word f w ≡ stop n p → n < 2 ^ 64
stop_small f w n p r = ⊎_elim (λ e. omega arith) (⊎_elim (λ e. omega arith) (λ e. omega arith)) (read_stops f w r).0

pub inspected_length : (f : Format) (line w : ℕ) → line < 2 ^ 64 → length (inspected_text f line w) ≤ 1024
unfolding inspected_text read_text
inspected_length f line w l = go (read_word f w) refl
  where
    go : (o : Outcome Number) → read_word f w ≡ o → length (read_text f line w o) ≤ 1024
    go (Err s) r = omega (arith, refused_most s.number line (stop_small f w s.number s.place r) l)
    go (Ok x) r = columns_length f w x r
