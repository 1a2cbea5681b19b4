-- A printed word as a line. Assumes nothing.
-- `word_again`: the digits that are printed of a word, given as a line, say that word.
use mathlib.Core.Path.{◌≡◌, refl, sym, ap, ◌∙◌}
use mathlib.Core.Bool.{false}
use mathlib.Core.List.{List, [], ◌∷◌, ◌++◌}
use Prim.Native.Nat.{ℕ, zero, suc, ◌+◌, ◌*◌, ◌/◌, ◌%◌, ◌^◌, ◌≤◌, ◌<◌}
use native.Mathlib.Omega.{arith}
use native.Mathlib.Nat.{mod-lt, pow-suc}
use native.Mathlib.Decide.{dec_lt}
use lib.ListN.{length}
use lib.Pow.{pow_mono, pow-add}
use borrow.Author.Tests.{ne_eqb, le-leb, lt-leb, leb-false}
use Rattle.slash.specs.Answers.{done}
use Rattle.slash.specs.Formats.{width_of}
use Rattle.slash.specs.Reading.{is_above, read_word}
use Rattle.slash.specs.declared.format.Format.{Format}
use Rattle.slash.specs.declared.number.Number.{Number}
use Rattle.slash.proofs.CanonicalLaws.{read_known}
use Rattle.slash.proofs.FormatLaws.{width_range}
use Rattle.slash.proofs.ReadingLaws.{read_checked, checked_below}
use Rattle.text.specs.Numbers.{hex_digit, hexadecimal}
use Rattle.text.specs.Scan.{length_before}
use Rattle.text.proofs.NumberLaws.{hexadecimal_length}
use Rattle.text.proofs.ScanLaws.{before_step, before_nil}
use Rattle.inspect.specs.Columns.{digit_count}
use Rattle.inspect.specs.Says.{digit_value, digits_say, line_says}
use Rattle.inspect.specs.declared.said.Said.{Said}
use Rattle.inspect.proofs.StoreLaws.{digit_low, digit_high}
use Rattle.inspect.proofs.SaidLaws.{digits_nil, digits_more, digits_other, word_is, line_word}

-- ---- one digit

low : (d : ℕ) → d < 10 → digit_value (48 + d) ≡ d
unfolding digit_value
low d h =
    let i : 48 ≤ 48 + d = omega arith in
    let j : 48 + d ≤ 57 = omega arith in
    rw (le-leb _ _ i, le-leb _ _ j) (omega arith)

high : (d : ℕ) → 10 ≤ d → d < 16 → digit_value (87 + d) ≡ d
unfolding digit_value
high d h l =
    let i : 48 ≤ 87 + d = omega arith in
    let j : 57 < 87 + d = omega arith in
    let k : 97 ≤ 87 + d = omega arith in
    let m : 87 + d ≤ 102 = omega arith in
    rw (le-leb _ _ i, lt-leb _ _ j, le-leb _ _ k, le-leb _ _ m) (omega arith)

digit_again : (d : ℕ) → d < 16 → digit_value (hex_digit d) ≡ d
digit_again d h = go (dec_lt d 10)
  where
    go : Dec (d < 10) → digit_value (hex_digit d) ≡ d
    go (yes l) = ap digit_value (sym (digit_low d l)) ∙ low d l
    go (no l) = ap digit_value (sym (digit_high d (omega arith))) ∙ high d (omega arith) h

-- ---- digits

not_word : {u : ℕ} → Said.Other ≡ Said.Word u → ⊥
not_word e = let z : ◌≡◌ {A = ℕ} 0 1 = cc in omega arith

-- what says a word has a digit first
first_digit : (v x : ℕ) (xs : List ℕ) (u : ℕ) → digits_say v (x ∷ xs) ≡ Said.Word u → digit_value x < 16
first_digit v x xs u e = go (dec_lt (digit_value x) 16)
  where
    go : Dec (digit_value x < 16) → digit_value x < 16
    go (yes l) = l
    go (no l) = absurd (not_word (sym (digits_other v x xs (omega arith)) ∙ e))

-- one digit more
digits_last : (v : ℕ) (t : List ℕ) (u y : ℕ) → digits_say v t ≡ Said.Word u → digit_value y < 16 → digits_say v (t ++ (y ∷ [])) ≡ Said.Word (u * 16 + digit_value y)
digits_last v [] u y e l =
    let same : v ≡ u = cc (digits_nil v) in
    digits_more v y [] l ∙ digits_nil (v * 16 + digit_value y) ∙ ap (λ (n : ℕ). Said.Word (n * 16 + digit_value y)) same
digits_last v (x ∷ t) u y e l =
    let h = first_digit v x t u e in
    digits_more v x (t ++ (y ∷ [])) h ∙ digits_last (v * 16 + digit_value x) t u y (sym (digits_more v x t h) ∙ e) l

hex_again : (c n : ℕ) → n < 16 ^ c → digits_say 0 (hexadecimal c n) ≡ Said.Word n
unfolding hexadecimal
hex_again zero n h = let z : 0 ≡ n = omega arith in digits_nil 0 ∙ ap Said.Word z
hex_again (suc c) n h =
    let l : n / 16 < 16 ^ c = omega (arith, pow-suc 16 c) in
    let m : n % 16 < 16 = mod-lt n (omega arith) in
    let d : digit_value (hex_digit (n % 16)) ≡ n % 16 = digit_again (n % 16) m in
    digits_last 0 (hexadecimal c (n / 16)) (n / 16) (hex_digit (n % 16)) (hex_again c (n / 16) l) (omega (arith, d))
    ∙ ap Said.Word (ap (λ (y : ℕ). n / 16 * 16 + y) d ∙ omega arith)

-- ---- no space is among them

space_value : 16 ≤ digit_value 32
unfolding digit_value
space_value = omega arith

no_space : (v : ℕ) (t : List ℕ) (u : ℕ) → digits_say v t ≡ Said.Word u → length_before 32 t ≡ length t
no_space v [] u e = before_nil 32
no_space v (x ∷ t) u e =
    let h = first_digit v x t u e in
    let other : x ≡ 32 → ⊥ = λ s. omega (arith, space_value, ap digit_value s) in
    before_step 32 x t false (ne_eqb _ _ other) ∙ ap suc (no_space (v * 16 + digit_value x) t u (sym (digits_more v x t h) ∙ e))

-- ---- a word

-- a hexadecimal digit is four bits
four_bits : (c : ℕ) → 16 ^ c ≡ 2 ^ (4 * c)
four_bits zero = refl
four_bits (suc c) =
    let e : 4 * suc c ≡ 4 * c + 4 = omega arith in
    omega (arith, pow-suc 16 c, four_bits c, pow-add 2 (4 * c) 4, ap (λ (j : ℕ). 2 ^ j) e)

module _ (f : Format) (w : ℕ) (x : Number) (r : read_word f w ≡ done x) where
  below_width : w < 2 ^ width_of f
  unfolding is_above
  below_width = leb-false _ _ (checked_below f w (read_checked f w r))

  count_range : (1 ≤ digit_count f) × (digit_count f ≤ 16) × (width_of f ≤ 4 * digit_count f)
  unfolding digit_count
  count_range = omega (arith, width_range f (read_known f w x r))

  -- The digits that are printed of a word say that word.
  pub word_again : line_says (hexadecimal (digit_count f) w) ≡ Said.Word w
  word_again =
      let c : ℕ = digit_count f in
      let t : List ℕ = hexadecimal c w in
      let size : length t ≡ c = hexadecimal_length c w in
      let range = count_range in
      let wide : 2 ^ width_of f ≤ 2 ^ (4 * c) = pow_mono range.2 in
      let small : w < 16 ^ c = omega (arith, below_width, wide, four_bits c) in
      let says : digits_say 0 t ≡ Said.Word w = hex_again c w small in
      sym (line_word t (length t) (sym (no_space 0 t w says)) (omega (arith, size, range)) refl
      (sym says ∙ word_is t (omega (arith, size, range)) (omega (arith, size, range))))
