-- Negate and absolute value, of what the words say. Assumes nothing.
-- `sign_touched_lem`, `unary_sign`: the new word is read as the same number with the new sign.
use mathlib.Core.Path.{◌≡◌, refl, sym, ap, ap₂, ◌∙◌, subst}
use mathlib.Core.Bool.{Bool, true, false, true≢false}
use Prim.Native.Nat.{ℕ, ◌+◌, ◌-◌, ◌*◌, ◌/◌, ◌%◌, ◌^◌, ◌≤◌, ◌<◌}
use native.Mathlib.Omega.{arith}
use native.Mathlib.Nat.{mod-lt, mod-eq_of_lt}
use native.Mathlib.Decide.{ℕ_discrete}
use lib.Dec.{leb, eqb}
use lib.Arith.{digits_lt}
use lib.Pow.{pow_pos, pow_mono, high, low, field, mod-mod-pow}
use borrow.Author.Tests.{le-leb, lt-leb}
use Rattle.std.specs.Prelude.{if◌then◌else◌}
use Rattle.slash.specs.Answers.{Outcome, done, WhenDone}
use Rattle.slash.specs.Bits.{bits, bit, bit_of}
use Rattle.slash.specs.Formats.{known, slash_bits, width_of}
use Rattle.slash.specs.Reading.{fixed_value, fixed_number, slash_position, slash_undefined, floating_fraction, floating_special, floating_number, number_of, is_above, check_word, read_word}
use Rattle.slash.specs.Numbers.{is_nan}
use Rattle.slash.proofs.AnswerLaws.{done_inj, no_stop}
use Rattle.slash.proofs.BitLaws.{pow_next, bit_lt, bit_back}
use Rattle.slash.proofs.FormatLaws.{known_k, width_fixed, width_floating, width_range}
use Rattle.slash.proofs.ReadingLaws.{check_undefined, check_fixed, check_floating_lem, number_fixed, number_floating, checked_known, checked_below, checked_read, read_checked}
use Rattle.slash.specs.declared.format.Format.{Format}
use Rattle.slash.specs.declared.number.Value.{Value}
use Rattle.slash.specs.declared.number.Value.TheVariants.{Fraction, Zero, Infinity, NotANumber}
use Rattle.slash.specs.declared.number.Number.{Number}
use Rattle.unary.specs.Signs.{sign_bit, with_highest, new_sign, sign_touched}
use Rattle.unary.specs.Steps.{sign_in, with_sign}
use Rattle.unary.specs.Operations.{unary_result, unary_word}
use Rattle.unary.proofs.OperationLaws.{when_unary}

-- ---- the fields of a word with another highest bit

-- bits below `h` are those of what is left of a word there
same_bits : (h from count v w : ℕ) → from + count ≤ h → v % 2 ^ h ≡ w % 2 ^ h → bits from count v ≡ bits from count w
unfolding bits
same_bits h from count v w l e =
    let i : h - (count + from) + (count + from) ≡ h = omega arith in
    let cut : (n : ℕ) → n % 2 ^ h % 2 ^ (count + from) ≡ n % 2 ^ (count + from) =
    λ n. ap (λ (j : ℕ). n % 2 ^ j % 2 ^ (count + from)) (sym i) ∙ mod-mod-pow n (h - (count + from)) (count + from)
    in
    let g : v % 2 ^ (count + from) ≡ w % 2 ^ (count + from) =
    sym (cut v) ∙ ap (λ (n : ℕ). n % 2 ^ (count + from)) e ∙ cut w
    in
    sym (field v count from) ∙ ap (λ (n : ℕ). n / 2 ^ from) g ∙ field w count from

module _ (h : ℕ) (s : Bool) (w : ℕ) where
  rest : w % 2 ^ h < 2 ^ h
  rest = mod-lt w (pow_pos h)

  -- every bit below the highest is as it was
  pub kept_bits : (from count : ℕ) → from + count ≤ h → bits from count (with_highest h s w) ≡ bits from count w
  unfolding with_highest
  kept_bits from count l = same_bits h from count _ w l (low (bit_of s) h rest)

  pub kept_bit : (from : ℕ) → from < h → bit from (with_highest h s w) ≡ bit from w
  unfolding bit
  kept_bit from l = ap (λ (n : ℕ). eqb n 1) (kept_bits from 1 (omega arith))

  -- the highest is the new one, and there is none above it
  pub new_bit : bit h (with_highest h s w) ≡ s
  unfolding with_highest bits
  new_bit = bit_back s h (with_highest h s w) (ap (λ (n : ℕ). n % 2 ^ 1) (high (bit_of s) h rest) ∙ mod-eq_of_lt (bit_lt s))

  pub still_below : with_highest h s w < 2 ^ (h + 1)
  unfolding with_highest
  still_below = omega (arith, digits_lt (bit_lt s) rest, pow_next h)

-- ---- a value with another sign

-- the value y is x with the sign s, and x has the sign t where it has one
pub record Turned (s t : Bool) (x y : Value) : Type 0 where
  pub same : y ≡ with_sign s x
  pub sign : is_nan x ≡ false → sign_in x ≡ t

module _ (s t : Bool) where
  turned_either : (b : Bool) {x x' y y' : Value} → Turned s t x x' → Turned s t y y' → Turned s t (if b then x else y) (if b then x' else y')
  turned_either true a b = a
  turned_either false a b = b

  turned_zero : Turned s t (Zero t) (Zero s)
  unfolding with_sign sign_in
  turned_zero = record { same = refl; sign = λ _. refl }

  turned_infinity : Turned s t (Infinity t) (Infinity s)
  unfolding with_sign sign_in
  turned_infinity = record { same = refl; sign = λ _. refl }

  turned_nan : Turned s t NotANumber NotANumber
  unfolding with_sign is_nan
  turned_nan = record { same = refl; sign = λ e. absurd (true≢false e) }

  turned_fraction : (n d : ℕ) → Turned s t (Fraction (record { negative = t; numerator = n; denominator = d })) (Fraction (record { negative = s; numerator = n; denominator = d }))
  unfolding with_sign sign_in
  turned_fraction n d = record { same = refl; sign = λ _. refl }

  turned_fixed : (n d : ℕ) → Turned s t (fixed_value t n d) (fixed_value s n d)
  unfolding fixed_value
  turned_fixed n d =
      turned_either (eqb n 0) (turned_either (eqb (d % 2) 1) turned_zero turned_nan)
      (turned_either (eqb d 0) (turned_either (eqb (n % 2) 1) turned_infinity turned_nan) (turned_fraction n d))

  turned_floating : (b : Bool) (e f : ℕ)
      → Turned s t (if b then floating_fraction t e f else floating_special t f) (if b then floating_fraction s e f else floating_special s f)
  unfolding floating_fraction floating_special
  turned_floating b e f =
      turned_either b (turned_either (eqb (f / 2 ^ e) 0) turned_zero (turned_fraction (f / 2 ^ e) (f % 2 ^ e + 2 ^ e)))
      (turned_either (eqb (f % 2) 0) turned_infinity turned_nan)

-- ---- a good word with another sign

-- and a number: its mark is the same
pub record TurnedNumber (s t : Bool) (x y : Number) : Type 0 where
  pub value : Turned s t x.value y.value
  pub mark : y.approximate ≡ x.approximate

turned_number : (s t : Bool) (x y : Number) → TurnedNumber s t x y → y ≡ record { value = with_sign s x.value; approximate = x.approximate }
turned_number s t x y r = ap₂ (λ (v : Value) (a : Bool). record { value = v; approximate = a }) r.value.same r.mark

module _ (f : Format) (w : ℕ) (c : check_word f w ≡ done tt) (s : Bool) where
  abbrev new : ℕ
  new = with_highest (sign_bit f) s w

  abbrev T : Bool
  T = bit (sign_bit f) w

  h : known f ≡ true
  h = checked_known f w c

  within_still : is_above (width_of f) new ≡ false
  unfolding is_above sign_bit
  within_still =
      let l : sign_bit f + 1 ≤ width_of f = omega (arith, width_range f h) in
      let b : new < 2 ^ width_of f = omega (arith, still_below (sign_bit f) s w, pow_mono l) in
      lt-leb _ _ b

  module _ (e : f.kind ≡ 1) where
    place_fixed : sign_bit f ≡ 2 * f.k + 1
    unfolding sign_bit
    place_fixed = omega (arith, width_fixed f e)

    checked_fixed : check_word f new ≡ done tt
    checked_fixed = sym (check_fixed f new h within_still e)

    turned_word_fixed : TurnedNumber s T (fixed_number f.k w) (fixed_number f.k new)
    unfolding fixed_number
    turned_word_fixed =
        let k : ℕ = f.k in
        let p : sign_bit f ≡ 2 * k + 1 = place_fixed in
        let a : bit (2 * k + 1) new ≡ s = ap (λ (j : ℕ). bit j new) (sym p) ∙ new_bit (sign_bit f) s w in
        let b : bit (2 * k + 1) w ≡ T = ap (λ (j : ℕ). bit j w) (sym p) in
        let n : bits (k + 1) k new ≡ bits (k + 1) k w = kept_bits (sign_bit f) s w (k + 1) k (omega arith) in
        let d : bits 0 k new ≡ bits 0 k w = kept_bits (sign_bit f) s w 0 k (omega arith) in
        record { value = rw (a, b, n, d) (turned_fixed s T (bits (k + 1) k w) (bits 0 k w)); mark = kept_bit (sign_bit f) s w k (omega arith) }

  module _ (e : f.kind ≡ 1 → ⊥) where
    abbrev L : ℕ
    L = slash_bits f.k

    place_floating : sign_bit f ≡ f.k + L
    unfolding sign_bit
    place_floating = omega (arith, width_floating f e _ refl)

    position_kept : slash_position f.k new ≡ slash_position f.k w
    unfolding slash_position
    position_kept = kept_bits (sign_bit f) s w (f.k - 1) L (omega (arith, place_floating))

    defined : slash_undefined f.k w ≡ false
    defined = go (slash_undefined f.k w) refl
      where
        go : (b : Bool) → slash_undefined f.k w ≡ b → slash_undefined f.k w ≡ false
        go false u = u
        go true u = absurd (no_stop (check_undefined f w h (checked_below f w c) e u ∙ c))

    checked_floating : check_word f new ≡ done tt
    unfolding slash_undefined
    checked_floating = sym (check_floating_lem f new h within_still e (rw position_kept defined))

    turned_word_floating : TurnedNumber s T (floating_number f.k w) (floating_number f.k new)
    unfolding floating_number
    turned_word_floating =
        let k : ℕ = f.k in
        let two : 2 ≤ k = (known_k f h).0 in
        let p : sign_bit f ≡ k + L = place_floating in
        let a : bit (k + L) new ≡ s = ap (λ (j : ℕ). bit j new) (sym p) ∙ new_bit (sign_bit f) s w in
        let b : bit (k + L) w ≡ T = ap (λ (j : ℕ). bit j w) (sym p) in
        let q : slash_position k new ≡ slash_position k w = position_kept in
        let g : bits 0 (k - 1) new ≡ bits 0 (k - 1) w = kept_bits (sign_bit f) s w 0 (k - 1) (omega arith) in
        record {
          value = rw (a, b, q, g) (turned_floating s T (leb (slash_position k w) (k - 2)) (slash_position k w) (bits 0 (k - 1) w));
          mark = kept_bit (sign_bit f) s w (k + L - 1) (omega arith);
        }

  -- it is good too, and says the same number with that sign
  turned_checked : check_word f new ≡ done tt
  turned_checked = go (ℕ_discrete f.kind 1)
    where
      go : Dec (f.kind ≡ 1) → check_word f new ≡ done tt
      go (yes e) = checked_fixed e
      go (no e) = checked_floating e

  turned_word : TurnedNumber s T (number_of f w) (number_of f new)
  turned_word = go (ℕ_discrete f.kind 1)
    where
      go : Dec (f.kind ≡ 1) → TurnedNumber s T (number_of f w) (number_of f new)
      go (yes e) = rw (← number_fixed f w e, ← number_fixed f new e) (turned_word_fixed e)
      go (no e) = rw (← number_floating f w e, ← number_floating f new e) (turned_word_floating e)

-- Codes 1 and 2, of every format: what was read as a number is read as that number with the new sign, and with its mark.
pub sign_touched_lem : (f : Format) (code w : ℕ) (x : Number) → read_word f w ≡ done x → is_nan x.value ≡ false
    → read_word f (sign_touched f code w) ≡ done (record { value = with_sign (new_sign code (sign_in x.value)) x.value; approximate = x.approximate })
unfolding sign_touched
sign_touched_lem f code w x r n =
    let c : check_word f w ≡ done tt = read_checked f w r in
    let X : Number = number_of f w in
    let e : X ≡ x = done_inj (sym (checked_read f w c) ∙ r) in
    let t : Bool = bit (sign_bit f) w in
    let s : Bool = new_sign code t in
    let T : TurnedNumber s t X (number_of f (with_highest (sign_bit f) s w)) = turned_word f w c s in
    let g : sign_in x.value ≡ t = subst (λ (y : Number). is_nan y.value ≡ false → sign_in y.value ≡ t) e T.value.sign n in
    checked_read f _ (turned_checked f w c s)
    ∙ ap done (turned_number s t X _ T ∙ rw (e, g) refl)

-- So of what `unary` makes by them.
pub unary_sign : (f : Format) (code w v : ℕ) (x : Number) → code ≤ 2 → read_word f w ≡ done x → is_nan x.value ≡ false → unary_word f code w ≡ done v
    → read_word f v ≡ done (record { value = with_sign (new_sign code (sign_in x.value)) x.value; approximate = x.approximate })
unfolding unary_result
unary_sign f code w v x l r n e = subst (λ (o : Outcome ℕ). WhenDone o Says) e (when_unary f code w Says good)
  where
    Says : ℕ → Type 0
    Says u = read_word f u ≡ done (record { value = with_sign (new_sign code (sign_in x.value)) x.value; approximate = x.approximate })

    good : check_word f w ≡ done tt → Says (unary_result f code w (number_of f w))
    good c =
        let same : number_of f w ≡ x = done_inj (sym (checked_read f w c) ∙ r) in
        rw (same, le-leb code 2 l, n) (sign_touched_lem f code w x r n)
