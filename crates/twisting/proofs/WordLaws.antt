-- What a twisted word has of the word that it was, by what that says. Assumes nothing.
-- `fields_twisted`: s, a and e stay, and the field is the twisted one. `numerator_masked`: the lowest k - 1 - e bits of the word are the numerator.
-- `denominator_turned`: the e bits above them are the denominator's, turned. `special_stays`: infinity and not-a-number stay, either way.
use mathlib.Core.Path.{◌≡◌, refl, sym, ap, ap₂, ◌∙◌, subst}
use mathlib.Core.Bool.{Bool, true, false}
use Prim.Native.Nat.{ℕ, ◌+◌, ◌-◌, ◌/◌, ◌%◌, ◌^◌, ◌≤◌, ◌<◌}
use native.Mathlib.Omega.{arith}
use native.Mathlib.Decide.{dec_le}
use native.Mathlib.Nat.{div-one}
use lib.Dec.{eqb}
use lib.Pow.{field, mod-mod-pow}
use borrow.Author.Tests.{eqb-true, eqb-false}
use Rattle.slash.specs.Answers.{done}
use Rattle.slash.specs.Bits.{bits, bit}
use Rattle.slash.specs.Formats.{slash_bits}
use Rattle.slash.specs.Numbers.{parts_of}
use Rattle.slash.specs.Reading.{slash_position, floating_fields, floating_fraction, floating_number, number_of}
use Rattle.slash.specs.declared.fields.FloatingFields.{FloatingFields}
use Rattle.slash.specs.declared.format.Format.{Format}
use Rattle.slash.specs.declared.number.Number.{Number}
use Rattle.slash.specs.declared.number.Parts.{Parts}
use Rattle.slash.specs.declared.number.Value.{Value}
use Rattle.slash.specs.declared.number.Value.TheVariants.{Fraction, Zero}
use Rattle.slash.proofs.FormatLaws.{known_k}
use Rattle.slash.proofs.ReadingLaws.{floating_zero, floating_fraction_lem, floating_number_lem, number_floating}
use Rattle.twisting.specs.Twisting.{turned, twisted_field, with_field, rearrange, twist_word}
use Rattle.twisting.specs.Steps.{Special}
use Rattle.twisting.proofs.TwistingLaws.{width, numerator_right, denominator_left, twisted_lt, field_lt, field_new, position_kept, bit_kept, rearranged_field, rearranged_special, floating_known, Made, rearrange_made}

-- ---- what a floating word says at a slash position of fractions

module _ (k w : ℕ) (h : slash_position k w ≤ k - 2) where
  -- its value is zero or a fraction, by its field
  said : {v : Value} → v ≡ floating_fraction (bit (k + slash_bits k) w) (slash_position k w) (bits 0 (k - 1) w) → v ≡ (floating_number k w).value
  said {v} e = floating_number_lem k w (slash_bits k) (bit (k + slash_bits k) w) (slash_position k w) (bits 0 (k - 1) w) v refl refl refl refl h e

  module _ (P : Value → Type 0)
      (of_zero : bits 0 (k - 1) w / 2 ^ slash_position k w ≡ 0 → P (Zero (bit (k + slash_bits k) w)))
      (of-fraction : P (Fraction (record { negative = bit (k + slash_bits k) w; numerator = bits 0 (k - 1) w / 2 ^ slash_position k w; denominator = bits 0 (k - 1) w % 2 ^ slash_position k w + 2 ^ slash_position k w }))) where
    by_field : P (floating_number k w).value
    by_field = go (eqb (bits 0 (k - 1) w / 2 ^ slash_position k w) 0) refl
      where
        go : (b : Bool) → eqb (bits 0 (k - 1) w / 2 ^ slash_position k w) 0 ≡ b → P (floating_number k w).value
        go true e =
            let z : bits 0 (k - 1) w / 2 ^ slash_position k w ≡ 0 = eqb-true _ _ e in
            subst P (said (floating_zero _ _ _ z)) (of_zero z)
        go false e = subst P (said (floating_fraction_lem _ _ _ (eqb-false _ _ e))) of-fraction

  numerator_is : (parts_of (floating_number k w).value).numerator ≡ bits 0 (k - 1) w / 2 ^ slash_position k w
  numerator_is = by_field (λ (v : Value). (parts_of v).numerator ≡ bits 0 (k - 1) w / 2 ^ slash_position k w) sym refl

  denominator_is : (p : Parts) → (floating_number k w).value ≡ Fraction p → p.denominator ≡ bits 0 (k - 1) w % 2 ^ slash_position k w + 2 ^ slash_position k w
  denominator_is = by_field (λ (v : Value). (p : Parts) → v ≡ Fraction p → p.denominator ≡ bits 0 (k - 1) w % 2 ^ slash_position k w + 2 ^ slash_position k w) (λ z p e. absurd (zero_no_fraction e)) (λ p e. sym (same_denominator e))
    where
      zero_no_fraction : {s : Bool} {p : Parts} → Zero s ≡ Fraction p → ⊥
      zero_no_fraction e = let z : ◌≡◌ {A = ℕ} 0 1 = cc in omega arith

      same_denominator : {x p : Parts} → Fraction x ≡ Fraction p → x.denominator ≡ p.denominator
      same_denominator {x} {p} e = let q : x ≡ p = cc in ap (λ (y : Parts). y.denominator) q

  not_special : Special (floating_number k w).value → ⊥
  unfolding Special
  not_special = by_field (λ (v : Value). Special v → ⊥) (λ z s. s) (λ s. s)

-- ---- the twisted word

module _ (f : Format) (w t : ℕ) (m : twist_word f w ≡ done t) (h : slash_position f.k w ≤ f.k - 2) where
  made : Made twisted_field f w t
  unfolding twist_word
  made = rearrange_made twisted_field f w m

  kind : f.kind ≡ 1 → ⊥
  kind = (floating_known f made.format_good).1

  few : slash_position f.k w + 2 ≤ f.k
  few = omega (arith, h, (known_k f (floating_known f made.format_good).0).0)

  new_lt : twisted_field f.k (slash_position f.k w) (bits 0 (f.k - 1) w) < 2 ^ (f.k - 1)
  new_lt = twisted_lt f.k (slash_position f.k w) few (bits 0 (f.k - 1) w) (field_lt f.k w)

  word_is : t ≡ with_field f.k w (twisted_field f.k (slash_position f.k w) (bits 0 (f.k - 1) w))
  word_is = made.made ∙ rearranged_field twisted_field f.k w h

  -- s, a and e stay
  pub fields_twisted : floating_fields f.k t ≡ record {
    negative = (floating_fields f.k w).negative;
    approximate = (floating_fields f.k w).approximate;
    position = (floating_fields f.k w).position;
    field = twisted_field f.k (floating_fields f.k w).position (floating_fields f.k w).field;
  }
  fields_twisted =
      let k : ℕ = f.k in
      let L : ℕ = slash_bits f.k in
      let sign : bit (k + L) t ≡ bit (k + L) w = ap₂ bit (omega (arith, few)) word_is ∙ bit_kept k w _ new_lt (L + 1) ∙ ap (λ (i : ℕ). bit i w) (omega (arith, few)) in
      let mark : bit (k + L - 1) t ≡ bit (k + L - 1) w = ap₂ bit (omega (arith, few)) word_is ∙ bit_kept k w _ new_lt L ∙ ap (λ (i : ℕ). bit i w) (omega (arith, few)) in
      let position : slash_position k t ≡ slash_position k w = ap (slash_position k) word_is ∙ position_kept k w _ new_lt in
      let field_is : bits 0 (k - 1) t ≡ twisted_field k (slash_position k w) (bits 0 (k - 1) w) = ap (bits 0 (k - 1)) word_is ∙ field_new k w _ new_lt in
      rw (sign, mark, position, field_is) refl

  -- the twisted field is what the word has below bit k - 1
  field_of : t % 2 ^ (slash_position f.k w + (f.k - 1 - slash_position f.k w)) ≡ twisted_field f.k (slash_position f.k w) (bits 0 (f.k - 1) w)
  unfolding bits
  field_of =
      let k : ℕ = f.k in
      let low_bits : t % 2 ^ (k - 1) ≡ bits 0 (k - 1) t = ap (λ (x : ℕ). x % 2 ^ (k - 1)) (sym (div-one t)) in
      ap (λ (i : ℕ). t % 2 ^ i) (sym (width k (slash_position k w) few (k - 1 - slash_position k w) refl)) ∙ low_bits ∙ ap (λ (x : FloatingFields). x.field) fields_twisted

  pub numerator_masked : t % 2 ^ (f.k - 1 - slash_position f.k w) ≡ (parts_of (number_of f w).value).numerator
  numerator_masked =
      let k : ℕ = f.k in
      let e : ℕ = slash_position f.k w in
      sym (mod-mod-pow t e (k - 1 - e)) ∙ ap (λ (x : ℕ). x % 2 ^ (k - 1 - e)) field_of
      ∙ numerator_right k e few (bits 0 (k - 1) w) (field_lt k w) ∙ sym (numerator_is k w h)
      ∙ ap (λ (x : Number). (parts_of x.value).numerator) (number_floating f w kind)

  pub denominator_turned : (p : Parts) → (number_of f w).value ≡ Fraction p
      → t / 2 ^ (f.k - 1 - slash_position f.k w) % 2 ^ slash_position f.k w ≡ turned (slash_position f.k w) (p.denominator - 2 ^ slash_position f.k w)
  denominator_turned p v =
      let k : ℕ = f.k in
      let e : ℕ = slash_position f.k w in
      let d : p.denominator ≡ bits 0 (k - 1) w % 2 ^ e + 2 ^ e = denominator_is k w h p (ap (λ (x : Number). x.value) (number_floating f w kind) ∙ v) in
      let rest : bits 0 (k - 1) w % 2 ^ e ≡ p.denominator - 2 ^ e = omega (arith, d) in
      sym (field t e (k - 1 - e)) ∙ ap (λ (x : ℕ). x / 2 ^ (k - 1 - e)) field_of
      ∙ denominator_left k e few (bits 0 (k - 1) w) (field_lt k w) ∙ ap (turned e) rest

-- ---- infinity and not-a-number

module _ (way : ℕ → ℕ → ℕ → ℕ) (f : Format) (w : ℕ) where
  pub special_stays : Special (number_of f w).value → {v : ℕ} → rearrange way f w ≡ done v → v ≡ w
  special_stays s e =
      let m = rearrange_made way f w e in
      let n : f.kind ≡ 1 → ⊥ = (floating_known f m.format_good).1 in
      let t : Special (floating_number f.k w).value = subst (λ (x : Number). Special x.value) (sym (number_floating f w n)) s in
      m.made ∙ rearranged_special way f.k w (go (dec_le (slash_position f.k w) (f.k - 2)) t)
    where
      go : Dec (slash_position f.k w ≤ f.k - 2) → Special (floating_number f.k w).value → f.k - 2 < slash_position f.k w
      go (yes h) t = absurd (not_special f.k w h t)
      go (no h) t = omega arith
