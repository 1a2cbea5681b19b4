-- Reading a word, one law for each way through the code: a fixed and a floating word give their fields and their number; the checks give
-- the stops 1, 4 and 5 in this order, and no others (`read_stops`); what `check` finds good is what `read_word` reads (`checked_read`). Assumes nothing.
use mathlib.Core.Path.{◌≡◌, refl, sym, ap, ◌∙◌}
use mathlib.Core.Bool.{Bool, true, false, ◌&&◌, not}
use mathlib.Core.Logic.{◌⊎◌, inl, inr}
use Prim.Native.Nat.{ℕ, ◌+◌, ◌-◌, ◌*◌, ◌/◌, ◌%◌, ◌^◌, ◌≤◌, ◌<◌}
use native.Mathlib.Omega.{arith}
use native.Mathlib.Nat.{le-div_iff_mul-le, div-lt_iff_lt-mul, div-add-mod', mod-eq_of_lt}
use lib.Dec.{leb, eqb}
use lib.Pow.{pow_pos, shr-shr}
use borrow.Author.Tests.{le-leb, lt-leb, leb-true, leb-false, eq-eqb, ne_eqb}
use Rattle.std.specs.Prelude.{if◌then◌else◌}
use Rattle.std.specs.Prelude.{Ok, Err}
use Rattle.slash.specs.Answers.{Outcome, stop, done, ◌then◌}
use Rattle.slash.specs.Reading.{fixed_value, fixed_number, slash_position, slash_undefined, floating_fraction, floating_special, floating_number, number_of, is_above, check_word, good_word, checked_word, read_word, fields_of, number_in, fields_in, fixed_fields, floating_fields}
use Rattle.slash.specs.Bits.{bits, bit}
use Rattle.slash.specs.Formats.{is_fixed, k_fits, known, check_format, slash_bits, width_of}
use Rattle.slash.specs.declared.answer.Stop.{Stop}
use Rattle.slash.specs.declared.fields.Fields.TheVariants.{Fixed, Floating}
use Rattle.slash.specs.declared.format.Format.{Format}
use Rattle.slash.specs.declared.number.Value.{Value}
use Rattle.slash.specs.declared.number.Value.TheVariants.{Fraction, Zero, Infinity, NotANumber}
use Rattle.slash.specs.declared.number.Number.{Number}
use Rattle.slash.specs.declared.reading.GoodWord.{GoodWord}
use Rattle.slash.proofs.AnswerLaws.{done_inj, stop_inj, no_stop, then_stop, then_stopped, then_made}
use Rattle.slash.proofs.BitLaws.{pow_before}
use Rattle.slash.proofs.FormatLaws.{format_good, good_known, known_fits}

-- ---- fixed words

module _ (s : Bool) (n d : ℕ) where
  pub fixed_zero : n ≡ 0 → d % 2 ≡ 1 → Zero s ≡ fixed_value s n d
  unfolding fixed_value
  fixed_zero h g = rw (eq-eqb _ _ h, eq-eqb _ _ g) refl

  pub fixed_nan_zero : n ≡ 0 → (d % 2 ≡ 1 → ⊥) → NotANumber ≡ fixed_value s n d
  unfolding fixed_value
  fixed_nan_zero h g = rw (eq-eqb _ _ h, ne_eqb _ _ g) refl

  pub fixed_infinity : (n ≡ 0 → ⊥) → d ≡ 0 → n % 2 ≡ 1 → Infinity s ≡ fixed_value s n d
  unfolding fixed_value
  fixed_infinity h g e = rw (ne_eqb _ _ h, eq-eqb _ _ g, eq-eqb _ _ e) refl

  pub fixed_nan_infinity : (n ≡ 0 → ⊥) → d ≡ 0 → (n % 2 ≡ 1 → ⊥) → NotANumber ≡ fixed_value s n d
  unfolding fixed_value
  fixed_nan_infinity h g e = rw (ne_eqb _ _ h, eq-eqb _ _ g, ne_eqb _ _ e) refl

  pub fixed_fraction : (n ≡ 0 → ⊥) → (d ≡ 0 → ⊥) → Fraction (record { negative = s; numerator = n; denominator = d }) ≡ fixed_value s n d
  unfolding fixed_value
  fixed_fraction h g = rw (ne_eqb _ _ h, ne_eqb _ _ g) refl

-- the sign lies k bits above the numerator's lowest
sign_bit : (k w : ℕ) → bit k (w / 2 ^ (k + 1)) ≡ bit (2 * k + 1) w
unfolding bit bits
sign_bit k w =
    let e : k + 1 + k ≡ 2 * k + 1 = omega arith in
    let h : w / 2 ^ (k + 1) / 2 ^ k ≡ w / 2 ^ (2 * k + 1) = shr-shr w (k + 1) k ∙ ap (λ (j : ℕ). w / 2 ^ j) e in
    ap (λ (x : ℕ). eqb (x % 2 ^ 1) 1) h

pub fixed_number_lem : (k w : ℕ) (s : Bool) (n d : ℕ) (v : Value) → s ≡ bit k (w / 2 ^ (k + 1)) → n ≡ bits (k + 1) k w → d ≡ bits 0 k w
    → v ≡ fixed_value s n d → v ≡ (fixed_number k w).value
unfolding fixed_number
fixed_number_lem k w s n d v se ne de ve = rw (ve, se, sign_bit k w, ne, de) refl

pub fixed_fields_lem : (k w : ℕ) {s a : Bool} {n d : ℕ} → s ≡ bit (2 * k + 1) w → n ≡ bits (k + 1) k w → a ≡ bit k w → d ≡ bits 0 k w
    → record { negative = s; numerator = n; approximate = a; denominator = d } ≡ fixed_fields k w
fixed_fields_lem k w se ne ae de = rw (se, ne, ae, de) refl

-- ---- floating words

pub floating_fields_are : (k w : ℕ) {l e f : ℕ} {s a : Bool} → l ≡ slash_bits k → s ≡ bit (k + l) w → a ≡ bit (k + l - 1) w → e ≡ slash_position k w
    → f ≡ bits 0 (k - 1) w → record { negative = s; approximate = a; position = e; field = f } ≡ floating_fields k w
floating_fields_are k w le se ae ee fe = rw (se, ae, ee, fe, le) refl

pub slash_is : (k w l r : ℕ) → l ≡ slash_bits k → r ≡ bits (k - 1) l w → r ≡ slash_position k w
unfolding slash_position
slash_is k w l r le e = e ∙ rw le refl

module _ (k w e : ℕ) (h : e ≡ slash_position k w) where
  pub undefined_is : (l p : ℕ) → l ≡ slash_bits k → p ≡ 2 ^ l → (leb (k - 1) e && leb e (p - 2)) ≡ slash_undefined k w
  unfolding slash_undefined
  undefined_is l p le pe = rw (← h, pe, le) refl

  pub undefined_below : e < k - 1 → false ≡ slash_undefined k w
  unfolding slash_undefined
  undefined_below l = rw (← h, lt-leb _ _ l) refl

module _ (s : Bool) (e f : ℕ) where
  pub floating_zero : f / 2 ^ e ≡ 0 → Zero s ≡ floating_fraction s e f
  unfolding floating_fraction
  floating_zero g = rw (eq-eqb _ _ g) refl

  pub floating_fraction_lem : (f / 2 ^ e ≡ 0 → ⊥) → Fraction (record { negative = s; numerator = f / 2 ^ e; denominator = f % 2 ^ e + 2 ^ e }) ≡ floating_fraction s e f
  unfolding floating_fraction
  floating_fraction_lem g = rw (ne_eqb _ _ g) refl

  -- the code takes all of f but n - 1 times 2^e away, n the numerator
  module _ (g : f / 2 ^ e ≡ 0 → ⊥) where
    whole : f ≡ (f / 2 ^ e - 1) * 2 ^ e + 2 ^ e + f % 2 ^ e
    whole =
        let i : f / 2 ^ e ≡ f / 2 ^ e - 1 + 1 = omega arith in
        omega (arith, div-add-mod' f (2 ^ e), ap (λ (n : ℕ). n * 2 ^ e) i)

    module _ (l : f < 2 ^ 31) where
      shifted : (f / 2 ^ e - 1) * 2 ^ e % 2 ^ 64 ≡ (f / 2 ^ e - 1) * 2 ^ e
      shifted = mod-eq_of_lt (omega (arith, whole))

      pub parted_most : (f / 2 ^ e - 1) * 2 ^ e % 2 ^ 64 ≤ f
      parted_most = omega (arith, whole, shifted)

      pub parted_fraction : Fraction (record { negative = s; numerator = f / 2 ^ e; denominator = f - (f / 2 ^ e - 1) * 2 ^ e % 2 ^ 64 }) ≡ floating_fraction s e f
      unfolding floating_fraction
      parted_fraction =
          let d : f - (f / 2 ^ e - 1) * 2 ^ e % 2 ^ 64 ≡ f % 2 ^ e + 2 ^ e = omega (arith, whole, shifted) in
          rw (d, ne_eqb _ _ g) refl

module _ (s : Bool) (f : ℕ) where
  pub special_infinity : f % 2 ≡ 0 → Infinity s ≡ floating_special s f
  unfolding floating_special
  special_infinity h = rw (eq-eqb _ _ h) refl

  pub special_nan : (f % 2 ≡ 0 → ⊥) → NotANumber ≡ floating_special s f
  unfolding floating_special
  special_nan h = rw (ne_eqb _ _ h) refl

module _ (k w l : ℕ) (s : Bool) (e f : ℕ) (v : Value) (le : l ≡ slash_bits k) (se : s ≡ bit (k + l) w)
    (ee : e ≡ slash_position k w) (fe : f ≡ bits 0 (k - 1) w) where
  pub floating_number_lem : e ≤ k - 2 → v ≡ floating_fraction s e f → v ≡ (floating_number k w).value
  unfolding floating_number
  floating_number_lem h ve = rw (← le, ← se, ← ee, ← fe, le-leb _ _ h, ve) refl

  pub floating_special_lem : k - 2 < e → v ≡ floating_special s f → v ≡ (floating_number k w).value
  unfolding floating_number
  floating_special_lem h ve = rw (← le, ← se, ← ee, ← fe, lt-leb _ _ h, ve) refl

pub floating_mark : (k w l : ℕ) (a : Bool) → l ≡ slash_bits k → a ≡ bit (k + l - 1) w → a ≡ (floating_number k w).approximate
unfolding floating_number
floating_mark k w l a le e = rw (← le, e) refl

-- ---- checks

pub above_is : (width w : ℕ) → 0 < width → leb 2 (w / 2 ^ (width - 1)) ≡ is_above width w
unfolding is_above
above_is width w h = go (leb 2 (w / 2 ^ (width - 1))) refl
  where
    go : (b : Bool) → leb 2 (w / 2 ^ (width - 1)) ≡ b → leb 2 (w / 2 ^ (width - 1)) ≡ leb (2 ^ width) w
    go true e =
        let l : 2 ^ width ≤ w =
        omega (arith, pow_before width h, (le-div_iff_mul-le {k = 2 ^ (width - 1)} {x = 2} {y = w} (pow_pos (width - 1))).0 (leb-true _ _ e))
        in
        e ∙ sym (le-leb _ _ l)
    go false e =
        let l : w < 2 ^ width =
        omega (arith, pow_before width h, (div-lt_iff_lt-mul {k = 2 ^ (width - 1)} {x = w} {y = 2} (pow_pos (width - 1))).0 (leb-false _ _ e))
        in
        e ∙ sym (lt-leb _ _ l)

-- what `is_above` answers of the width that `word_bits` gives
pub above_case : (f : Format) (w width : ℕ) (b : Bool) {c : Bool} → width ≡ width_of f → b ≡ is_above width w → b ≡ c → is_above (width_of f) w ≡ c
above_case f w width b e h g = ap (λ (j : ℕ). is_above j w) (sym e) ∙ sym h ∙ g

-- a word's check by its three tests: the format is known, bits above the width, an undefined slash position
abbrev check_by : (a b c : Bool) → Outcome (Unit {0})
check_by a b c =
    let format : Outcome (Unit {0}) = if a then done tt else stop 1 0 in
    format then λ _. if b then stop 4 0 else if c then stop 5 0 else done tt

module _ (f : Format) (w : ℕ) where
  -- the answers of `check`
  pub check_refused : {s : Stop} → Err s ≡ check_format f → Err s ≡ check_word f w
  unfolding check_word
  check_refused e = then_stop _ e

  module _ (h : known f ≡ true) where
    pub check_above : is_above (width_of f) w ≡ true → stop 4 0 ≡ check_word f w
    unfolding check_word
    check_above g = rw (format_good f h, g) refl

    module _ (g : is_above (width_of f) w ≡ false) where
      pub check_fixed : f.kind ≡ 1 → done tt ≡ check_word f w
      unfolding check_word
      check_fixed e = rw (format_good f h, g, eq-eqb _ _ e) refl

      pub check_undefined : (f.kind ≡ 1 → ⊥) → slash_undefined f.k w ≡ true → stop 5 0 ≡ check_word f w
      unfolding check_word
      check_undefined n u = rw (format_good f h, g, ne_eqb _ _ n, u) refl

      pub check_floating_lem : (f.kind ≡ 1 → ⊥) → slash_undefined f.k w ≡ false → done tt ≡ check_word f w
      unfolding check_word
      check_floating_lem n u = rw (format_good f h, g, ne_eqb _ _ n, u) refl

  pub number_fixed : f.kind ≡ 1 → fixed_number f.k w ≡ number_of f w
  unfolding number_of
  number_fixed e = rw (eq-eqb _ _ e) refl

  pub number_floating : (f.kind ≡ 1 → ⊥) → floating_number f.k w ≡ number_of f w
  unfolding number_of
  number_floating n = rw (ne_eqb _ _ n) refl

  -- what `value` and `is_approximate` go by
  pub number_unfit : k_fits f ≡ false → record { value = NotANumber; approximate = false } ≡ number_in f w
  unfolding number_in
  number_unfit h = rw h refl

  number_fit : k_fits f ≡ true → number_of f w ≡ number_in f w
  unfolding number_in
  number_fit h = rw h refl

  pub fixed_fits : k_fits f ≡ true → f.kind ≡ 1 → fixed_number f.k w ≡ number_in f w
  fixed_fits h e = number_fixed e ∙ number_fit h

  pub floating_fits : k_fits f ≡ true → (f.kind ≡ 1 → ⊥) → floating_number f.k w ≡ number_in f w
  floating_fits h n = number_floating n ∙ number_fit h

  -- and `fields`
  pub fields_unfit : k_fits f ≡ false → Fixed (record { negative = false; numerator = 0; approximate = false; denominator = 0 }) ≡ fields_in f w
  unfolding fields_in
  fields_unfit h = rw h refl

  pub fields_fixed : k_fits f ≡ true → f.kind ≡ 1 → Fixed (fixed_fields f.k w) ≡ fields_in f w
  unfolding fields_in fields_of
  fields_fixed h e = rw (h, eq-eqb _ _ e) refl

  pub fields_floating : k_fits f ≡ true → (f.kind ≡ 1 → ⊥) → Floating (floating_fields f.k w) ≡ fields_in f w
  unfolding fields_in fields_of
  fields_floating h n = rw (h, ne_eqb _ _ n) refl

  -- a word that is checked
  module _ (c : check_word f w ≡ done tt) where
    pub checked_known : known f ≡ true
    checked_known = go (check_format f) refl
      where
        go : (o : Outcome (Unit {0})) → check_format f ≡ o → known f ≡ true
        go (Ok u) e = good_known f (sym e)
        go (Err t) e = absurd (no_stop (check_refused (sym e) ∙ c))

    -- it has no bit above its width
    pub checked_below : is_above (width_of f) w ≡ false
    checked_below = go (is_above (width_of f) w) refl
      where
        go : (b : Bool) → is_above (width_of f) w ≡ b → is_above (width_of f) w ≡ false
        go false g = g
        go true g = absurd (no_stop (check_above checked_known g ∙ c))

    pub checked_number : number_in f w ≡ number_of f w
    checked_number = sym (number_fit (known_fits f checked_known))

    pub checked_fields : fields_in f w ≡ fields_of f w
    unfolding fields_in
    checked_fields = rw (known_fits f checked_known) refl

    pub checked_read : read_word f w ≡ done (number_of f w)
    unfolding read_word
    checked_read = rw c refl

    pub checked_done : (v : Value) (a : Bool) → v ≡ (number_in f w).value → a ≡ (number_in f w).approximate
        → done (record { value = v; approximate = a }) ≡ read_word f w
    checked_done v a ve ae = rw (ve, ae) (ap done checked_number ∙ sym checked_read)

  -- and one that was read was checked
  pub read_checked : {x : Number} → read_word f w ≡ done x → check_word f w ≡ done tt
  unfolding read_word
  read_checked {x} r = go (check_word f w) refl
    where
      go : (o : Outcome (Unit {0})) → check_word f w ≡ o → check_word f w ≡ done tt
      go (Err t) e = absurd (no_stop (sym (ap (λ (q : Outcome (Unit {0})). q then λ _. done (number_of f w)) e) ∙ r))
      go (Ok u) e = e

  -- no other numbers than 1, 4 and 5 stop a word, and no place is told
  pub read_stops : {n p : ℕ} → read_word f w ≡ stop n p → ((n ≡ 1) ⊎ ((n ≡ 4) ⊎ (n ≡ 5))) × (p ≡ 0)
  unfolding read_word check_word check_format
  read_stops {n} {p} = go (known f) (is_above (width_of f) w) (not (is_fixed f) && slash_undefined f.k w)
    where
      go : (a b c : Bool) → (check_by a b c then λ _. done (number_of f w)) ≡ stop n p → ((n ≡ 1) ⊎ ((n ≡ 4) ⊎ (n ≡ 5))) × (p ≡ 0)
      go false b c e = let s = stop_inj e in (inl (sym s.0), sym s.1)
      go true true c e = let s = stop_inj e in (inr (inl (sym s.0)), sym s.1)
      go true false true e = let s = stop_inj e in (inr (inr (sym s.0)), sym s.1)
      go true false false e = absurd (no_stop (sym e))

-- what `check` answered, by its case: the word is read so
module _ (f : Format) (w : ℕ) {r : Outcome GoodWord} (h : r ≡ checked_word f w) where
  pub check_stop : {s : Stop} → r ≡ Err s → Err s ≡ check_word f w
  check_stop e = then_stopped (good_word f w) (check_word f w) (sym e ∙ h)

  pub check_stopped : {s : Stop} → r ≡ Err s → Err s ≡ read_word f w
  unfolding read_word
  check_stopped e = then_stop (λ _. done (number_of f w)) (check_stop e)

  pub check_good : {g : GoodWord} → r ≡ Ok g → check_word f w ≡ done tt
  check_good e = then_made (good_word f w) (check_word f w) (sym e ∙ h)

  -- and it is the word that was checked
  pub check_same : {g : GoodWord} → r ≡ Ok g → g ≡ good_word f w
  check_same e = done_inj (sym e ∙ h ∙ ap (λ (o : Outcome (Unit {0})). o then λ _. done (good_word f w)) (check_good e))

  pub check_number : {g : GoodWord} → r ≡ Ok g → number_in g.format g.word ≡ number_in f w
  check_number e = ap (λ (x : GoodWord). number_in x.format x.word) (check_same e)

  pub check_value : {g : GoodWord} → r ≡ Ok g → {v : Value} → v ≡ (number_in g.format g.word).value → v ≡ (number_in f w).value
  check_value e ve = ve ∙ ap (λ (x : Number). x.value) (check_number e)

  pub check_mark : {g : GoodWord} → r ≡ Ok g → {a : Bool} → a ≡ (number_in g.format g.word).approximate → a ≡ (number_in f w).approximate
  check_mark e ae = ae ∙ ap (λ (x : Number). x.approximate) (check_number e)

  pub check_read : {g : GoodWord} → r ≡ Ok g → done (number_of f w) ≡ read_word f w
  check_read e = sym (checked_read f w (check_good e))
