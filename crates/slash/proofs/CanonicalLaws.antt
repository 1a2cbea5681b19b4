-- THE LAWS of reading and writing, for every format. Assumes nothing.
-- `read_written`: reading what was written of a canonical number gives it back.
-- `written_read`: writing what was read gives the canonical word of the same value (messages dropped).
-- `canonical_kept`: and the word itself where it is canonical.
-- `written_canonical`: every word that is written is canonical, and so is read without a stop.
use mathlib.Core.Path.{◌≡◌, refl, sym, ap, ◌∙◌, subst}
use mathlib.Core.Bool.{Bool, true, false, or-false}
use mathlib.Core.Logic.{inl, inr}
use Prim.Native.Nat.{ℕ, ◌*◌, ◌≤◌}
use native.Mathlib.Omega.{arith}
use native.Mathlib.Decide.{ℕ_discrete}
use native.Mathlib.Nat.{eq-one_of_dvd-one}
use Rattle.convergents.specs.Pairs.{Pair, pair, Lowest, miss}
use Rattle.convergents.specs.Rounding.{held, round}
use Rattle.convergents.proofs.Optimal.{held_is, one_held, zero_held}
use Rattle.convergents.proofs.BestLaws.{round_best, round_lowest, round_held}
use Rattle.slash.specs.Answers.{done}
use Rattle.slash.specs.Formats.{known, holds, largest_part}
use Rattle.slash.specs.Steps.{SmallParts, value_of, HeldParts, HeldValue, Reduced, Canonical, SameValue, SameNumber, WrittenBack}
use Rattle.slash.specs.Reading.{number_of, read_word}
use Rattle.slash.specs.Writing.{pair_word, nan_word, word_for, is_over_zero, write_number}
use Rattle.slash.specs.Numbers.{pair_of}
use Rattle.slash.specs.Canonical.{CanonicalFor, CanonicalWord}
use Rattle.slash.specs.declared.format.Format.{Format}
use Rattle.slash.specs.declared.number.Parts.{Parts}
use Rattle.slash.specs.declared.number.Value.{Value}
use Rattle.slash.specs.declared.number.Value.TheVariants.{Fraction, Zero, Infinity, NotANumber}
use Rattle.slash.specs.declared.number.Number.{Number}
use Rattle.slash.proofs.AnswerLaws.{done_inj, no_stop, some_not}
use Rattle.slash.proofs.FormatLaws.{format_refused, format_limit, largest_most, largest_some, largest_below}
use Rattle.slash.proofs.RoundingLaws.{held_miss, held_exact}
use Rattle.slash.proofs.RoundTrip.{Proper, zero_proper, infinity_proper, value_infinity, value_zero, value_fraction, Says, says_read, pair_says, nan_says}
use Rattle.slash.proofs.ReadingLaws.{checked_known, checked_read, read_checked}
use Rattle.slash.proofs.WritingLaws.{lowest_proper, over_some, write_refused, write_over_zero, write_done}
use Rattle.slash.proofs.Recompose.{Fractional, fractional}

module _ (f : Format) (h : known f ≡ true) where
  -- a held fraction is rounded to its own value, so that its mark stays
  rounded_word : (a : Bool) (p : Parts) → HeldParts f p
      → word_for f a (Fraction p) ≡ pair_word f p.negative a (round (holds f) p.numerator p.denominator)
  unfolding word_for
  rounded_word a p q = rw (held_exact f h p.numerator p.denominator q.some_denominator q.holds_it, or-false a) refl

  -- and one in lowest terms to itself, so that its own parts are written
  fraction_word : (a : Bool) (p : Parts) → HeldParts f p → Lowest p.numerator p.denominator
      → word_for f a (Fraction p) ≡ pair_word f p.negative a (pair p.numerator p.denominator)
  fraction_word a p q low =
      let n : ℕ = p.numerator in
      let d : ℕ = p.denominator in
      let l : held (holds f) (pair n d) ≡ true = held_is (holds f) n d q.some_denominator ∙ q.holds_it in
      let r : round (holds f) n d ≡ pair n d = round_held (holds f) (format_limit f h) n d q.some_denominator l low in
      rounded_word a p q ∙ ap (pair_word f p.negative a) r

  -- a held number is no fraction over 0
  pub held_over : (v : Value) → HeldValue f v → is_over_zero v ≡ false
  unfolding HeldValue is_over_zero
  held_over (Fraction p) q = some_not p.denominator q.some_denominator
  held_over (Zero s) q = refl
  held_over (Infinity s) q = refl
  held_over NotANumber q = refl

  held_written : (x : Number) → HeldValue f x.value → write_number f x ≡ done (word_for f x.approximate x.value)
  held_written x q = sym (write_done f x h (held_over x.value q))

  -- what is written of a canonical number says that number
  canonical_says : (a : Bool) (v : Value) → HeldValue f v → Reduced a v
      → Says f (word_for f a v) (record { value = v; approximate = a })
  unfolding HeldValue Reduced word_for value_of
  canonical_says a (Fraction p) q low =
      let n : ℕ = p.numerator in
      let d : ℕ = p.denominator in
      let l : held (holds f) (pair n d) ≡ true = held_is (holds f) n d q.some_denominator ∙ q.holds_it in
      let v : Fraction p ≡ value_of p.negative (pair n d) =
      value_fraction p.negative n d (λ z. omega (arith, q.some_denominator)) (λ z. omega (arith, q.some_numerator))
      in
      subst (λ (w : ℕ). Says f w (record { value = Fraction p; approximate = a })) (sym (fraction_word a p q low))
      (rw v (pair_says f p.negative a n d h l (lowest_proper n d low)))
  canonical_says a (Zero s) q low =
      pair_says f s a 0 1 h (zero_held (holds f) (format_limit f h)) zero_proper
  canonical_says a (Infinity s) q low =
      pair_says f s a 1 0 h (one_held (holds f)) infinity_proper
  canonical_says a NotANumber q low = rw low (nan_says f h)

  pub read_written : (x : Number) → Canonical f x → (w : ℕ) → write_number f x ≡ done w → read_word f w ≡ done x
  read_written x c w e =
      let g : word_for f x.approximate x.value ≡ w = done_inj (sym (held_written x c.is_held) ∙ e) in
      subst (λ (v : ℕ). read_word f v ≡ done x) g
      (says_read (canonical_says x.approximate x.value c.is_held c.reduced))

  -- a fraction that is held, in lowest terms or not: its rounding is the same value, held, and in lowest terms
  module _ (p : Parts) (q : HeldParts f p) where
    abbrev N : ℕ
    N = p.numerator

    abbrev D : ℕ
    D = p.denominator

    abbrev R : Pair
    R = round (holds f) N D

    abbrev lowest : Parts
    lowest = record { negative = p.negative; numerator = R.numerator; denominator = R.denominator }

    rounded_exact : miss N D R ≡ 0
    rounded_exact = held_miss f h N D q.some_denominator q.holds_it

    -- neither part of it is 0
    rounded_some : (1 ≤ R.numerator) × (1 ≤ R.denominator)
    rounded_some = go (ℕ_discrete R.numerator 0) (ℕ_discrete R.denominator 0)
      where
        proper : Proper R.numerator R.denominator
        proper = lowest_proper R.numerator R.denominator (round_lowest (holds f) (format_limit f h) N D)

        go : Dec (R.numerator ≡ 0) → Dec (R.denominator ≡ 0) → (1 ≤ R.numerator) × (1 ≤ R.denominator)
        go (yes e) b =
            absurd
            (omega (
              arith,
              rounded_exact,
              q.some_numerator,
              ap (λ (y : ℕ). y * N) (proper.zero_is e),
              ap (λ (y : ℕ). y * D) e,
            ))
        go (no e) (yes b) =
            absurd
            (omega (
              arith,
              rounded_exact,
              q.some_denominator,
              ap (λ (y : ℕ). y * D) (proper.infinity_is b),
              ap (λ (y : ℕ). y * N) b,
            ))
        go (no e) (no b) = (omega arith, omega arith)

    lowest_held : HeldParts f lowest
    lowest_held =
        record {
          some_numerator = rounded_some.0;
          some_denominator = rounded_some.1;
          holds_it =
              sym (held_is (holds f) R.numerator R.denominator rounded_some.1)
              ∙ (round_best (holds f) (format_limit f h) N D q.some_denominator).is_held;
        }

    fraction_back : (a : Bool) → WrittenBack f (record { value = Fraction p; approximate = a })
    unfolding HeldValue Reduced SameNumber SameValue
    fraction_back a =
        let x : Number = record { value = Fraction p; approximate = a } in
        let y : Number = record { value = Fraction lowest; approximate = a } in
        let low = round_lowest (holds f) (format_limit f h) N D in
        let c : Canonical f y = record { is_held = lowest_held; reduced = low } in
        let w : ℕ = pair_word f p.negative a R in
        record {
          word = w;
          written = held_written x q ∙ ap done (rounded_word a p q);
          number = y;
          read = read_written y c w (held_written y lowest_held ∙ ap done (fraction_word a lowest lowest_held low));
          canonical = c;
          same = ((refl, omega (arith, rounded_exact)), inr refl);
        }

  -- a canonical number is written as a word that says it
  kept : (x : Number) → Canonical f x → SameNumber x x → WrittenBack f x
  kept x c s =
      let g = held_written x c.is_held in
      record { word = word_for f x.approximate x.value; written = g; number = x; read = read_written x c _ g; canonical = c; same = s }

  -- writing any number that is held
  back : (a : Bool) (v : Value) → HeldValue f v → WrittenBack f (record { value = v; approximate = a })
  unfolding HeldValue Reduced SameNumber SameValue word_for
  back a (Fraction p) q = fraction_back p q a
  back a (Zero s) q = kept (record { value = Zero s; approximate = a }) (record { is_held = tt; reduced = tt }) (refl, inr refl)
  back a (Infinity s) q = kept (record { value = Infinity s; approximate = a }) (record { is_held = tt; reduced = tt }) (refl, inr refl)
  back a NotANumber q =
      let x : Number = record { value = NotANumber; approximate = a } in
      let y : Number = record { value = NotANumber; approximate = false } in
      let c : Canonical f y = record { is_held = tt; reduced = refl } in
      record {
        word = nan_word f;
        written = held_written x tt;
        number = y;
        read = read_written y c (nan_word f) (held_written y tt);
        canonical = c;
        same = (tt, inl refl);
      }

  -- ---- what is held has small parts

  pub held_small : (p : Parts) → HeldParts f p → SmallParts p
  held_small p q =
      let b = largest_most f h p.numerator p.denominator q.holds_it in
      let l = largest_below f h in
      record { some_denominator = q.some_denominator; small_numerator = omega arith; small_denominator = omega arith }

  -- of every value, 1/0 for infinity among them
  pub held_most : (v : Value) → HeldValue f v → ((pair_of v).numerator ≤ largest_part f) × ((pair_of v).denominator ≤ largest_part f)
  unfolding HeldValue pair_of
  held_most (Fraction p) q = largest_most f h p.numerator p.denominator q.holds_it
  held_most (Zero s) q = omega (arith, largest_some f h)
  held_most (Infinity s) q = omega (arith, largest_some f h)
  held_most NotANumber q = omega (arith, largest_some f h)

  -- ---- what was read

  module _ (w : ℕ) (x : Number) (r : read_word f w ≡ done x) where
    pub read_says : Says f w x
    read_says = let c = read_checked f w r in record { clear = c; number = done_inj (sym (checked_read f w c) ∙ r) }

    -- a fraction's word is made again of its parts
    again : (p : Parts) → x.value ≡ Fraction p → Fractional f w h read_says.clear p
    again p e = fractional f w h read_says.clear p (ap (λ (y : Number). y.value) read_says.number ∙ e)

    of_value : (v : Value) → x.value ≡ v → HeldValue f v
    unfolding HeldValue
    of_value (Fraction p) e = (again p e).parts
    of_value (Zero s) e = tt
    of_value (Infinity s) e = tt
    of_value NotANumber e = tt

    -- what a word says is held
    pub read_held : HeldValue f x.value
    read_held = of_value x.value refl

    pub written_read : WrittenBack f x
    written_read = back x.approximate x.value read_held

    lowest_kept : (p : Parts) → x.value ≡ Fraction p → Lowest p.numerator p.denominator → word_for f x.approximate (Fraction p) ≡ w
    lowest_kept p e low =
        let a : (number_of f w).approximate ≡ x.approximate = ap (λ (y : Number). y.approximate) read_says.number in
        fraction_word x.approximate p (again p e).parts low ∙ rw (← a) (again p e).again

    -- what a canonical word says is written as that word
    stored : (v : Value) → x.value ≡ v → CanonicalFor f w x.approximate v → word_for f x.approximate v ≡ w
    unfolding CanonicalFor word_for
    stored (Fraction p) e s = lowest_kept p e s
    stored (Zero s) e g = sym g
    stored (Infinity s) e g = sym g
    stored NotANumber e g = sym g

    pub canonical_kept : CanonicalWord f w → write_number f x ≡ done w
    canonical_kept c =
        let e : c.number ≡ x = done_inj (sym c.read ∙ r) in
        held_written x read_held
        ∙ ap done (stored x.value refl (subst (λ (y : Number). CanonicalFor f w y.approximate y.value) e c.canonical))

  -- ---- what is written

  -- every word that is written is canonical, and says the rounded number
  module _ (s a : Bool) (n d : ℕ) (l : held (holds f) (pair n d) ≡ true) (low : Lowest n d) where
    pair_stored : CanonicalFor f (pair_word f s a (pair n d)) a (value_of s (pair n d))
    unfolding CanonicalFor
    pair_stored = go (ℕ_discrete d 0) (ℕ_discrete n 0)
      where
        proper : Proper n d
        proper = lowest_proper n d low

        go : Dec (d ≡ 0) → Dec (n ≡ 0) → CanonicalFor f (pair_word f s a (pair n d)) a (value_of s (pair n d))
        go (yes z) y =
            subst (λ (v : Value). CanonicalFor f (pair_word f s a (pair n d)) a v) (value_infinity s n d z) (rw (z, proper.infinity_is z) refl)
        go (no z) (yes y) =
            subst (λ (v : Value). CanonicalFor f (pair_word f s a (pair n d)) a v) (value_zero s n d z y) (rw (y, proper.zero_is y) refl)
        go (no z) (no y) = subst (λ (v : Value). CanonicalFor f (pair_word f s a (pair n d)) a v) (value_fraction s n d z y) low

    pair_canonical : CanonicalWord f (pair_word f s a (pair n d))
    pair_canonical =
        record {
          number = record { value = value_of s (pair n d); approximate = a };
          read = says_read (pair_says f s a n d h l (lowest_proper n d low));
          canonical = pair_stored;
        }

  word_canonical : (a : Bool) (v : Value) → is_over_zero v ≡ false → CanonicalWord f (word_for f a v)
  unfolding word_for CanonicalFor
  word_canonical a (Fraction p) z =
      let N : ℕ = p.numerator in
      let D : ℕ = p.denominator in
      pair_canonical p.negative _ _ _ (round_best (holds f) (format_limit f h) N D (over_some (Fraction p) p refl z)).is_held
      (round_lowest (holds f) (format_limit f h) N D)
  word_canonical a (Zero s) z = pair_canonical s a 0 1 (zero_held (holds f) (format_limit f h)) (λ g i j. eq-one_of_dvd-one j)
  word_canonical a (Infinity s) z = pair_canonical s a 1 0 (one_held (holds f)) (λ g i j. eq-one_of_dvd-one i)
  word_canonical a NotANumber z =
      record {
        number = record { value = NotANumber; approximate = false };
        read = says_read (nan_says f h);
        canonical = refl;
      }

-- Every word that is written is canonical.
pub written_canonical : (f : Format) (x : Number) (w : ℕ) → write_number f x ≡ done w → CanonicalWord f w
written_canonical f x w e = go (known f) refl (is_over_zero x.value) refl
  where
    go : (b : Bool) → known f ≡ b → (c : Bool) → is_over_zero x.value ≡ c → CanonicalWord f w
    go true h false z = subst (λ (v : ℕ). CanonicalWord f v) (done_inj (write_done f x h z ∙ e)) (word_canonical f h x.approximate x.value z)
    go true h true z = absurd (no_stop (write_over_zero f x h z ∙ e))
    go false h c z = absurd (no_stop (write_refused f x (format_refused f h) ∙ e))

-- what is read is of a known format
pub read_known : (f : Format) (w : ℕ) (x : Number) → read_word f w ≡ done x → known f ≡ true
read_known f w x e = checked_known f w (read_checked f w e)
