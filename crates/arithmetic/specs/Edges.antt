-- The paper's cases with a ●, as rows of one table.
use Rattle.std.specs.Prelude.{ℕ, ◌*◌, Bool, true, false, not, ◌&&◌, List, [], ◌∷◌, Ok, Err, eqb, ltb}
use Rattle.std.specs.Bool.{beq}
use Rattle.convergents.specs.Pairs.{pair, miss}
use Rattle.slash.specs.Answers.{Outcome}
use Rattle.slash.specs.Formats.{holds}
use Rattle.slash.specs.Reading.{read_word}
use Rattle.slash.specs.Rounding.{round_ratio}
use Rattle.slash.specs.Writing.{write_number}
use Rattle.slash.specs.declared.format.Format.{Format}
use Rattle.slash.specs.declared.number.Number.{Number}
use Rattle.slash.specs.declared.number.Value.{Value}
use Rattle.slash.specs.declared.number.Value.TheVariants.{Fraction, Zero, Infinity, NotANumber}
use Rattle.slash.specs.declared.rounding.Rounded.{Rounded}
use Rattle.arithmetic.specs.Operations.{exact_value, binary_word}

abbrev fixed : ℕ → Format
fixed k = record { kind = 1; k = k }

abbrev floating : ℕ → Format
floating k = record { kind = 2; k = k }

abbrev exact : Bool
exact = false

abbrev approximate : Bool
approximate = true

-- What a row says.
pub data Edge : Type 0 where
  -- In this format n/d gives r/s, with this mark.
  rounds : Format → (n d r s : ℕ) → Bool → Edge
  -- This format holds t/u too, which misses n/d by as much as r/s does.
  ties : Format → (n d r s t u : ℕ) → Edge
  -- This format holds t/u too, which is nearer to n/d than r/s is: a miss over its denominator and d is the distance.
  nearer : Format → (n d r s t u : ℕ) → Edge
  -- In this format n/d, with this mark, is written as this word.
  writes : Format → (n d : ℕ) → Bool → (w : ℕ) → Edge
  -- In this format this word is read as n/d, with this mark.
  reads : Format → (w n d : ℕ) → Bool → Edge
  -- The exact sum of a/b and c/d is n/m.
  exact_sum : (a b c d n m : ℕ) → Edge
  -- In this format the words left and right add up to this word.
  adds : Format → (left right sum : ℕ) → Edge

unfoldable pub edges : List Edge
edges =
    rounds (fixed 9) 277 642 85 197 approximate ∷
    ties (fixed 9) 277 642 85 197 192 445 ∷
    rounds (fixed 2) 5 2 2 1 approximate ∷
    ties (fixed 2) 5 2 2 1 3 1 ∷
    rounds (fixed 3) 1 10 0 1 approximate ∷
    nearer (fixed 3) 1 10 0 1 1 7 ∷
    rounds (fixed 3) 15 2 7 1 approximate ∷
    rounds (fixed 3) 8 1 1 0 approximate ∷
    rounds (fixed 3) 7 1 7 1 exact ∷
    reads (fixed 3) 0x13 1 3 exact ∷
    reads (fixed 3) 0x15 1 5 exact ∷
    exact_sum 1 3 1 5 8 15 ∷
    adds (fixed 3) 0x13 0x15 0x1a ∷
    reads (fixed 3) 0x1a 1 2 approximate ∷
    rounds (floating 4) 5 2 2 1 approximate ∷
    rounds (floating 4) 5 1 5 1 exact ∷
    rounds (floating 4) 9 1 1 0 approximate ∷
    writes (floating 26) 355 113 approximate 0x4c0058f1 ∷
    reads (floating 26) 0x4c0058f1 355 113 approximate ∷
    rounds (fixed 2) 6 23 1 3 approximate ∷ []

-- Whether an outcome is what a row says.
unfoldable pub is_rounded : ℕ → ℕ → Bool → Outcome Rounded → Bool
is_rounded r s a (Err e) = false
is_rounded r s a (Ok x) = eqb x.numerator r && eqb x.denominator s && beq x.approximate a

-- n/d as a value, and whether a value is that.
abbrev positive : (n d : ℕ) → Value
positive n d = Fraction (record { negative = false; numerator = n; denominator = d })

unfoldable pub is_positive : (n d : ℕ) → Value → Bool
is_positive n d (Fraction p) = not p.negative && (eqb p.numerator n && eqb p.denominator d)
is_positive n d (Zero s) = false
is_positive n d (Infinity s) = false
is_positive n d NotANumber = false

unfoldable pub is_read : (n d : ℕ) → Bool → Outcome Number → Bool
is_read n d a (Err e) = false
is_read n d a (Ok x) = is_positive n d x.value && beq x.approximate a

unfoldable pub is_word : ℕ → Outcome ℕ → Bool
is_word w (Err e) = false
is_word w (Ok v) = eqb v w

-- Whether the definitions say what a row says.
unfoldable pub agrees : Edge → Bool
agrees (rounds f n d r s a) = is_rounded r s a (round_ratio f n d)
agrees (ties f n d r s t u) = holds f t u && eqb (miss n d (pair r s)) (miss n d (pair t u))
agrees (nearer f n d r s t u) = holds f t u && ltb (miss n d (pair t u) * s) (miss n d (pair r s) * u)
agrees (writes f n d a w) = is_word w (write_number f (record { value = positive n d; approximate = a }))
agrees (reads f w n d a) = is_read n d a (read_word f w)
agrees (exact_sum a b c d n m) = is_positive n m (exact_value 1 (positive a b) (positive c d))
agrees (adds f left right sum) = is_word sum (binary_word f 1 left right)

unfoldable pub all_agree : List Edge → Bool
all_agree [] = true
all_agree (e ∷ more) = agrees e && all_agree more
