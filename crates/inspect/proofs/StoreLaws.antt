-- Text and numbers added to what waits to be written. Assumes nothing.
-- `added`: one text added behind another is both added. `digits_decimal`: the digits that `io::decimal` makes are the number in decimal. `last_hex`: digits in base 16 are the hexadecimal ones.
use mathlib.Core.Path.{◌≡◌, refl, sym, ap, ◌∙◌, subst}
use mathlib.Core.List.{List, [], ◌∷◌, ◌++◌, append_assoc, append-nil}
use Prim.Native.Nat.{ℕ, zero, suc, ◌+◌, ◌-◌, ◌/◌, ◌%◌, ◌^◌, ◌≤◌, ◌<◌}
use native.Mathlib.Omega.{arith}
use native.Mathlib.Nat.{mod-lt, one-le-pow, pow-suc}
use lib.ListN.{length, length-append}
use borrow.Author.Tests.{lt-ltb, le-ltb}
use Rattle.io.specs.Digits.{hex_digit_ascii, last_digits as digits, IsDigitCount}
use Rattle.text.specs.Numbers.{decimal, hex_digit, hexadecimal}
use Rattle.text.proofs.NumberLaws.{decimal_small, decimal_more}
use Rattle.inspect.specs.Columns.{last_digits}
use Rattle.inspect.specs.Steps.{Room, Added}

-- ---- one piece behind the other

module _ {o : List ℕ} where
  pub room_as : {t u : List ℕ} → t ≡ u → Room o t → Room o u
  room_as e h = record { room = omega (arith, h.room, ap length e) }

  pub room_first : {t : List ℕ} (u : List ℕ) → Room o (t ++ u) → Room o t
  room_first {t} u h = record { room = omega (arith, h.room, length-append t u) }

  pub added_none : Added o [] o
  added_none = record { bytes = sym (append-nil o) }

  module _ {t o' : List ℕ} where
    pub added_as : {u : List ℕ} → t ≡ u → Added o t o' → Added o u o'
    added_as e a = record { bytes = a.bytes ∙ ap (λ (v : List ℕ). o ++ v) e }

    pub added : {u o'' : List ℕ} → Added o t o' → Added o' u o'' → Added o (t ++ u) o''
    added {u} a b = record { bytes = b.bytes ∙ ap (λ (v : List ℕ). v ++ u) a.bytes ∙ append_assoc o t u }

    pub room_rest : {u : List ℕ} → Room o (t ++ u) → Added o t o' → Room o' u
    room_rest {u} h a = record { room = omega (arith, h.room, ap length a.bytes, length-append o t, length-append t u) }

-- ---- a number in decimal

glyph_digit : (d : ℕ) → d < 10 → hex_digit_ascii d ≡ 48 + d
glyph_digit d h = rw (lt-ltb _ _ h) refl

pub digits_decimal : (k n : ℕ) → IsDigitCount 10 1 n k → digits 10 k n ≡ decimal n
digits_decimal zero n h = absurd (omega (arith, h.0))
digits_decimal (suc zero) n h =
    let l : n < 10 = omega (arith, h.1) in
    decimal_small n _ l (glyph_digit (n % 10) (mod-lt n (omega arith)) ∙ omega arith)
digits_decimal (suc (suc j)) n h =
    let two : suc (suc j) - 1 ≡ suc j = omega arith in
    let one : suc j - 1 ≡ j = omega arith in
    let least : 10 ^ suc j ≤ n = subst (λ (m : ℕ). 10 ^ m ≤ n) two (h.2 (omega arith)) in
    let some : 1 ≤ 10 ^ j = one-le-pow j 10 (omega arith) in
    let more : 10 ≤ n = omega (arith, pow-suc 10 j) in
    let fewer : n / 10 < 10 ^ suc j = omega (arith, h.1, pow-suc 10 (suc j)) in
    let rest : IsDigitCount 10 1 (n / 10) (suc j) =
    (omega arith, fewer, λ l. subst (λ (m : ℕ). 10 ^ m ≤ n / 10) (sym one) (omega (arith, pow-suc 10 j)))
    in
    ap (λ (t : List ℕ). t ++ (hex_digit_ascii (n % 10) ∷ [])) (digits_decimal (suc j) (n / 10) rest)
    ∙ decimal_more n (hex_digit_ascii (n % 10)) more (glyph_digit (n % 10) (mod-lt n (omega arith)))

-- ---- one digit

pub digit_low : (d : ℕ) → d < 10 → 48 + d ≡ hex_digit d
unfolding hex_digit
digit_low d h = rw (lt-ltb d 10 h) refl

pub digit_high : (d : ℕ) → 10 ≤ d → 87 + d ≡ hex_digit d
unfolding hex_digit
digit_high d h = rw (le-ltb d 10 h) refl

-- ---- digits in a base

pub last_none : (base count n : ℕ) → count ≡ 0 → [] ≡ last_digits base count n
unfolding last_digits
last_none base count n e = rw e refl

pub last_more : (base count n d : ℕ) → (count ≡ 0 → ⊥) → d ≡ hex_digit (n % base) → last_digits base (count - 1) (n / base) ++ (d ∷ []) ≡ last_digits base count n
unfolding last_digits
last_more base zero n d h e = absurd (h refl)
last_more base (suc c) n d h e = let m : suc c - 1 ≡ c = omega arith in rw (m, e) refl

pub last_hex : (count n : ℕ) → last_digits 16 count n ≡ hexadecimal count n
unfolding last_digits hexadecimal
last_hex zero n = refl
last_hex (suc count) n = ap (λ (t : List ℕ). t ++ (hex_digit (n % 16) ∷ [])) (last_hex count (n / 16))

pub last_length : (base count n : ℕ) → length (last_digits base count n) ≡ count
unfolding last_digits
last_length base zero n = refl
last_length base (suc count) n =
    let h = last_length base count (n / base) in
    omega (arith, length-append (last_digits base count (n / base)) (hex_digit (n % base) ∷ []))
