-- A word as eight hexadecimal digits. Assumes nothing.
-- `word_back`: the word is found again in the digits that are printed of it, which have the shape of one (`word_shape`).
-- `hexing_end`: what the loop over the digits comes to.
use mathlib.Core.Path.{◌≡◌, refl, sym, ap, ◌∙◌}
use mathlib.Core.Bool.{Bool, true, false, ◌&&◌, ◌||◌, and-false, or-true}
use mathlib.Core.List.{List, [], ◌∷◌, ◌++◌}
use Prim.Native.Nat.{ℕ, zero, suc, ◌+◌, ◌-◌, ◌*◌, ◌/◌, ◌%◌, ◌^◌, ◌≤◌, ◌<◌}
use native.Mathlib.Omega.{arith}
use native.Mathlib.Nat.{mod-lt, pow-suc, pow-le-pow_right}
use native.Mathlib.Numerals.{add-one}
use native.Mathlib.Decide.{dec_lt, dec_le}
use lib.Dec.{leb}
use lib.ListN.{length, get_or, drop}
use borrow.Author.Tests.{eq-eqb, ne_eqb, le-leb, lt-leb, leb-true, lt-ltb, le-ltb}
use Rattle.std.specs.Prelude.{if◌then◌else◌, Option, Some, None}
use Rattle.slash.proofs.AnswerLaws.{and_parts}
use Rattle.text.specs.Numbers.{hex_digit, hexadecimal}
use Rattle.text.specs.Scan.{is_digit}
use Rattle.text.proofs.NumberLaws.{hexadecimal_length}
use Rattle.text.proofs.ScanLaws.{drop_past}
use Rattle.text.proofs.PartLaws.{drop_here}
use Rattle.std.specs.List.{list_all}
use Rattle.shapes.specs.Words.{is_hex_digit, is_word, hex_value, hex_read, hex_from, word_in, word_read}
use Rattle.shapes.proofs.FieldLaws.{digit_is, digit_range, every_append, every_one}

-- ---- what is printed of a word

pub hex_low : (d : ℕ) → d < 10 → hex_digit d ≡ 48 + d
unfolding hex_digit
hex_low d h = rw (lt-ltb d 10 h) refl

pub hex_high : (d : ℕ) → 10 ≤ d → hex_digit d ≡ 87 + d
unfolding hex_digit
hex_high d h = rw (le-ltb d 10 h) refl

hex_digit_is : (d : ℕ) → d < 16 → is_hex_digit (hex_digit d) ≡ true
unfolding is_hex_digit
hex_digit_is d h = go (dec_lt d 10)
  where
    go : Dec (d < 10) → (is_digit (hex_digit d) || (leb 97 (hex_digit d) && leb (hex_digit d) 102)) ≡ true
    go (yes l) = rw (hex_low d l, digit_is d l) refl
    go (no l) =
        let m : 10 ≤ d = omega arith in
        let i : 97 ≤ 87 + d = omega arith in
        let j : 87 + d ≤ 102 = omega arith in
        rw (hex_high d m, le-leb _ _ i, le-leb _ _ j) (or-true (is_digit (87 + d)))

no_digit : (d : ℕ) → 10 ≤ d → is_digit (87 + d) ≡ false
unfolding is_digit
no_digit d h =
    let i : 48 ≤ 87 + d = omega arith in
    let j : 57 < 87 + d = omega arith in
    rw (le-leb _ _ i, lt-leb _ _ j) refl

hex_digit_value : (d : ℕ) → hex_value (hex_digit d) ≡ d
unfolding hex_value
hex_digit_value d = go (dec_lt d 10)
  where
    go : Dec (d < 10) → (if is_digit (hex_digit d) then hex_digit d - 48 else hex_digit d - 87) ≡ d
    go (yes l) = rw (hex_low d l, digit_is d l) (omega arith)
    go (no l) = let m : 10 ≤ d = omega arith in rw (hex_high d m, no_digit d m) (omega arith)

hex_last : (v : ℕ) (t : List ℕ) (x : ℕ) → hex_from v (t ++ (x ∷ [])) ≡ hex_from v t * 16 + hex_value x
unfolding hex_from
hex_last v [] x = refl
hex_last v (y ∷ t) x = hex_last (v * 16 + hex_value y) t x

hex_back : (c n : ℕ) → n < 16 ^ c → hex_from 0 (hexadecimal c n) ≡ n
unfolding hexadecimal hex_from
hex_back zero n h = omega arith
hex_back (suc c) n h =
    let l : n / 16 < 16 ^ c = omega (arith, pow-suc 16 c) in
    let ih : hex_from 0 (hexadecimal c (n / 16)) ≡ n / 16 = hex_back c (n / 16) l in
    hex_last 0 (hexadecimal c (n / 16)) (hex_digit (n % 16)) ∙ rw (ih, hex_digit_value (n % 16)) (omega arith)

-- the word that a listing prints is found again
pub word_back : (w : ℕ) → w < 2 ^ 31 → word_in (hexadecimal 8 w) ≡ w
unfolding word_in
word_back w h = hex_back 8 w (omega arith)

module _ (is : ℕ → Bool) (digit : (d : ℕ) → d < 16 → is (hex_digit d) ≡ true) where
  every_hexadecimal : (c n : ℕ) → list_all is (hexadecimal c n) ≡ true
  unfolding hexadecimal
  every_hexadecimal zero n = refl
  every_hexadecimal (suc c) n =
      every_append is (hexadecimal c (n / 16)) (hex_digit (n % 16) ∷ []) (every_hexadecimal c (n / 16))
      (every_one is (hex_digit (n % 16)) (digit (n % 16) (mod-lt n (omega arith))))

hex_above : (k d : ℕ) → k ≤ 48 → leb k (hex_digit d) ≡ true
hex_above k d h = go (dec_lt d 10)
  where
    go : Dec (d < 10) → leb k (hex_digit d) ≡ true
    go (yes l) = le-leb k (hex_digit d) (omega (arith, hex_low d l))
    go (no l) = let m : 10 ≤ d = omega arith in le-leb k (hex_digit d) (omega (arith, hex_high d m))

pub hexadecimal_above : (k c n : ℕ) → k ≤ 48 → list_all (leb k) (hexadecimal c n) ≡ true
hexadecimal_above k c n h = every_hexadecimal (leb k) (λ d l. hex_above k d h) c n

pub word_shape : (w : ℕ) → is_word (hexadecimal 8 w) ≡ true
unfolding is_word
word_shape w = rw (eq-eqb _ _ (hexadecimal_length 8 w)) (every_hexadecimal is_hex_digit hex_digit_is 8 w)

-- ---- digits, as the functions have them

module _ (b : ℕ) where
  pub read_digit : 48 ≤ b → b ≤ 57 → Some (b - 48) ≡ hex_read b
  unfolding hex_read is_hex_digit hex_value is_digit
  read_digit l k = rw (le-leb _ _ l, le-leb _ _ k) refl

  pub read_letter : 97 ≤ b → b ≤ 102 → Some (b - 97 + 10) ≡ hex_read b
  unfolding hex_read is_hex_digit hex_value is_digit
  read_letter l k =
      let m : 57 < b = omega arith in
      let e : b - 97 + 10 ≡ b - 87 = omega arith in
      rw (lt-leb _ _ m, le-leb _ _ l, le-leb _ _ k, and-false (leb 48 b), e) refl

  pub read_other : (48 ≤ b → b ≤ 57 → ⊥) → (97 ≤ b → b ≤ 102 → ⊥) → None ≡ hex_read b
  unfolding hex_read is_hex_digit is_digit
  read_other f g = rw (no_range 48 57 f, no_range 97 102 g) refl
    where
      no_range : (l k : ℕ) → (l ≤ b → b ≤ k → ⊥) → (leb l b && leb b k) ≡ false
      no_range l k h = go (dec_le l b) (dec_le b k)
        where
          go : Dec (l ≤ b) → Dec (b ≤ k) → (leb l b && leb b k) ≡ false
          go (no n) d = let m : b < l = omega arith in rw (lt-leb _ _ m) refl
          go (yes x) (no n) = let m : k < b = omega arith in rw (lt-leb _ _ m, and-false (leb l b)) refl
          go (yes x) (yes y) = absurd (h x y)

letter_range : (b : ℕ) → is_hex_digit b ≡ true → is_digit b ≡ false → (97 ≤ b) × (b ≤ 102)
unfolding is_hex_digit
letter_range b e f =
    let g : (leb 97 b && leb b 102) ≡ true = rw f at e in
    let w = and_parts (leb 97 b) (leb b 102) g in
    (leb-true _ _ w.0, leb-true _ _ w.1)

value_small : (b : ℕ) → is_hex_digit b ≡ true → hex_value b < 16
unfolding hex_value
value_small b h = go (is_digit b) refl
  where
    go : (t : Bool) → is_digit b ≡ t → (if is_digit b then b - 48 else b - 87) < 16
    go true e = let r = digit_range b e in rw e (omega (arith, r.0, r.1))
    go false e = let r = letter_range b h e in rw e (omega (arith, r.0, r.1))

-- what a byte says
module _ (x : ℕ) where
  read_none : None ≡ hex_read x → is_hex_digit x ≡ false
  unfolding hex_read
  read_none e = go (is_hex_digit x) refl
    where
      go : (t : Bool) → is_hex_digit x ≡ t → is_hex_digit x ≡ false
      go false h = h
      go true h = let z : ◌≡◌ {A = Option ℕ} None (Some (hex_value x)) = e ∙ rw h refl in cc

  read_some : {d : ℕ} → Some d ≡ hex_read x → (is_hex_digit x ≡ true) × (d ≡ hex_value x)
  unfolding hex_read
  read_some {d} e = go (is_hex_digit x) refl
    where
      go : (t : Bool) → is_hex_digit x ≡ t → (is_hex_digit x ≡ true) × (d ≡ hex_value x)
      go true h = let z : ◌≡◌ {A = Option ℕ} (Some d) (Some (hex_value x)) = e ∙ rw h refl in (h, cc)
      go false h = let z : ◌≡◌ {A = Option ℕ} (Some d) None = e ∙ rw h refl in cc

-- ---- a word

-- what bytes say behind a value
abbrev pub said_from : (value : ℕ) → List ℕ → Option ℕ
said_from v xs = if list_all is_hex_digit xs then Some (hex_from v xs) else None

pub record Hexing (xs : List ℕ) (v i : ℕ) : Type 0 where
  pub total : said_from v (drop i xs) ≡ said_from 0 xs
  pub few : v < 16 ^ i

pub hexing_start : (xs : List ℕ) → Hexing xs 0 0
hexing_start xs = record { total = refl; few = omega arith }

pub word_none : (xs : List ℕ) → (length xs ≡ 8 → ⊥) → None ≡ word_read xs
unfolding word_read is_word
word_none xs h = rw (ne_eqb _ _ h) refl

word_of_eight : (xs : List ℕ) → length xs ≡ 8 → said_from 0 xs ≡ word_read xs
unfolding word_read is_word word_in
word_of_eight xs e = sym (rw (eq-eqb _ _ e) refl)

module _ {xs : List ℕ} {v i : ℕ} (h : Hexing xs v i) (eight : length xs ≡ 8) where
  module _ (l : i < length xs) where
    here : said_from v (get_or xs i 0 ∷ drop (i + 1) xs) ≡ said_from 0 xs
    here = ap (said_from v) (sym (drop_here xs i l)) ∙ h.total

    pub hexing_not : None ≡ hex_read (get_or xs i 0) → None ≡ word_read xs
    hexing_not e =
        let f : None ≡ said_from v (get_or xs i 0 ∷ drop (i + 1) xs) = rw (read_none (get_or xs i 0) e) refl in
        f ∙ here ∙ word_of_eight xs eight

    pub hexing_few : v < 2 ^ 28
    hexing_few =
        let most : 16 ^ i ≤ 16 ^ 7 = pow-le-pow_right {n = 16} (omega arith) {i = i} {j = 7} (omega arith) in
        omega (arith, h.few)

    module _ {d : ℕ} (e : Some d ≡ hex_read (get_or xs i 0)) where
      digit_small : d < 16
      digit_small = let r = read_some (get_or xs i 0) e in omega (arith, r.1, value_small (get_or xs i 0) r.0)

      pub hexing_small : v * 16 + d < 2 ^ 32
      hexing_small = omega (arith, hexing_few, digit_small)

      pub hexing_next : Hexing xs (v * 16 + d) (i + 1)
      unfolding hex_from
      hexing_next =
          let r = read_some (get_or xs i 0) e in
          let f : said_from (v * 16 + d) (drop (i + 1) xs) ≡ said_from v (get_or xs i 0 ∷ drop (i + 1) xs) = rw (r.0, r.1) refl in
          record {
            total = f ∙ here;
            few = omega (arith, h.few, digit_small, pow-suc 16 i, ap (λ (j : ℕ). 16 ^ j) (add-one i));
          }

  pub hexing_end : i ≡ length xs → Some v ≡ word_read xs
  unfolding hex_from
  hexing_end l =
      let f : Some v ≡ said_from v [] = refl in
      f ∙ ap (said_from v) (sym (drop_past xs i l)) ∙ h.total ∙ word_of_eight xs eight
