-- Storing text, and the digits of a number. Assumes nothing.
-- `chain`: one text stored behind another is both stored. `text_stored`: what copying a text comes to. `decimal_hundreds`, `hex_bytes`: a
-- number's digits two at a time. `decimal_length`, `hexadecimal_length`: how long they are. `rest_as_it_was`: an example.
use mathlib.Core.Path.{◌≡◌, refl, sym, ap, ◌∙◌, subst}
use mathlib.Core.List.{List, [], ◌∷◌, ◌++◌, append_assoc}
use Prim.Native.Nat.{ℕ, zero, suc, ◌+◌, ◌-◌, ◌/◌, ◌%◌, ◌^◌, ◌≤◌, ◌<◌}
use native.Mathlib.Omega.{arith}
use native.Mathlib.Nat.{add-zero, zero-add, add-suc, suc-add, le_of_suc-le-suc, pow-suc}
use native.Mathlib.Numerals.{add-one}
use mathlib.Core.Bool.{Bool, true, false, ◌&&◌, and-eq-true_iff}
use lib.Dec.{eqb, ltb}
use native.Mathlib.Decide.{dec_lt}
use lib.ListN.{set, length, get_or, take, drop, length-append}
use lib.Seq.{sets-eq, length-sets, drop-drop}
use borrow.Author.Tests.{lt-ltb, le-ltb, eqb-true}
use Rattle.text.specs.Numbers.{decimal_from, decimal, hex_digit, hexadecimal}
use Rattle.slash.specs.Answers.{stop, done}
use Rattle.text.specs.Stores.{put, list_after, Stored}
use Rattle.text.specs.Steps.{Room, two_digits}

-- ---- an example

-- A text of one byte in a list of two, and a stop: the rest is as it was.
pub rest_as_it_was : (list_after (done (1 ∷ [])) (8 ∷ 9 ∷ []) ≡ 1 ∷ 9 ∷ []) × (list_after (stop 15 1) (8 ∷ 9 ∷ []) ≡ 8 ∷ 9 ∷ [])
unfolding list_after
rest_as_it_was = (refl, refl)

-- ---- storing, wherever the place: what runs past the end is dropped on both sides

length_put : (o : List ℕ) (k : ℕ) (t : List ℕ) → length (put o k t) ≡ length o
unfolding put
length_put o k t = length-sets o k t

pub put_append : (o : List ℕ) (k : ℕ) (t u : List ℕ) → put o k (t ++ u) ≡ put (put o k t) (k + length t) u
unfolding put
put_append o k [] u = ap (λ (j : ℕ). put o j u) (sym (add-zero k))
put_append o k (b ∷ t) u =
    put_append (set o k b) (suc k) t u
    ∙ ap (λ (j : ℕ). put (put (set o k b) (suc k) t) j u) (suc-add k (length t) ∙ sym (add-suc k (length t)))

-- from the start of a list that is long enough: the text, and then the list's rest
pub put_front : (o t : List ℕ) → length t ≤ length o → put o 0 t ≡ t ++ drop (length t) o
unfolding put
put_front o t h = sets-eq t o 0 (omega arith) ∙ ap (λ (k : ℕ). t ++ drop k o) (zero-add (length t))

-- ---- one piece after the other

module _ {o : List ℕ} {k : ℕ} where
  module _ {t o' : List ℕ} {k' : ℕ} where
    pub stored_length : Stored o k t o' k' → length o' ≡ length o
    stored_length s = ap length s.bytes ∙ length_put o k t

    pub stored_as : {u : List ℕ} → t ≡ u → Stored o k t o' k' → Stored o k u o' k'
    stored_as {u} e s = subst (λ (v : List ℕ). Stored o k v o' k') e s

    pub chain : {u o'' : List ℕ} {k'' : ℕ} → Stored o k t o' k' → Stored o' k' u o'' k'' → Stored o k (t ++ u) o'' k''
    chain {u} {o''} {k''} r s =
        record {
          bytes = s.bytes ∙ ap (λ (l : List ℕ). put l k' u) r.bytes ∙ ap (λ (j : ℕ). put (put o k t) j u) r.next ∙ sym (put_append o k t u);
          next = omega (arith, r.next, s.next, length-append t u);
        }

    pub room_rest : {u : List ℕ} → Room o k (t ++ u) → Stored o k t o' k' → Room o' k' u
    room_rest {u} h r = record { room = omega (arith, h.room, r.next, stored_length r, length-append t u) }

  pub room_first : {t : List ℕ} (u : List ℕ) → Room o k (t ++ u) → Room o k t
  room_first {t} u h = record { room = omega (arith, h.room, length-append t u) }

  pub room_as : {t u : List ℕ} → t ≡ u → Room o k t → Room o k u
  room_as e h = subst (λ (v : List ℕ). Room o k v) e h

pub store_none : (o : List ℕ) (k : ℕ) → Stored o k [] o k
unfolding put
store_none o k = record { bytes = refl; next = omega arith }

pub store_byte : (o : List ℕ) (k b : ℕ) → Stored o k (b ∷ []) (set o k b) (k + 1)
unfolding put
store_byte o k b = record { bytes = refl; next = omega arith }

-- ---- a text stored byte by byte

-- what copying a text over as many places of a list, from a place on, comes to
pub text_stored : (o t ys : List ℕ) (at : ℕ) → Room o at t → ys ≡ t → Stored o at t (take at o ++ (ys ++ drop (at + length t - at) (drop at o))) (at + length t)
unfolding put
text_stored o t ys at h e =
    let count : at + length t - at ≡ length t = omega arith in
    record {
      bytes =
          ap (λ (k : ℕ). take at o ++ (ys ++ drop k (drop at o))) count ∙ ap (λ (u : List ℕ). take at o ++ (ys ++ u)) (drop-drop (length t) at o)
          ∙ ap (λ (u : List ℕ). take at o ++ (u ++ drop (at + length t) o)) e
          ∙ sym (append_assoc (take at o) t (drop (at + length t) o)) ∙ sym (sets-eq t o at h.room);
      next = refl;
    }

-- ---- decimal digits

step : (s n : ℕ) (b : Bool) → ltb n 10 ≡ b → decimal_from (suc s) n ≡ elim b [ true ↦ (48 + n) ∷ [] | false ↦ decimal_from s (n / 10) ++ ((48 + n % 10) ∷ []) ]
unfolding decimal_from
step s n b e = ap (λ (x : Bool). elim x as (λ y. List ℕ) [ true ↦ (48 + n) ∷ [] | false ↦ decimal_from s (n / 10) ++ ((48 + n % 10) ∷ []) ]) e

pub from_small : (s n : ℕ) → n < 10 → decimal_from s n ≡ (48 + n) ∷ []
unfolding decimal_from
from_small zero n h = refl
from_small (suc s) n h = step s n true (lt-ltb n 10 h)

pub from_more : (s n : ℕ) → 10 ≤ n → decimal_from (suc s) n ≡ decimal_from s (n / 10) ++ ((48 + n % 10) ∷ [])
from_more s n h = step s n false (le-ltb n 10 h)

enough : (s s' n : ℕ) → n ≤ s → n ≤ s' → decimal_from s n ≡ decimal_from s' n
enough zero s' n h h' = from_small zero n (omega arith) ∙ sym (from_small s' n (omega arith))
enough (suc s) zero n h h' = from_small (suc s) n (omega arith) ∙ sym (from_small zero n (omega arith))
enough (suc s) (suc s') n h h' = go (dec_lt n 10) (enough s s' (n / 10))
  where
    go : Dec (n < 10) → (n / 10 ≤ s → n / 10 ≤ s' → decimal_from s (n / 10) ≡ decimal_from s' (n / 10))
        → decimal_from (suc s) n ≡ decimal_from (suc s') n
    go (yes l) ih = from_small (suc s) n l ∙ sym (from_small (suc s') n l)
    go (no l) ih =
        from_more s n (omega arith) ∙ ap (λ (t : List ℕ). t ++ ((48 + n % 10) ∷ [])) (ih (omega arith) (omega arith))
        ∙ sym (from_more s' n (omega arith))

pub decimal_small : (n d : ℕ) → n < 10 → d ≡ 48 + n → (d ∷ []) ≡ decimal n
unfolding decimal
decimal_small n d h e = ap (λ (x : ℕ). x ∷ []) e ∙ sym (from_small n n h)

pub decimal_more : (n d : ℕ) → 10 ≤ n → d ≡ 48 + n % 10 → decimal (n / 10) ++ (d ∷ []) ≡ decimal n
unfolding decimal
decimal_more zero d h e = absurd (omega arith)
decimal_more (suc n) d h e =
    ap (λ (x : ℕ). decimal_from (suc n / 10) (suc n / 10) ++ (x ∷ [])) e
    ∙ ap (λ (t : List ℕ). t ++ ((48 + suc n % 10) ∷ [])) (enough (suc n / 10) n (suc n / 10) (omega arith) (omega arith))
    ∙ sym (from_more n (suc n) h)

-- two digits at a time

pub two_digits_lem : (n a b : ℕ) → a ≡ 48 + n / 10 → b ≡ 48 + n % 10 → (a ∷ []) ++ (b ∷ []) ≡ two_digits n
unfolding two_digits
two_digits_lem n a b e f = rw (e, f) refl

pub decimal_two : (n : ℕ) → 10 ≤ n → n < 100 → two_digits n ≡ decimal n
unfolding two_digits
decimal_two n h l =
    ap (λ (t : List ℕ). t ++ ((48 + n % 10) ∷ [])) (decimal_small (n / 10) (48 + n / 10) (omega arith) refl)
    ∙ decimal_more n (48 + n % 10) h refl

pub decimal_hundreds : (n : ℕ) → 100 ≤ n → decimal (n / 100) ++ two_digits (n % 100) ≡ decimal n
unfolding two_digits
decimal_hundreds n h =
    let a : ℕ = 48 + n % 100 / 10 in
    let b : ℕ = 48 + n % 100 % 10 in
    let tens : n / 10 / 10 ≡ n / 100 = omega arith in
    let first : decimal (n / 100) ++ (a ∷ []) ≡ decimal (n / 10) =
    ap (λ (j : ℕ). decimal j ++ (a ∷ [])) (sym tens) ∙ decimal_more (n / 10) a (omega arith) (omega arith)
    in
    sym (append_assoc (decimal (n / 100)) (a ∷ []) (b ∷ [])) ∙ ap (λ (t : List ℕ). t ++ (b ∷ [])) first
    ∙ decimal_more n b (omega arith) (omega arith)

pub decimal_five : (n a : ℕ) → 10000 ≤ n → n < 100000 → a ≡ 48 + n / 10000
    → (a ∷ []) ++ two_digits (n / 100 % 100) ++ two_digits (n % 100) ≡ decimal n
decimal_five n a h l e =
    let first : (a ∷ []) ++ two_digits (n / 100 % 100) ≡ decimal (n / 100) =
    ap (λ (t : List ℕ). t ++ two_digits (n / 100 % 100)) (decimal_small (n / 100 / 100) a (omega arith) (omega arith))
    ∙ decimal_hundreds (n / 100) (omega arith)
    in
    ap (λ (t : List ℕ). t ++ two_digits (n % 100)) first ∙ decimal_hundreds n (omega arith)

-- room for five digits is room for the first
pub five_room : {o : List ℕ} {k : ℕ} (n a : ℕ) → 10000 ≤ n → n < 100000 → a ≡ 48 + n / 10000 → Room o k (decimal n) → Room o k (a ∷ [])
five_room n a h l e r =
    room_first (two_digits (n / 100 % 100)) (room_first (two_digits (n % 100)) (room_as (sym (decimal_five n a h l e)) r))

-- a number below 10^j has at most j digits
pub decimal_length : (j n : ℕ) → n < 10 ^ suc j → length (decimal n) ≤ suc j
decimal_length zero n h = omega (arith, ap length (decimal_small n (48 + n) (omega arith) refl))
decimal_length (suc j) n h = go (dec_lt n 10) (decimal_length j (n / 10))
  where
    go : Dec (n < 10) → (n / 10 < 10 ^ suc j → length (decimal (n / 10)) ≤ suc j) → length (decimal n) ≤ suc (suc j)
    go (yes l) ih = omega (arith, ap length (decimal_small n (48 + n) l refl))
    go (no l) ih =
        let e = ap length (decimal_more n (48 + n % 10) (omega arith) refl) in
        let b : n / 10 < 10 ^ suc j = omega (arith, pow-suc 10 (suc j), h) in
        omega (arith, length-append (decimal (n / 10)) ((48 + n % 10) ∷ []), e, ih b)

-- ---- hexadecimal digits

pub hex_byte : (n a b : ℕ) → a ≡ hex_digit (n / 16 % 16) → b ≡ hex_digit (n % 16) → (a ∷ []) ++ (b ∷ []) ≡ hexadecimal 2 n
unfolding hexadecimal
hex_byte n a b e f = rw (e, f) refl

hex_more : (c n m : ℕ) → m ≡ n / 256 → hexadecimal c m ++ hexadecimal 2 n ≡ hexadecimal (suc (suc c)) n
unfolding hexadecimal
hex_more c n m e =
    let twice : m ≡ n / 16 / 16 = omega arith in
    ap (λ (j : ℕ). hexadecimal c j ++ hexadecimal 2 n) twice
    ∙ sym (append_assoc (hexadecimal c (n / 16 / 16)) (hex_digit (n / 16 % 16) ∷ []) (hex_digit (n % 16) ∷ []))

pub hex_bytes : (n : ℕ) → hexadecimal 2 (n / 2 ^ 24) ++ hexadecimal 2 (n / 2 ^ 16) ++ hexadecimal 2 (n / 2 ^ 8) ++ hexadecimal 2 n ≡ hexadecimal 8 n
hex_bytes n =
    let third : List ℕ = hexadecimal 2 (n / 2 ^ 8) in
    let last : List ℕ = hexadecimal 2 n in
    ap (λ (t : List ℕ). t ++ third ++ last) (hex_more 2 (n / 2 ^ 16) (n / 2 ^ 24) (omega arith))
    ∙ ap (λ (t : List ℕ). t ++ last) (hex_more 4 (n / 2 ^ 8) (n / 2 ^ 16) (omega arith))
    ∙ hex_more 6 n (n / 2 ^ 8) (omega arith)

pub hexadecimal_length : (c n : ℕ) → length (hexadecimal c n) ≡ c
unfolding hexadecimal
hexadecimal_length zero n = refl
hexadecimal_length (suc c) n =
    length-append (hexadecimal c (n / 16)) (hex_digit (n % 16) ∷ []) ∙ ap (λ (m : ℕ). m + 1) (hexadecimal_length c (n / 16)) ∙ add-one c

-- each byte of a table, from place k on, is its place's digit
are_digits : (k : ℕ) → List ℕ → Bool
are_digits k [] = true
are_digits k (x ∷ xs) = eqb x (hex_digit k) && are_digits (suc k) xs

digit_at : (k : ℕ) (xs : List ℕ) → are_digits k xs ≡ true → (d : ℕ) → d < length xs → get_or xs d 0 ≡ hex_digit (k + d)
unfolding are_digits
digit_at k [] e d h = absurd (omega arith)
digit_at k (x ∷ xs) e zero h = eqb-true _ _ ((and-eq-true_iff (eqb x (hex_digit k)) (are_digits (suc k) xs)).0 e).0 ∙ ap hex_digit (sym (add-zero k))
digit_at k (x ∷ xs) e (suc d) h =
    digit_at (suc k) xs ((and-eq-true_iff (eqb x (hex_digit k)) (are_digits (suc k) xs)).0 e).1 d (le_of_suc-le-suc h)
    ∙ ap hex_digit (suc-add k d ∙ sym (add-suc k d))

-- the bytes of 0 to 9 and a to f
abbrev pub hex_table : List ℕ
hex_table = 48 ∷ 49 ∷ 50 ∷ 51 ∷ 52 ∷ 53 ∷ 54 ∷ 55 ∷ 56 ∷ 57 ∷ 97 ∷ 98 ∷ 99 ∷ 100 ∷ 101 ∷ 102 ∷ []

pub hex_table_lem : (d : ℕ) → d < 16 → get_or hex_table d 0 ≡ hex_digit d
unfolding hex_digit are_digits
hex_table_lem d h = digit_at 0 hex_table refl d h ∙ ap hex_digit (zero-add d)
