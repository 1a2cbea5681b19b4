-- The listing of words. Assumes nothing.
-- `print_listing`: words are printed just where they are those of a listing. `print_loaded`: and what is printed is loaded as them again.
-- `checking_end`, `putting_end`: what the loops over the words come to.
use Rattle.std.proofs.Common.{◌≡◌, ℕ, zero, suc, ◌+◌, ◌-◌, ◌*◌, ◌<◌, ◌≤◌, Bool, true, false, not, ◌&&◌, eqb, leb, List, [], ◌∷◌, ◌++◌, ◌⊎◌, inl, inr, length, get_or, drop, sym, refl, ap, ◌∙◌, subst, add-one, arith, length-append, drop-cons, eq-eqb, ne_eqb, le-leb, leb-true}
use mathlib.Core.Bool.{and-false, false≢true}
use native.Mathlib.Decide.{ℕ_discrete}
use borrow.Author.Tests.{lt-leb, eqb-false}
use Rattle.std.specs.Prelude.{if◌then◌else◌, Ok, Err}
use Rattle.slash.specs.Answers.{Outcome, stop, done, ◌then◌}
use Rattle.slash.specs.declared.answer.Stop.{Stop}
use Rattle.slash.proofs.AnswerLaws.{no_stop}
use Rattle.breaths.specs.Ratios.{ratio_of}
use Rattle.breaths.specs.declared.ratio.Ratio.{Ratio}
use Rattle.text.specs.Lines.{line_of, numbered, is_name, line_in}
use Rattle.text.specs.Stores.{put, Stored, length_of, list_after}
use Rattle.text.specs.declared.line.Name.TheVariants.{Number, All}
use Rattle.text.proofs.NumberLaws.{put_append, chain, stored_length, stored_as}
use Rattle.text.proofs.ScanLaws.{drop_past}
use Rattle.text.proofs.LineLaws.{number_name, is_all, is_printable_lem, line_is, most_bytes_lem, number_length, all_length, stored_start}
use Rattle.loading.specs.Listable.{listable, AllListable}
use Rattle.loading.specs.Prints.{ratios_of, printed, IsListing, print_check, print_outcome}
use Rattle.loading.specs.Loads.{load}
use Rattle.loading.proofs.LineLaws.{ratio_printable}
use Rattle.loading.proofs.LoadLaws.{listing, load_printed}

-- ---- which words are printed

check_end : (n t : ℕ) → print_check n [] t ≡ (if eqb n 1 && not (eqb t 0) then stop 14 n else if listable t then done tt else stop 15 n)
unfolding print_check
check_end n t = refl

check_more : (n w : ℕ) (ws : List ℕ) (t : ℕ) → print_check n (w ∷ ws) t ≡ (if leb n 65536 then (if listable w then print_check (suc n) ws t else stop 15 n) else stop 14 n)
unfolding print_check
check_more n w ws t = refl

-- from line n on
record ListedFrom (n : ℕ) (ws : List ℕ) (t : ℕ) : Type 0 where
  few : n + length ws ≤ 65537
  words_are : AllListable ws
  total_is : listable t ≡ true
  void_of_none : n + length ws ≡ 1 → t ≡ 0

-- a total that is the first line's is void
first_is_void : (n t : ℕ) → (eqb n 1 && not (eqb t 0)) ≡ false → n ≡ 1 → t ≡ 0
first_is_void n t h e = go (ℕ_discrete t 0)
  where
    go : Dec (t ≡ 0) → t ≡ 0
    go (yes z) = z
    go (no z) = absurd (false≢true (sym h ∙ rw (eq-eqb n 1 e, ne_eqb t 0 z) refl))

may_be_first : (n t : ℕ) → (n ≡ 1 → t ≡ 0) → (eqb n 1 && not (eqb t 0)) ≡ false
may_be_first n t h = go (ℕ_discrete n 1)
  where
    go : Dec (n ≡ 1) → (eqb n 1 && not (eqb t 0)) ≡ false
    go (yes e) = rw (eq-eqb t 0 (h e)) (and-false (eqb n 1))
    go (no e) = rw (ne_eqb n 1 e) refl

check_only : (ws : List ℕ) (n t : ℕ) → n ≤ 65537 → print_check n ws t ≡ done tt → ListedFrom n ws t
check_only [] n t q h = go (eqb n 1 && not (eqb t 0)) refl (listable t) refl (sym (check_end n t) ∙ h)
  where
    go : (a : Bool) → (eqb n 1 && not (eqb t 0)) ≡ a → (b : Bool) → listable t ≡ b
        → ◌≡◌ {A = Outcome (Unit {0})} (if a then stop 14 n else if b then done tt else stop 15 n) (done tt)
        → ListedFrom n [] t
    go true e b f g = absurd (no_stop g)
    go false e true f g = record { few = omega arith; words_are = tt; total_is = f; void_of_none = λ o. first_is_void n t e (omega arith) }
    go false e false f g = absurd (no_stop g)
check_only (w ∷ ws) n t q h = go (leb n 65536) refl (listable w) refl (sym (check_more n w ws t) ∙ h) (λ l i. check_only ws (suc n) t l i)
  where
    go : (a : Bool) → leb n 65536 ≡ a → (b : Bool) → listable w ≡ b
        → (if a then (if b then print_check (suc n) ws t else stop 15 n) else stop 14 n) ≡ done tt
        → (suc n ≤ 65537 → print_check (suc n) ws t ≡ done tt → ListedFrom (suc n) ws t)
        → ListedFrom n (w ∷ ws) t
    go true e true f g ih =
        let l : n ≤ 65536 = leb-true _ _ e in
        let r = ih (omega arith) g in
        record { few = omega (arith, r.few); words_are = (f, r.words_are); total_is = r.total_is; void_of_none = λ o. r.void_of_none (omega arith) }
    go true e false f g ih = absurd (no_stop g)
    go false e b f g ih = absurd (no_stop g)

check_good : (ws : List ℕ) (n t : ℕ) → AllListable ws → listable t ≡ true → (n + length ws ≡ 1 → t ≡ 0) → n + length ws ≤ 65537 → print_check n ws t ≡ done tt
check_good [] n t a l h k = check_end n t ∙ rw (may_be_first n t (λ e. h (omega arith)), l) refl
check_good (w ∷ ws) n t a l h k =
    let m : n ≤ 65536 = omega arith in
    check_more n w ws t ∙ rw (le-leb _ _ m, a.0) (check_good ws (suc n) t a.1 l (λ e. h (omega arith)) (omega arith))

-- Words are printed just where they are those of a listing.
pub check_listing : (ws : List ℕ) (t : ℕ) → print_check 1 ws t ≡ done tt → IsListing ws t
check_listing ws t h =
    let r = check_only ws 1 t (omega arith) h in
    record { few = omega (arith, r.few); words_are = r.words_are; total_is = r.total_is; void_of_none = λ e. r.void_of_none (omega arith) }

pub print_listing : (ws : List ℕ) (t : ℕ) → IsListing ws t → print_outcome ws t ≡ done (printed ws t)
unfolding print_outcome
print_listing ws t i =
    ap (λ (o : Outcome (Unit {0})). o then λ _. done (printed ws t))
    (check_good ws 1 t i.words_are i.total_is (λ e. i.void_of_none (omega arith)) (omega (arith, i.few)))

-- What is printed is loaded as the words again.
pub print_loaded : (ws : List ℕ) (t : ℕ) (text : List ℕ) → print_outcome ws t ≡ done text → load text ≡ done (listing ws t)
unfolding print_outcome
print_loaded ws t text h = go (print_check 1 ws t) refl h
  where
    go : (o : Outcome (Unit {0})) → print_check 1 ws t ≡ o → (o then λ _. done (printed ws t)) ≡ done text → load text ≡ done (listing ws t)
    go (Err s) e g = absurd (no_stop g)
    go (Ok tt) e g = ap load (sym (done_same g)) ∙ load_printed ws t (check_listing ws t e)
      where
        done_same : {a b : List ℕ} → done a ≡ done b → a ≡ b
        done_same q = cc

-- ---- the loop that checks the words

pub record Checking (ws : List ℕ) (t i : ℕ) : Type 0 where
  pub within : i ≤ length ws
  pub whole : print_check 1 ws t ≡ print_check (i + 1) (drop i ws) t

pub checking_start : (ws : List ℕ) (t : ℕ) → Checking ws t 0
checking_start ws t = record { within = omega arith; whole = refl }

module _ {ws : List ℕ} {t i : ℕ} (c : Checking ws t i) where
  module _ (l : i < length ws) where
    here : print_check 1 ws t
        ≡ (if leb (i + 1) 65536 then (if listable (get_or ws i 0) then print_check (suc (i + 1)) (drop (suc i) ws) t else stop 15 (i + 1)) else stop 14 (i + 1))
    here =
        c.whole ∙ ap (λ (us : List ℕ). print_check (i + 1) us t) (drop-cons ws i 0 l)
        ∙ check_more (i + 1) (get_or ws i 0) (drop (suc i) ws) t

    pub checking_many : 65536 ≤ i → stop 14 (i + 1) ≡ print_check 1 ws t
    checking_many h = let m : 65536 < i + 1 = omega arith in sym (here ∙ rw (lt-leb _ _ m) refl)

    module _ (few : i < 65536) where
      within_few : leb (i + 1) 65536 ≡ true
      within_few = le-leb (i + 1) 65536 (omega arith)

      pub checking_not : false ≡ listable (get_or ws i 0) → stop 15 (i + 1) ≡ print_check 1 ws t
      checking_not e = sym (here ∙ rw (within_few, ← e) refl)

      pub checking_next : true ≡ listable (get_or ws i 0) → Checking ws t (i + 1)
      checking_next e =
          record {
            within = omega arith;
            whole = here ∙ rw (within_few, ← e) refl ∙ ap (λ (m : ℕ). print_check m (drop (suc i) ws) t) (sym (add-one (i + 1)))
                ∙ ap (λ (m : ℕ). print_check (i + 1 + 1) (drop m ws) t) (sym (add-one i));
          }

  module _ (l : length ws ≤ i) where
    last : print_check 1 ws t
        ≡ (if eqb (length ws + 1) 1 && not (eqb t 0) then stop 14 (length ws + 1) else if listable t then done tt else stop 15 (length ws + 1))
    last =
        let e : i ≡ length ws = omega (arith, c.within) in
        c.whole ∙ ap (λ (us : List ℕ). print_check (i + 1) us t) (drop_past ws i e) ∙ ap (λ (j : ℕ). print_check (j + 1) [] t) e
        ∙ check_end (length ws + 1) t

    pub checking_none : length ws ≡ 0 → (t ≡ 0 → ⊥) → stop 14 1 ≡ print_check 1 ws t
    checking_none z v =
        let e : length ws + 1 ≡ 1 = omega arith in
        sym (last ∙ rw (eq-eqb (length ws + 1) 1 e, ne_eqb t 0 v) (ap (stop 14) e))

    module _ (void : length ws ≡ 0 → t ≡ 0) where
      may_close : (eqb (length ws + 1) 1 && not (eqb t 0)) ≡ false
      may_close = may_be_first (length ws + 1) t (λ e. void (omega (arith, e)))

      pub checking_total : false ≡ listable t → stop 15 (length ws + 1) ≡ print_check 1 ws t
      checking_total e = sym (last ∙ rw (may_close, ← e) refl)

      pub checking_end : true ≡ listable t → done tt ≡ print_check 1 ws t
      checking_end e = sym (last ∙ rw (may_close, ← e) refl)

-- a total that may be the first line's
pub void_by : (ws : List ℕ) {t : ℕ} {b : Bool} → b ≡ eqb (length ws) 0 → ((b ≡ true) × (t ≡ 0)) ⊎ (b ≡ false) → length ws ≡ 0 → t ≡ 0
void_by ws e (inl h) z = h.1
void_by ws e (inr h) z = absurd (eqb-false (length ws) 0 (sym e ∙ h) z)

-- ---- the loop that stores their lines

lines_more : (n w : ℕ) (ws : List ℕ) → numbered n (ratios_of (w ∷ ws)) ≡ line_of (Number n) (ratio_of w) ++ numbered (suc n) (ratios_of ws)
unfolding numbered ratios_of
lines_more n w ws = refl

lines_none : (n : ℕ) → numbered n (ratios_of []) ≡ []
unfolding numbered ratios_of
lines_none n = refl

all_after : (i : ℕ) (ws : List ℕ) → AllListable ws → AllListable (drop i ws)
all_after zero ws a = a
all_after (suc i) [] a = tt
all_after (suc i) (w ∷ ws) a = all_after i ws a.1

-- so far the lines of i words are stored, and line 1 leaves room
pub record Putting (o : List ℕ) (ws o' : List ℕ) (at i : ℕ) : Type 0 where
  pub within : i ≤ length ws
  pub long : length o' ≡ length o
  pub room : at ≤ 33 * i
  pub spare : 1 ≤ i → at + 2 ≤ 33 * i
  pub bytes : put o 0 (numbered 1 (ratios_of ws)) ≡ put o' at (numbered (i + 1) (ratios_of (drop i ws)))
  pub next : length (numbered 1 (ratios_of ws)) ≡ at + length (numbered (i + 1) (ratios_of (drop i ws)))

pub putting_start : (o ws : List ℕ) → Putting o ws o 0 0
putting_start o ws =
    record { within = omega arith; long = refl; room = omega arith; spare = λ l. absurd (omega arith); bytes = refl; next = omega arith }

module _ {o ws o' : List ℕ} {at i : ℕ} (p : Putting o ws o' at i) (big : 2162719 ≤ length o) (few : length ws ≤ 65536) where
  module _ (all : AllListable ws) (l : i < length ws) where
    abbrev w : ℕ
    w = get_or ws i 0

    abbrev line : List ℕ
    line = line_of (Number (i + 1)) (ratio_of w)

    listed : listable (get_or ws i 0) ≡ true
    listed = (subst AllListable (drop-cons ws i 0 l) (all_after i ws all)).0

    named : is_name (Number (i + 1)) ≡ true
    named = number_name (i + 1) (omega arith) (omega arith)

    line_short : (length (line_of (Number (i + 1)) (ratio_of (get_or ws i 0))) ≤ 33) × (i ≡ 0 → length (line_of (Number (i + 1)) (ratio_of (get_or ws i 0))) ≤ 29)
    line_short =
        let s = is_printable_lem (ratio_of w) (ratio_printable w listed) in
        (most_bytes_lem (Number (i + 1)) (ratio_of w) named s, λ z. number_length 0 (i + 1) (ratio_of w) (omega arith) s)

    rest_is : numbered (i + 1) (ratios_of (drop i ws)) ≡ line ++ numbered (i + 1 + 1) (ratios_of (drop (i + 1) ws))
    rest_is =
        ap (λ (us : List ℕ). numbered (i + 1) (ratios_of us)) (drop-cons ws i 0 l) ∙ lines_more (i + 1) w (drop (suc i) ws)
        ∙ ap (λ (m : ℕ). line ++ numbered m (ratios_of (drop (suc i) ws))) (sym (add-one (i + 1)))
        ∙ ap (λ (m : ℕ). line ++ numbered (i + 1 + 1) (ratios_of (drop m ws))) (sym (add-one i))

    pub putting_next : (r : Ratio) → r ≡ ratio_of (get_or ws i 0) → {o'' : List ℕ} {k : ℕ} → Stored o' at (line_in (length o' - at) (Number (i + 1)) r) o'' k
        → Putting o ws o'' k (i + 1)
    putting_next r re {o''} {k} s =
        let room : 33 ≤ length o' - at = omega (arith, p.room, p.long) in
        let is : line_in (length o' - at) (Number (i + 1)) r ≡ line =
        ap (line_in (length o' - at) (Number (i + 1))) re ∙ sym (line_is o' at (Number (i + 1)) (ratio_of w) room named (ratio_printable w listed))
        in
        let t : Stored o' at line o'' k = stored_as is s in
        let rest : List ℕ = numbered (i + 1 + 1) (ratios_of (drop (i + 1) ws)) in
        record {
          within = omega arith;
          long = stored_length s ∙ p.long;
          room = omega (arith, p.room, t.next, line_short.0);
          spare = λ h. spare_next t.next;
          bytes = p.bytes ∙ ap (put o' at) rest_is ∙ put_append o' at line rest
              ∙ ap (λ (u : List ℕ). put u (at + length line) rest) (sym t.bytes) ∙ ap (λ (m : ℕ). put o'' m rest) (sym t.next);
          next = omega (arith, p.next, ap length rest_is, length-append line rest, t.next);
        }
      where
        spare_next : k ≡ at + length line → k + 2 ≤ 33 * (i + 1)
        spare_next e = go (ℕ_discrete i 0)
          where
            go : Dec (i ≡ 0) → k + 2 ≤ 33 * (i + 1)
            go (yes z) = omega (arith, p.room, line_short.1 z)
            go (no z) = omega (arith, p.spare (omega arith), line_short.0)

  putting_stored : length ws ≤ i → Stored o 0 (numbered 1 (ratios_of ws)) o' at
  unfolding put
  putting_stored l =
      let e : drop i ws ≡ [] = drop_past ws i (omega (arith, p.within)) in
      let none : numbered (i + 1) (ratios_of (drop i ws)) ≡ [] = ap (λ (us : List ℕ). numbered (i + 1) (ratios_of us)) e ∙ lines_none (i + 1) in
      record {
        bytes = sym (p.bytes ∙ ap (put o' at) none);
        next = omega (arith, p.next, ap length none);
      }

  pub putting_end : length ws ≤ i → Stored o 0 (numbered 1 (ratios_of ws)) o' at × (at + 33 ≤ 2162719)
  putting_end l = (putting_stored l, putting_room (ℕ_discrete i 0))
    where
      putting_room : Dec (i ≡ 0) → at + 33 ≤ 2162719
      putting_room (yes z) = omega (arith, p.room)
      putting_room (no z) = omega (arith, p.spare (omega arith), p.within)

-- ---- the whole call

module _ (ws : List ℕ) (t : ℕ) (o : List ℕ) where
  pub print_stopped : {s : Stop} → Err s ≡ print_check 1 ws t → (Err s ≡ length_of (print_outcome ws t)) × (o ≡ list_after (print_outcome ws t) o)
  unfolding print_outcome length_of list_after
  print_stopped {s} e =
      let h : print_outcome ws t ≡ Err s = sym (ap (λ (x : Outcome (Unit {0})). x then λ _. done (printed ws t)) e) in
      (ap length_of (sym h), ap (λ (x : Outcome (List ℕ)). list_after x o) (sym h))

  module _ (e : done tt ≡ print_check 1 ws t) where
    pub print_is : IsListing ws t
    print_is = check_listing ws t (sym e)

    pub print_done : 2162719 ≤ length o → {o' : List ℕ} {at : ℕ} → Stored o 0 (numbered 1 (ratios_of ws)) o' at × (at + 33 ≤ 2162719)
        → (r : Ratio) → r ≡ ratio_of t → {o'' : List ℕ} {k : ℕ} → Stored o' at (line_in (length o' - at) All r) o'' k
        → (done k ≡ length_of (print_outcome ws t)) × (o'' ≡ list_after (print_outcome ws t) o)
    unfolding printed length_of list_after
    print_done big {o'} {at} s r re {o''} {k} u =
        let long : length o' ≡ length o = stored_length s.0 in
        let shown = ratio_printable t print_is.total_is in
        let room : 33 ≤ length o' - at = omega (arith, s.1, long) in
        let is : line_in (length o' - at) All r ≡ line_of All (ratio_of t) =
        ap (line_in (length o' - at) All) re ∙ sym (line_is o' at All (ratio_of t) room (sym (is_all All refl)) shown)
        in
        let whole : Stored o 0 (printed ws t) o'' k = chain s.0 (stored_as is u) in
        let fits : length (printed ws t) ≤ length o =
        omega (arith, whole.next, (stored_as is u).next, all_length (ratio_of t) (is_printable_lem (ratio_of t) shown), s.1)
        in
        let w = stored_start whole fits in
        let h : print_outcome ws t ≡ done (printed ws t) = print_listing ws t print_is in
        (ap done w.0 ∙ ap length_of (sym h), w.1 ∙ ap (λ (x : Outcome (List ℕ)). list_after x o) (sym h))
