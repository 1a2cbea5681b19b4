-- Exactly the printed listings are loaded, and each as the words that it was printed of. Assumes nothing.
-- `load_printed`: loading what is printed of 0 to 65,536 listable words and a listable total, void where there are no words, gives these again.
-- `load_only`: what is loaded are such words, and printing them yields the text. `exactly`: both, as the reader's contract has them. `alike`: no
-- two texts are loaded alike. `first_differs`: a first line `all` that isn't that of no breaths. `behind_void`: what stands behind that one.
use Rattle.std.proofs.Common.{◌≡◌, ℕ, suc, ◌+◌, ◌≤◌, true, List, [], ◌∷◌, ◌++◌, length, take, sym, refl, ap, ◌∙◌, subst, append_assoc, append-nil, arith}
use Rattle.std.specs.Prelude.{Option, Some, None, Ok, Err}
use Rattle.slash.specs.Answers.{Outcome, stop, done}
use Rattle.slash.proofs.AnswerLaws.{done_inj, no_stop}
use Rattle.breaths.specs.Ratios.{word_of, ratio_of}
use Rattle.breaths.specs.declared.ratio.Ratio.{Ratio}
use Rattle.breaths.specs.declared.ratio.Ratio.TheVariants.{Void}
use Rattle.breaths.proofs.RatioLaws.{of_zero}
use Rattle.text.specs.Numbers.{line_feed, decimal_from, decimal, hex_digit, hexadecimal}
use Rattle.text.specs.Scan.{is_digit, same, parted}
use Rattle.text.specs.Columns.{fraction_and_percentage, columns}
use Rattle.text.specs.Lines.{name_text, line_of, numbered}
use Rattle.text.specs.declared.line.Name.{Name}
use Rattle.text.specs.declared.line.Name.TheVariants.{Number, All}
use Rattle.text.proofs.PartLaws.{Some as Part, Free, parted_some, parted_whole, parted_cut, joined, joined_parted}
use Rattle.text.proofs.LineLaws.{line_parts}
use Rattle.shapes.specs.Fields.{is_whole, in_two}
use Rattle.shapes.specs.Words.{is_hex_digit, is_word, hex_value, hex_from, word_in}
use Rattle.shapes.specs.Shapes.{is_named, are_columns, shape_of_fields, shape_of}
use Rattle.shapes.specs.declared.shape.Said.{Said}
use Rattle.shapes.proofs.ShapeLaws.{body_of, line_free}
use Rattle.loading.specs.Listable.{listable, AllListable}
use Rattle.loading.specs.Prints.{ratios_of, printed, IsListing}
use Rattle.loading.specs.declared.line.Entry.{Entry}
use Rattle.loading.specs.Lines.{agreeing, total_at, in_sequence, entry_of}
use Rattle.loading.specs.Loads.{Listing, at_end, behind_all, ended_from, with_word, load_from, load, Exactly}
use Rattle.loading.proofs.ListableLaws.{listable_zero}
use Rattle.loading.proofs.LineLaws.{entry_breath, entry_total, Taken, entry_only, first_other}

-- ---- an example

-- Void breaths 1 and 3, and a void total: 14 at line 2. (Behind the bytes of each name those of a tab, 00000000 and two hyphens, tab-parted, and of a line
-- feed.)
pub number_left_out : (let void : List ℕ = 9 ∷ 48 ∷ 48 ∷ 48 ∷ 48 ∷ 48 ∷ 48 ∷ 48 ∷ 48 ∷ 9 ∷ 45 ∷ 9 ∷ 45 ∷ 10 ∷ [] in
    load (49 ∷ (void ++ (51 ∷ (void ++ (97 ∷ 108 ∷ 108 ∷ void))))) ≡ stop 14 2)
unfolding load load_from with_word parted shape_of shape_of_fields is_named is_whole is_digit is_word is_hex_digit word_in hex_from hex_value in_two are_columns same name_text entry_of in_sequence total_at agreeing decimal decimal_from listable ratio_of line_of columns hexadecimal hex_digit fraction_and_percentage word_of at_end ended_from
number_left_out = refl

-- ---- what is loaded

abbrev pub listing : List ℕ → ℕ → Listing
listing ws t = record { words = ws; total = t }

-- ---- what is printed from line n on

abbrev pub printed_from : (n : ℕ) (words : List ℕ) (total : ℕ) → List ℕ
printed_from n ws t = numbered n (ratios_of ws) ++ line_of All (ratio_of t)

pub printed_end : (n t : ℕ) → printed_from n [] t ≡ line_of All (ratio_of t)
unfolding numbered ratios_of
printed_end n t = refl

pub printed_more : (n w : ℕ) (ws : List ℕ) (t : ℕ) → printed_from n (w ∷ ws) t ≡ line_of (Number n) (ratio_of w) ++ printed_from (suc n) ws t
unfolding numbered ratios_of
printed_more n w ws t = append_assoc (line_of (Number n) (ratio_of w)) (numbered (suc n) (ratios_of ws)) (line_of All (ratio_of t))

-- ---- a line and what stands behind it

abbrev pub follow : ℕ → Outcome Entry → List (List ℕ) → Outcome Listing
follow n (Err s) ps = Err s
follow n (Ok (Entry.Breath w)) ps = with_word w (load_from (suc n) ps)
follow n (Ok (Entry.Total w)) ps = ended_from (suc n) w ps

load_next : (n : ℕ) (line next : List ℕ) (more : List (List ℕ)) (o : Outcome Entry) → entry_of n (shape_of line) line ≡ o
    → load_from n (line ∷ next ∷ more) ≡ follow n o (next ∷ more)
unfolding load_from
load_next n line next more o e =
    ap (λ (p : Outcome Entry). elim p as (λ z. Outcome Listing) [
      | Err s ↦ Err s
      | Ok e ↦ elim e as (λ z. Outcome Listing) [
        | Entry.Breath w ↦ with_word w (load_from (suc n) (next ∷ more))
        | Entry.Total w ↦ ended_from (suc n) w (next ∷ more)
      ]
    ]) e ∙ go o
  where
    go : (p : Outcome Entry) → (elim p as (λ z. Outcome Listing) [
      | Err s ↦ Err s
      | Ok e ↦ elim e as (λ z. Outcome Listing) [
        | Entry.Breath w ↦ with_word w (load_from (suc n) (next ∷ more))
        | Entry.Total w ↦ ended_from (suc n) w (next ∷ more)
      ]
    ]) ≡ follow n p (next ∷ more)
    go (Err s) = refl
    go (Ok (Entry.Breath w)) = refl
    go (Ok (Entry.Total w)) = refl

pub load_line : (n : ℕ) (line : List ℕ) (ps : List (List ℕ)) → Part ps → (o : Outcome Entry) → entry_of n (shape_of line) line ≡ o
    → load_from n (line ∷ ps) ≡ follow n o ps
load_line n line ps s o e =
    ap (λ (qs : List (List ℕ)). load_from n (line ∷ qs)) s.is ∙ load_next n line s.first s.others o e
    ∙ ap (follow n o) (sym s.is)

-- ---- printed listings are loaded

pub parted_line : (name : Name) (r : Ratio) (rest : List ℕ) → parted 10 (line_of name r ++ rest) ≡ body_of name r ∷ parted 10 rest
parted_line name r rest =
    ap (λ (u : List ℕ). parted 10 (u ++ rest)) (sym (line_parts name r)) ∙ parted_cut 10 (body_of name r) rest (line_free name r)

ended : (n t : ℕ) → ended_from n t ([] ∷ []) ≡ done (listing [] t)
unfolding ended_from at_end
ended n t = refl

with_word_lem : (w : ℕ) (l : Listing) → with_word w (done l) ≡ done (listing (w ∷ l.words) l.total)
unfolding with_word
with_word_lem w l = refl

-- a breath's line, and what is loaded behind it
pub load_breath : (n w : ℕ) → listable w ≡ true → n ≤ 65536 → (rest : List ℕ)
    → load_from n (parted 10 (line_of (Number n) (ratio_of w) ++ rest)) ≡ with_word w (load_from (suc n) (parted 10 rest))
load_breath n w l h rest =
    ap (load_from n) (parted_line (Number n) (ratio_of w) rest)
    ∙ load_line n (body_of (Number n) (ratio_of w)) (parted 10 rest) (parted_some 10 rest) (done (Entry.Breath w)) (entry_breath n w l h)

from_printed : (ws : List ℕ) (t n : ℕ) → AllListable ws → listable t ≡ true → (n + length ws ≡ 1 → t ≡ 0) → n + length ws ≤ 65537
    → load_from n (parted 10 (printed_from n ws t)) ≡ done (listing ws t)
from_printed [] t n a l h k =
    let line : List ℕ = body_of All (ratio_of t) in
    let parts : parted 10 (printed_from n [] t) ≡ line ∷ [] ∷ [] =
    ap (parted 10) (printed_end n t ∙ sym (append-nil (line_of All (ratio_of t)))) ∙ parted_line All (ratio_of t) []
    ∙ ap (λ (z : List (List ℕ)). line ∷ z) (parted_whole 10 [] tt)
    in
    ap (load_from n) parts
    ∙ load_line n line ([] ∷ []) (record { first = []; others = []; is = refl }) (done (Entry.Total t)) (entry_total n t l (λ e. h (omega arith)))
    ∙ ended (suc n) t
from_printed (w ∷ ws) t n a l h k =
    ap (λ (u : List ℕ). load_from n (parted 10 u)) (printed_more n w ws t)
    ∙ load_breath n w a.0 (omega arith) (printed_from (suc n) ws t)
    ∙ ap (with_word w) (from_printed ws t (suc n) a.1 l (λ e. h (omega arith)) (omega arith))
    ∙ with_word_lem w (listing ws t)

pub load_printed : (ws : List ℕ) (t : ℕ) → IsListing ws t → load (printed ws t) ≡ done (listing ws t)
unfolding load printed
load_printed ws t i = from_printed ws t 1 i.words_are i.total_is (λ e. i.void_of_none (omega arith)) (omega (arith, i.few))

-- ---- a night with nothing in it

-- A text without a byte has no `all`.
pub no_text : load [] ≡ stop 14 1
unfolding load load_from parted at_end
no_text = refl

-- A first line `all` that has the shape and differs anywhere from that of no breaths is 14, whatever stands behind it.
pub first_differs : (line rest : List ℕ) → Free 10 line → (x : Said) → shape_of line ≡ Some x → take x.name line ≡ name_text All
    → (line ++ line_feed ≡ line_of All Void → ⊥) → load (line ++ line_feed ++ rest) ≡ stop 14 1
unfolding load
first_differs line rest f x s n d =
    ap (load_from 1) (parted_cut 10 line rest f) ∙ load_line 1 line (parted 10 rest) (parted_some 10 rest) (stop 14 1) (first_other line x s n d)

-- What stands behind that of no breaths stands behind `all`.
pub behind_void : (rest : List ℕ) → load (line_of All Void ++ rest) ≡ ended_from 2 0 (parted 10 rest)
unfolding load
behind_void rest =
    let line : List ℕ = body_of All (ratio_of 0) in
    let first : entry_of 1 (shape_of line) line ≡ done (Entry.Total 0) = entry_total 1 0 (sym (listable_zero 0 refl)) (λ e. refl) in
    ap (λ (r : Ratio). load_from 1 (parted 10 (line_of All r ++ rest))) (of_zero 0 refl) ∙ ap (load_from 1) (parted_line All (ratio_of 0) rest)
    ∙ load_line 1 line (parted 10 rest) (parted_some 10 rest) (done (Entry.Total 0)) first

-- ---- and nothing else is

at_end_only : (n : ℕ) (rest : List ℕ) (o : Outcome Listing) (l : Listing) → at_end n rest o ≡ done l → (rest ≡ []) × (o ≡ done l)
unfolding at_end
at_end_only n [] o l h = (refl, h)
at_end_only n (x ∷ xs) o l h = absurd (no_stop h)

behind_only : (n : ℕ) (s : Option Said) (l : Listing) → behind_all n s ≡ done l → ⊥
unfolding behind_all
behind_only n None l h = no_stop h
behind_only n (Some x) l h = no_stop h

ended_only : (n t : ℕ) (ps : List (List ℕ)) (l : Listing) → ended_from n t ps ≡ done l → (ps ≡ [] ∷ []) × (listing [] t ≡ l)
unfolding ended_from
ended_only n t [] l h = absurd (no_stop h)
ended_only n t (rest ∷ []) l h =
    let x = at_end_only n rest (done (listing [] t)) l h in
    (ap (λ (r : List ℕ). r ∷ []) x.0, done_inj x.1)
ended_only n t (line ∷ next ∷ more) l h = absurd (behind_only n (shape_of line) l h)

-- a word in front
pub record Front (w : ℕ) (o : Outcome Listing) (l : Listing) : Type 0 where
  pub behind : Listing
  pub is : o ≡ done behind
  pub whole : listing (w ∷ behind.words) behind.total ≡ l

pub front : (w : ℕ) (o : Outcome Listing) (l : Listing) → with_word w o ≡ done l → Front w o l
unfolding with_word
front w (Err s) l h = absurd (no_stop h)
front w (Ok k) l h = record { behind = k; is = refl; whole = done_inj h }

record Read (n : ℕ) (ps : List (List ℕ)) (l : Listing) : Type 0 where
  text : joined 10 ps ≡ printed_from n l.words l.total
  words_are : AllListable l.words
  total_is : listable l.total ≡ true
  few : n + length l.words ≤ 65537
  void_of_none : n + length l.words ≡ 1 → l.total ≡ 0

read_total : (n : ℕ) (line : List ℕ) (w : ℕ) → n ≤ 65537 → Taken n line (Entry.Total w) → Read n (line ∷ [] ∷ []) (listing [] w)
read_total n line w h t =
    record {
      text = append-nil (line ++ line_feed) ∙ t.0 ∙ sym (printed_end n w);
      words_are = tt;
      total_is = t.1;
      few = omega arith;
      void_of_none = λ e. t.2 (omega arith);
    }

read_breath : (n : ℕ) (line next : List ℕ) (more : List (List ℕ)) (w : ℕ) (k : Listing) → Taken n line (Entry.Breath w) → Read (suc n) (next ∷ more) k
    → Read n (line ∷ next ∷ more) (listing (w ∷ k.words) k.total)
read_breath n line next more w k t r =
    record {
      text = ap (λ (x : List ℕ). line ++ line_feed ++ x) r.text ∙ ap (λ (x : List ℕ). x ++ printed_from (suc n) k.words k.total) t.0
          ∙ sym (printed_more n w k.words k.total);
      words_are = (t.1, r.words_are);
      total_is = r.total_is;
      few = omega (arith, r.few);
      void_of_none = λ e. r.void_of_none (omega arith);
    }

read_only : (ps : List (List ℕ)) (n : ℕ) (l : Listing) → n ≤ 65537 → load_from n ps ≡ done l → Read n ps l
unfolding load_from
read_only [] n l q h = absurd (no_stop h)
read_only (rest ∷ []) n l q h = absurd (no_stop (at_end_only n rest (stop 14 n) l h).1)
read_only (line ∷ next ∷ more) n l q h =
    go (entry_of n (shape_of line) line) refl (λ k f i. read_only (next ∷ more) (suc n) k f i)
  where
    go : (o : Outcome Entry) → entry_of n (shape_of line) line ≡ o
        → ((k : Listing) → suc n ≤ 65537 → load_from (suc n) (next ∷ more) ≡ done k → Read (suc n) (next ∷ more) k)
        → Read n (line ∷ next ∷ more) l
    go (Err s) e ih = absurd (no_stop (sym (load_next n line next more _ e) ∙ h))
    go (Ok (Entry.Breath w)) e ih =
        let t = entry_only n (shape_of line) line (Entry.Breath w) e in
        let f = front w (load_from (suc n) (next ∷ more)) l (sym (load_next n line next more _ e) ∙ h) in
        subst (Read n (line ∷ next ∷ more)) f.whole (read_breath n line next more w f.behind t (ih f.behind (omega (arith, t.2)) f.is))
    go (Ok (Entry.Total w)) e ih =
        let t = entry_only n (shape_of line) line (Entry.Total w) e in
        let x = ended_only (suc n) w (next ∷ more) l (sym (load_next n line next more _ e) ∙ h) in
        subst (Read n (line ∷ next ∷ more)) x.1
        (subst (λ (qs : List (List ℕ)). Read n (line ∷ qs) (listing [] w)) (sym x.0) (read_total n line w q t))

pub load_only : (text : List ℕ) (l : Listing) → load text ≡ done l → IsListing l.words l.total × (text ≡ printed l.words l.total)
unfolding load printed
load_only text l h =
    let r = read_only (parted 10 text) 1 l (omega arith) h in (
      record { few = omega (arith, r.few); words_are = r.words_are; total_is = r.total_is; void_of_none = λ e. r.void_of_none (omega arith) },
      sym (joined_parted 10 text) ∙ r.text,
    )

-- Both.
pub exactly : (text : List ℕ) → Exactly text
exactly text =
    record {
      recovered = λ ws t i e. ap load e ∙ load_printed ws t i;
      printed_again = load_only text;
    }

-- No two texts are loaded alike.
pub alike : (s t : List ℕ) (l : Listing) → load s ≡ done l → load t ≡ done l → s ≡ t
alike s t l a b = (load_only s l a).1 ∙ sym (load_only t l b).1
