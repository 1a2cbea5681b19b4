-- The shape of a line. Assumes nothing.
-- `line_shaped`: a printed line has the shape, and says its name and its word. `line_free`: there is no line feed in it but its last byte.
-- `shape_line` and those before it: what the function that looks at a line answers.
use mathlib.Core.Path.{◌≡◌, refl, sym, ap, ◌∙◌, subst}
use mathlib.Core.Bool.{Bool, true, false, ◌&&◌, ◌||◌, and-false, or-true}
use mathlib.Core.List.{List, [], ◌∷◌, ◌++◌}
use Prim.Native.Nat.{ℕ, ◌/◌, ◌%◌, ◌^◌, ◌≤◌, ◌<◌}
use native.Mathlib.Omega.{arith}
use lib.Dec.{leb}
use lib.ListN.{length, length-append}
use Rattle.std.specs.Prelude.{if◌then◌else◌, Option, Some, None}
use Rattle.convergents.specs.Pairs.{Pair}
use Rattle.breaths.specs.Ratios.{word_of, fraction_of}
use Rattle.breaths.specs.declared.ratio.Ratio.{Ratio}
use Rattle.breaths.specs.declared.ratio.Ratio.TheVariants.{Void, Word}
use Rattle.text.specs.Numbers.{tab, hyphen, slash, point, decimal, hexadecimal}
use Rattle.text.specs.Scan.{same, parted}
use Rattle.text.specs.Columns.{thousandths, percentage, fraction_text, fraction_and_percentage, columns}
use Rattle.text.specs.Lines.{name_text}
use Rattle.text.specs.declared.line.Name.{Name}
use Rattle.text.specs.declared.line.Name.TheVariants.{Number, All}
use Rattle.text.proofs.PartLaws.{same_refl, Free, free_append, parted_whole, parted_cut, joined, joined_parted}
use Rattle.text.proofs.LineLaws.{name_number, name_all}
use Rattle.std.specs.List.{list_all}
use Rattle.shapes.specs.Fields.{is_whole, in_two, is_fraction, is_decimal}
use Rattle.shapes.specs.Words.{is_word, word_in, word_read}
use Rattle.shapes.specs.Shapes.{is_named, are_columns, shape_of_fields, shape_of}
use Rattle.shapes.specs.declared.shape.Said.{Said}
use Rattle.shapes.proofs.FieldLaws.{every_append, every_one, free_above, decimal_above, whole_decimal, fraction_shape, decimal_shape, or_yes, or_no}
use Rattle.shapes.proofs.WordLaws.{hexadecimal_above, word_shape, word_back}

-- ---- what is printed behind a word

-- two columns; no byte of them is below 45, the hyphen
pub record Columned (s : List ℕ) : Type 0 where
  pub left : List ℕ
  pub right : List ℕ
  pub is : s ≡ left ++ tab ++ right
  pub left_above : list_all (leb 45) left ≡ true
  pub right_above : list_all (leb 45) right ≡ true
  pub shape : are_columns left right ≡ true

fraction_above : (x : Pair) → list_all (leb 45) (fraction_text x) ≡ true
unfolding fraction_text
fraction_above x =
    every_append (leb 45) (decimal x.numerator ++ slash) (decimal x.denominator)
    (every_append (leb 45) (decimal x.numerator) slash (decimal_above 45 x.numerator (omega arith)) (every_one (leb 45) 47 refl))
    (decimal_above 45 x.denominator (omega arith))

percentage_above : (t : ℕ) → list_all (leb 45) (percentage t) ≡ true
unfolding percentage
percentage_above t =
    every_append (leb 45) (decimal (t / 10) ++ point) (decimal (t % 10))
    (every_append (leb 45) (decimal (t / 10)) point (decimal_above 45 (t / 10) (omega arith)) (every_one (leb 45) 46 refl))
    (decimal_above 45 (t % 10) (omega arith))

pub printed_columns : (r : Ratio) → Columned (fraction_and_percentage r)
unfolding fraction_and_percentage are_columns
printed_columns Void =
    record { left = hyphen; right = hyphen; is = refl; left_above = every_one (leb 45) 45 refl; right_above = every_one (leb 45) 45 refl; shape = rw (same_refl hyphen) refl }
printed_columns (Word w) =
    let x : Pair = fraction_of w in
    let t : ℕ = thousandths x.numerator x.denominator in
    record {
      left = fraction_text x;
      right = percentage t;
      is = refl;
      left_above = fraction_above x;
      right_above = percentage_above t;
      shape = rw (fraction_shape x, decimal_shape t) (or-true (same (fraction_text x) hyphen && same (percentage t) hyphen));
    }

-- there is no line feed in them
pub columns_free : (r : Ratio) → Free 10 (fraction_and_percentage r)
columns_free r =
    let s = printed_columns r in
    let k : Free 10 s.left = free_above 45 10 s.left (omega arith) s.left_above in
    let m : Free 10 s.right = free_above 45 10 s.right (omega arith) s.right_above in
    subst (Free 10) (sym s.is) (free_append 10 (s.left ++ tab) s.right (free_append 10 s.left tab k (refl, tt)) m)

-- ---- a printed line

-- what a line begins with
pub record Named (a : List ℕ) : Type 0 where
  pub above : list_all (leb 45) a ≡ true
  pub shape : is_named a ≡ true

all_named : Named (97 ∷ 108 ∷ 108 ∷ [])
unfolding is_named
all_named = record { above = refl; shape = rw (← name_all All refl, same_refl (97 ∷ 108 ∷ 108 ∷ [])) (or-true (is_whole (97 ∷ 108 ∷ 108 ∷ []))) }

number_named : (n : ℕ) → Named (decimal n)
unfolding is_named
number_named n = record { above = decimal_above 45 n (omega arith); shape = rw (whole_decimal n) refl }

pub name_named : (name : Name) → Named (name_text name)
name_named (Number n) = subst Named (name_number (Number n) n refl) (number_named n)
name_named All = subst Named (name_all All refl) all_named

-- a line without its line feed
abbrev pub body_of : Name → Ratio → List ℕ
body_of name r = name_text name ++ tab ++ columns r

module _ (name : Name) (r : Ratio) where
  abbrev a : List ℕ
  a = name_text name

  abbrev hex : List ℕ
  hex = hexadecimal 8 (word_of r)

  body_is : body_of name r ≡ a ++ tab ++ (hex ++ tab ++ fraction_and_percentage r)
  unfolding columns
  body_is = refl

  free_of : (b : ℕ) → b < 45 → Free b a × Free b hex
  free_of b h = (free_above 45 b a h (name_named name).above, free_above 45 b hex h (hexadecimal_above 45 8 (word_of r) (omega arith)))

  pub line_shaped : word_of r < 2 ^ 31 → shape_of (body_of name r) ≡ Some (record { name = length (name_text name); word = word_of r })
  unfolding shape_of shape_of_fields in_two
  line_shaped l =
      let s = printed_columns r in
      let c : List ℕ = s.left in
      let d : List ℕ = s.right in
      let f = free_of 9 (omega arith) in
      let k : Free 9 c = free_above 45 9 c (omega arith) s.left_above in
      let m : Free 9 d = free_above 45 9 d (omega arith) s.right_above in
      let last : parted 9 (fraction_and_percentage r) ≡ c ∷ d ∷ [] =
      ap (parted 9) s.is ∙ parted_cut 9 c d k ∙ ap (λ (z : List (List ℕ)). c ∷ z) (parted_whole 9 d m)
      in
      let parts : parted 9 (body_of name r) ≡ a ∷ hex ∷ c ∷ d ∷ [] =
      ap (parted 9) body_is ∙ parted_cut 9 a (hex ++ tab ++ fraction_and_percentage r) f.0
      ∙ ap (λ (z : List (List ℕ)). a ∷ z) (parted_cut 9 hex (fraction_and_percentage r) f.1 ∙ ap (λ (z : List (List ℕ)). hex ∷ z) last)
      in
      ap shape_of_fields parts
      ∙ rw ((name_named name).shape, word_shape (word_of r), s.shape)
      (ap (λ (w : ℕ). Some (record { name = length (name_text name); word = w })) (word_back (word_of r) l))

  -- and it has no line feed
  pub line_free : Free 10 (body_of name r)
  line_free =
      let t : Free 10 tab = (refl, tt) in
      let f = free_of 10 (omega arith) in
      subst (Free 10) (sym body_is)
      (free_append 10 (a ++ tab) (hex ++ tab ++ fraction_and_percentage r) (free_append 10 a tab f.0 t)
      (free_append 10 (hex ++ tab) (fraction_and_percentage r) (free_append 10 hex tab f.1 t) (columns_free r)))

-- ---- the answers of the functions

pub named_is : (f : List ℕ) → (is_whole f || same f (97 ∷ 108 ∷ 108 ∷ [])) ≡ is_named f
unfolding is_named
named_is f = ap (λ (t : List ℕ). is_whole f || same f t) (name_all All refl)

module _ (x y : List ℕ) {v : Bool} (is : v ≡ (same x hyphen && same y hyphen)) where
  pub columns_hyphens : v ≡ true → v ≡ are_columns x y
  unfolding are_columns
  columns_hyphens e = or_yes is (is_fraction x && is_decimal y) e

  pub columns_numbers : {u : Bool} → v ≡ false → u ≡ (is_fraction x && is_decimal y) → u ≡ are_columns x y
  unfolding are_columns
  columns_numbers e f = or_no is e f

-- ---- a line

module _ (line : List ℕ) where
  pub shape_one : parted 9 line ≡ line ∷ [] → None ≡ shape_of line
  unfolding shape_of shape_of_fields
  shape_one e = sym (ap shape_of_fields e)

  module _ (name behind : List ℕ) (e : parted 9 line ≡ name ∷ parted 9 behind) where
    pub shape_two : parted 9 behind ≡ behind ∷ [] → None ≡ shape_of line
    unfolding shape_of shape_of_fields in_two
    shape_two f =
        sym (ap shape_of_fields (e ∙ ap (λ (l : List (List ℕ)). name ∷ l) f)
        ∙ rw (and-false (is_word behind), and-false (is_named name)) refl)

    module _ (digits last : List ℕ) (f : parted 9 behind ≡ digits ∷ parted 9 last) where
      parts : shape_of line
          ≡ (if is_named name && (is_word digits && in_two are_columns (parted 9 last))
          then Some (record { name = length name; word = word_in digits }) else None)
      unfolding shape_of shape_of_fields
      parts = ap shape_of_fields (e ∙ ap (λ (l : List (List ℕ)). name ∷ l) f)

      pub shape_word : None ≡ word_read digits → None ≡ shape_of line
      unfolding word_read
      shape_word g = sym (go (is_word digits) refl)
        where
          go : (b : Bool) → is_word digits ≡ b → shape_of line ≡ None
          go false h = parts ∙ rw (h, and-false (is_named name)) refl
          go true h = let z : ◌≡◌ {A = Option ℕ} None (Some (word_in digits)) = g ∙ rw h refl in cc

      module _ {w : ℕ} (g : Some w ≡ word_read digits) where
        word_is : (is_word digits ≡ true) × (word_in digits ≡ w)
        unfolding word_read
        word_is = go (is_word digits) refl
          where
            go : (b : Bool) → is_word digits ≡ b → (is_word digits ≡ true) × (word_in digits ≡ w)
            go true h = let z : ◌≡◌ {A = Option ℕ} (Some w) (Some (word_in digits)) = g ∙ rw h refl in (h, cc)
            go false h = let z : ◌≡◌ {A = Option ℕ} (Some w) None = g ∙ rw h refl in cc

        pub shape_other : (is_named name && in_two are_columns (parted 9 last)) ≡ false → None ≡ shape_of line
        shape_other h = sym (parts ∙ rw (word_is.0, h) refl)

        pub shape_line : (is_named name && in_two are_columns (parted 9 last)) ≡ true → Some (record { name = length name; word = w }) ≡ shape_of line
        shape_line h = sym (parts ∙ rw (word_is.0, h, word_is.1) refl)

-- ---- what a line that has the shape says

-- its name is some of its bytes
pub name_within : (line : List ℕ) (x : Said) → shape_of line ≡ Some x → x.name ≤ length line
unfolding shape_of shape_of_fields
name_within line x e = go (parted 9 line) (joined_parted 9 line) e
  where
    other_line : None ≡ Some x → ⊥
    other_line q = let z : ◌≡◌ {A = ℕ} 0 1 = cc in omega arith

    line_inj : {y : Said} → Some y ≡ Some x → y ≡ x
    line_inj q = cc

    fields : (a b : List ℕ) (rest : List (List ℕ)) (t : Bool)
        → (if t then Some (record { name = length a; word = word_in b }) else None) ≡ Some x → x.name ≡ length a
    fields a b rest true q = sym (ap (λ (y : Said). y.name) (line_inj q))
    fields a b rest false q = absurd (other_line q)

    go : (ps : List (List ℕ)) → joined 9 ps ≡ line → shape_of_fields ps ≡ Some x → x.name ≤ length line
    go [] j q = absurd (other_line q)
    go (a ∷ []) j q = absurd (other_line q)
    go (a ∷ b ∷ rest) j q =
        let n : x.name ≡ length a = fields a b rest (is_named a && (is_word b && in_two are_columns rest)) q in
        omega (arith, n, ap length j, length-append (a ++ tab) (joined 9 (b ∷ rest)), length-append a tab)
