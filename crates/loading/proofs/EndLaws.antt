-- Where a line ends. Assumes nothing.
-- `marking_end`: the lowest mark of the first bytes is that of the first line feed.
use Rattle.std.proofs.Common.{◌≡◌, ℕ, zero, suc, ◌+◌, ◌*◌, ◌/◌, ◌%◌, ◌^◌, ◌<◌, ◌≤◌, Bool, true, false, eqb, List, [], ◌∷◌, length, get_or, take, drop, sym, refl, ap, ◌∙◌, pow-suc, arith, length-drop, length-take-le}
use mir.Val.{bool_byte}
use lib.Count.{under, count_trailing_zeros}
use lib.Seq.{slice_empty, slice-cons}
use Rattle.std.specs.Prelude.{if◌then◌else◌}
use Rattle.text.specs.Scan.{length_before}
use Rattle.text.proofs.ScanLaws.{before_step}
use Rattle.loading.specs.Steps.{end_mark}

-- ---- marks

-- The marks of bytes, that of the first lowest, and a 1 above them.
pub marks_of : List ℕ → ℕ
marks_of [] = 1
marks_of (x ∷ xs) = marks_of xs * 2 + end_mark x

mark_is : (x : ℕ) (t : Bool) → eqb x 10 ≡ t → end_mark x ≡ (if t then 1 else 0)
unfolding end_mark
mark_is x t e = ap (λ (u : Bool). if u then 1 else 0) e

pub mark_of : (x : ℕ) → bool_byte (eqb x 10) ≡ end_mark x
mark_of x = go (eqb x 10) refl
  where
    go : (t : Bool) → eqb x 10 ≡ t → bool_byte (eqb x 10) ≡ end_mark x
    go true e = ap bool_byte e ∙ sym (mark_is x true e)
    go false e = ap bool_byte e ∙ sym (mark_is x false e)

pub mark_small : (x m : ℕ) → m ≡ end_mark x → m ≤ 1
mark_small x m h = go (eqb x 10) refl
  where
    go : (t : Bool) → eqb x 10 ≡ t → m ≤ 1
    go true e = omega (arith, mark_is x true e)
    go false e = omega (arith, mark_is x false e)

-- as many zeros stand below the lowest as bytes before the first line feed
lowest : (d : ℕ) (xs : List ℕ) → length xs < d → count_trailing_zeros d (marks_of xs) ≡ length_before 10 xs
unfolding count_trailing_zeros marks_of length_before
lowest zero xs l = absurd (omega arith)
lowest (suc d) [] l = refl
lowest (suc d) (x ∷ xs) l = go (eqb x 10) refl (lowest d xs)
  where
    go : (t : Bool) → eqb x 10 ≡ t → (length xs < d → count_trailing_zeros d (marks_of xs) ≡ length_before 10 xs)
        → count_trailing_zeros (suc d) (marks_of (x ∷ xs)) ≡ length_before 10 (x ∷ xs)
    go true e ih =
        let r : (marks_of xs * 2 + end_mark x) % 2 ≡ 1 = omega (arith, mark_is x true e) in
        ap (λ (b : ℕ). under b (count_trailing_zeros d ((marks_of xs * 2 + end_mark x) / 2))) r ∙ sym (before_step 10 x xs true e)
    go false e ih =
        let r : (marks_of xs * 2 + end_mark x) % 2 ≡ 0 = omega (arith, mark_is x false e) in
        let q : (marks_of xs * 2 + end_mark x) / 2 ≡ marks_of xs = omega (arith, mark_is x false e) in
        ap (λ (b : ℕ). under b (count_trailing_zeros d ((marks_of xs * 2 + end_mark x) / 2))) r
        ∙ ap (λ (m : ℕ). suc (count_trailing_zeros d m)) q ∙ ap suc (ih (omega arith)) ∙ sym (before_step 10 x xs false e)

-- and they are few
marks_small : (n : ℕ) (xs : List ℕ) → length xs ≤ n → marks_of xs < 2 ^ suc n
unfolding marks_of
marks_small zero [] l = omega arith
marks_small zero (x ∷ xs) l = absurd (omega arith)
marks_small (suc n) [] l = omega (arith, marks_small n [] (omega arith), pow-suc 2 (suc n))
marks_small (suc n) (x ∷ xs) l = omega (arith, marks_small n xs (omega arith), pow-suc 2 (suc n), mark_small x (end_mark x) refl)

-- ---- the loop over them

pub record Marking (bs : List ℕ) (marks i : ℕ) : Type 0 where
  pub long : 16 ≤ length bs
  pub within : i ≤ 16
  pub is : marks ≡ marks_of (drop i (take 16 bs))

pub marking_start : (bs : List ℕ) → 16 ≤ length bs → Marking bs 1 16
unfolding marks_of
marking_start bs l = record { long = l; within = omega arith; is = ap marks_of (sym (slice_empty 16 bs)) }

module _ {bs : List ℕ} {marks i : ℕ} (s : Marking bs marks i) where
  pub marking_small : marks < 131072
  marking_small =
      omega (arith, s.is, marks_small 16 (drop i (take 16 bs)) (omega (arith, length-drop i (take 16 bs), length-take-le 16 bs s.long)))

  pub marking_next : (j : ℕ) → i ≡ suc j → (m : ℕ) → m ≡ end_mark (get_or bs j 0) → Marking bs (marks * 2 + m) j
  unfolding marks_of
  marking_next j e m me =
      record {
        long = s.long;
        within = omega (arith, s.within);
        is = ap (λ (b : ℕ). marks * 2 + b) me ∙ ap (λ (x : ℕ). x * 2 + end_mark (get_or bs j 0)) (s.is ∙ ap (λ (k : ℕ). marks_of (drop k (take 16 bs))) e)
            ∙ ap marks_of (sym (slice-cons j 16 bs 0 (omega (arith, s.within)) s.long));
      }

  pub marking_end : i ≡ 0 → count_trailing_zeros 32 marks ≡ length_before 10 (take 16 bs)
  marking_end z =
      ap (count_trailing_zeros 32) (s.is ∙ ap (λ (k : ℕ). marks_of (drop k (take 16 bs))) z)
      ∙ lowest 32 (take 16 bs) (omega (arith, length-take-le 16 bs s.long))
