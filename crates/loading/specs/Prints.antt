-- The listing of words: what is printed of breaths' words and of a total's.
use Rattle.std.specs.Prelude.{◌≡◌, ℕ, suc, ◌≤◌, true, not, ◌&&◌, List, [], ◌∷◌, ◌++◌, length, ◌==◌, nat_le}
use Rattle.std.specs.Prelude.{if◌then◌else◌}
use Rattle.slash.specs.Answers.{Outcome, stop, done, ◌then◌}
use Rattle.breaths.specs.Ratios.{ratio_of}
use Rattle.breaths.specs.Sums.{most_breaths}
use Rattle.breaths.specs.declared.ratio.Ratio.{Ratio}
use Rattle.text.specs.Lines.{line_of, numbered}
use Rattle.text.specs.declared.line.Name.TheVariants.{All}
use Rattle.loading.specs.Listable.{listable, AllListable}

-- The ratios that words stand for.
unfoldable pub ratios_of : List ℕ → List Ratio
ratios_of [] = []
ratios_of (w ∷ ws) = ratio_of w ∷ ratios_of ws

-- The numbered lines of the words, and then `all` of the total.
unfoldable pub printed : (words : List ℕ) (total : ℕ) → List ℕ
printed ws total = numbered 1 (ratios_of ws) ++ line_of All (ratio_of total)

-- ---- exactly these are listings

-- 0 to 65,536 listable words, and a listable total, which is void where there are no words.
pub record IsListing (words : List ℕ) (total : ℕ) : Type 0 where
  pub few : length words ≤ most_breaths
  pub words_are : AllListable words
  pub total_is : listable total ≡ true
  pub void_of_none : length words ≡ 0 → total ≡ 0

-- ---- which words are printed

-- From line n on, as reading would stop its lines: 14 for a word behind 65,536 of them, 15 for one that isn't listable; at the total's line 14 where
-- it is the first and isn't void, 15 where the total isn't listable.
unfoldable pub print_check : (n : ℕ) (words : List ℕ) (total : ℕ) → Outcome (Unit {0})
print_check n [] total = if n == 1 && not (total == 0) then stop 14 n else if listable total then done tt else stop 15 n
print_check n (w ∷ ws) total =
    if nat_le n most_breaths then (if listable w then print_check (suc n) ws total else stop 15 n) else stop 14 n

-- The stop, or the listing.
unfoldable pub print_outcome : (words : List ℕ) (total : ℕ) → Outcome (List ℕ)
print_outcome ws total = print_check 1 ws total then λ _. done (printed ws total)
