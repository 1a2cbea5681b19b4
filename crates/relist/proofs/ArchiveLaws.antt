-- What a night printed is loaded as its words. Assumes nothing.
-- `night_loaded`: loading what an unstopped run printed recovers the words of the recording's own breaths, and its total's; `night_printed`: the
-- listing is what is printed of them; `nothing_loaded`: of a recording without a byte, no words and a void total.
use mathlib.Core.Path.{◌≡◌, refl, sym, ap, ◌∙◌}
use mathlib.Core.Bool.{Bool, true, false}
use mathlib.Core.List.{List, [], ◌∷◌, ◌++◌}
use Prim.Native.Nat.{ℕ, suc}
use native.Mathlib.Omega.{arith}
use lib.ListN.{length}
use Rattle.std.specs.Prelude.{if◌then◌else◌}
use Rattle.convergents.specs.Pairs.{differs}
use Rattle.convergents.specs.Convergents.{euclid, quotients, recurrence, convergents}
use Rattle.convergents.specs.Rounding.{held, last_held, round}
use Rattle.slash.specs.Answers.{done}
use Rattle.slash.specs.Bits.{bit_of, word_of_fields}
use Rattle.slash.specs.Formats.{holds}
use Rattle.slash.specs.Writing.{fixed_word, pair_word, word_for}
use Rattle.slash.specs.Numbers.{pair_of}
use Rattle.slash.proofs.AnswerLaws.{if_case}
use Rattle.breaths.specs.Ratios.{word_of, ratio_of, ratio_word}
use Rattle.breaths.specs.Rates.{is_rate}
use Rattle.breaths.specs.Breaths.{span, breath_of, is_void, breath_ratio, breath_word}
use Rattle.breaths.specs.Sums.{not_void, total, sums_of, none_left, night_ratio, night_word}
use Rattle.breaths.specs.Steps.{Proper}
use Rattle.breaths.specs.declared.breath.Breath.{Breath}
use Rattle.breaths.specs.declared.sums.Sums.{Sums}
use Rattle.breaths.specs.declared.ratio.Ratio.{Ratio}
use Rattle.breaths.specs.declared.ratio.Ratio.TheVariants.{Void, Word}
use Rattle.breaths.proofs.RatioLaws.{ratio_of_word, good_breath, some_left, breath_proportion, night_proportion}
use Rattle.breaths.proofs.SumLaws.{sums_proper}
use Rattle.text.specs.Scan.{length_before, is_digit, parted, same}
use Rattle.text.specs.Lines.{line_of, numbered}
use Rattle.text.specs.declared.line.Name.TheVariants.{All}
use Rattle.recording.specs.Lines.{digits_from, read_tick, from_start, from_ticks, from_fields, read_line}
use Rattle.recording.specs.Openings.{from_rate, from_rate_fields, read_rate, first_of}
use Rattle.recording.specs.Reading.{from_line, next_of, breaths_from, breaths_on, rate_in, breaths_in, recording_check}
use Rattle.recording.proofs.ReadingLaws.{nothing_in_it, breaths_most}
use Rattle.listing.specs.Listing as listing
use Rattle.listing.specs.Example.{example_recording}
use Rattle.listing.proofs.ListingLaws.{listing_breaths}
use Rattle.loading.specs.Listable.{listable, AllListable}
use Rattle.loading.specs.Prints.{ratios_of, printed, IsListing}
use Rattle.loading.specs.Loads.{load}
use Rattle.loading.proofs.ListableLaws.{listable_zero, ratio_listable}
use Rattle.loading.proofs.LoadLaws.{load_printed}
use Rattle.relist.specs.Archive.{breath_words, words_of, Recovered}

-- ---- an example

-- The words of the paper's recording, and their total's: 01150282, 00020005, 00000000 and 012502aa.
pub example_words : words_of example_recording ≡ record { words = 18154114 ∷ 131077 ∷ 0 ∷ []; total = 19202730 }
unfolding example_recording words_of breath_words listing.sums_in rate_in breaths_in first_of read_rate from_rate_fields same from_rate is_rate breaths_on breaths_from next_of from_line read_line from_start parted from_fields from_ticks length_before read_tick digits_from is_digit breath_of span is_void breath_word sums_of not_void total none_left night_word ratio_word word_for pair_word fixed_word word_of_fields bit_of pair_of round last_held held convergents recurrence quotients euclid differs holds
example_words = refl

-- ---- a breath's word, and a night's

word_choice : (t : Bool) (w : ℕ) → word_of (if t then Void else Word w) ≡ (if t then 0 else w)
unfolding word_of
word_choice true w = refl
word_choice false w = refl

breath_word_is : (rate : ℕ) (b : Breath) → word_of (breath_ratio rate b) ≡ breath_word rate b
unfolding breath_ratio breath_word
breath_word_is rate b = word_choice (is_void rate b) (ratio_word b.inspiration b.whole)

breath_ratio_is : (rate : ℕ) (b : Breath) → ratio_of (breath_word rate b) ≡ breath_ratio rate b
breath_ratio_is rate b = ap ratio_of (sym (breath_word_is rate b)) ∙ ratio_of_word (breath_ratio rate b) (breath_proportion rate b)

night_word_is : (s : Sums) → word_of (night_ratio s) ≡ night_word s
unfolding night_ratio night_word
night_word_is s = word_choice (none_left s) (ratio_word s.inspiration s.whole)

night_ratio_is : (s : Sums) → Proper s → ratio_of (night_word s) ≡ night_ratio s
night_ratio_is s p = ap ratio_of (sym (night_word_is s)) ∙ ratio_of_word (night_ratio s) (night_proportion s p)

-- ---- they are listable

breath_listable : (rate : ℕ) (b : Breath) → listable (breath_word rate b) ≡ true
unfolding breath_word
breath_listable rate b =
    if_case (λ (w : ℕ). listable w ≡ true) (is_void rate b) _ _ (λ h. sym (listable_zero 0 refl))
    (λ h. ratio_listable _ _ (good_breath rate b h).0 (good_breath rate b h).1)

night_listable : (s : Sums) → Proper s → listable (night_word s) ≡ true
unfolding night_word
night_listable s p =
    if_case (λ (w : ℕ). listable w ≡ true) (none_left s) _ _ (λ h. sym (listable_zero 0 refl)) (λ h. ratio_listable _ _ (some_left s h) p)

module _ (rate : ℕ) where
  words_listable : (bs : List Breath) → AllListable (breath_words rate bs)
  unfolding breath_words
  words_listable [] = tt
  words_listable (b ∷ bs) = (breath_listable rate b, words_listable bs)

  words_length : (bs : List Breath) → length (breath_words rate bs) ≡ length bs
  unfolding breath_words
  words_length [] = refl
  words_length (b ∷ bs) = ap suc (words_length bs)

  -- their ratios are those of the breaths
  words_ratios : (bs : List Breath) → ratios_of (breath_words rate bs) ≡ listing.ratios_of rate bs
  unfolding ratios_of listing.ratios_of breath_words
  words_ratios [] = refl
  words_ratios (b ∷ bs) =
      ap (λ (r : Ratio). r ∷ ratios_of (breath_words rate bs)) (breath_ratio_is rate b) ∙ ap (λ (rs : List Ratio). breath_ratio rate b ∷ rs) (words_ratios bs)

  -- of no breaths the word is void
  no_words : (bs : List Breath) → length (breath_words rate bs) ≡ 0 → night_word (sums_of rate bs) ≡ 0
  unfolding breath_words sums_of night_word none_left total not_void
  no_words [] e = refl
  no_words (b ∷ bs) e = absurd (omega arith)

-- The words of a recording's breaths, and their total's, are those of a listing.
pub words_listing : (bs : List ℕ) → IsListing (words_of bs).words (words_of bs).total
unfolding words_of listing.sums_in
words_listing bs =
    let rate : ℕ = rate_in bs in
    let breaths : List Breath = breaths_in bs in
    record {
      few = omega (arith, breaths_most bs, words_length rate breaths);
      words_are = words_listable rate breaths;
      total_is = night_listable (sums_of rate breaths) (sums_proper rate breaths);
      void_of_none = no_words rate breaths;
    }

-- ---- a night that isn't refused

module _ (bs : List ℕ) (h : recording_check bs ≡ done tt) where
  abbrev breaths : List Breath
  breaths = breaths_in bs

  last_is : listing.last_line (listing.sums_in bs) (recording_check bs) ≡ line_of All (night_ratio (listing.sums_in bs))
  unfolding listing.last_line listing.all_line
  last_is = ap (listing.last_line (listing.sums_in bs)) h

  sums_are_proper : Proper (listing.sums_in bs)
  unfolding listing.sums_in
  sums_are_proper = sums_proper (rate_in bs) breaths

  -- Its listing is what is printed of its words,
  pub night_printed : listing.listing_of bs ≡ printed (words_of bs).words (words_of bs).total
  unfolding printed words_of
  night_printed =
      listing_breaths bs ∙ ap (λ (t : List ℕ). numbered 1 (listing.ratios_of (rate_in bs) breaths) ++ t) last_is
      ∙ ap (λ (rs : List Ratio). numbered 1 rs ++ line_of All (night_ratio (listing.sums_in bs))) (sym (words_ratios (rate_in bs) breaths))
      ∙ ap (λ (r : Ratio). numbered 1 (ratios_of (breath_words (rate_in bs) breaths)) ++ line_of All r) (sym (night_ratio_is (listing.sums_in bs) sums_are_proper))

-- and loading it recovers them.
pub night_loaded : (bs : List ℕ) → Recovered bs
night_loaded bs h = ap load (night_printed bs h) ∙ load_printed (words_of bs).words (words_of bs).total (words_listing bs)

-- A night with nothing in it is loaded as no words, and a void total.
pub nothing_loaded : load (listing.listing_of []) ≡ done (record { words = []; total = 0 })
unfolding words_of breath_words listing.sums_in rate_in breaths_in first_of
nothing_loaded = night_loaded [] nothing_in_it ∙ ap (λ (t : ℕ). done (record { words = []; total = t })) (no_words 0 [] refl)
