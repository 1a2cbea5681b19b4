-- The paper's example holds of the definitions. Assumes nothing.
-- `nothing_listed`, `rate_alone_listed`: the listing of a recording without a byte, and of a rate line alone, whatever the rate, is the one line
-- `all`, void.
use mathlib.Core.Path.{◌≡◌, refl, sym, ap, ◌∙◌}
use mathlib.Core.List.{List, []}
use Prim.Native.Nat.{ℕ}
use lib.ListN.{drop}
use Rattle.convergents.specs.Pairs.{differs}
use Rattle.convergents.specs.Convergents.{euclid, quotients, recurrence, convergents}
use Rattle.convergents.specs.Rounding.{held, last_held, round}
use Rattle.slash.specs.Answers.{done}
use Rattle.slash.specs.Bits.{bits, bit, bit_of, word_of_fields}
use Rattle.slash.specs.Formats.{holds}
use Rattle.slash.specs.Reading.{fixed_value, fixed_number, number_of}
use Rattle.slash.specs.Writing.{fixed_word, pair_word, word_for}
use Rattle.slash.specs.Numbers.{pair_of}
use Rattle.breaths.specs.Rates.{is_rate}
use Rattle.breaths.specs.Breaths.{span, breath_of, is_void, breath_ratio}
use Rattle.breaths.specs.Ratios.{ratio_word, word_of, fraction_of}
use Rattle.breaths.specs.Sums.{with_breath, none_left, night_ratio}
use Rattle.text.specs.Numbers.{decimal_from, decimal, hex_digit, hexadecimal}
use Rattle.text.specs.Scan.{length_before, is_digit, parted, same}
use Rattle.text.specs.Columns.{thousandths, percentage, fraction_text, fraction_and_percentage, columns}
use Rattle.text.specs.Lines.{name_text, line_of}
use Rattle.recording.specs.Lines.{digits_from, read_tick, from_start, from_ticks, from_fields, read_line}
use Rattle.recording.specs.Openings.{a_rate, from_rate, from_rate_fields, read_rate, first_of}
use Rattle.recording.specs.declared.opening.Opening.{Opening}
use Rattle.recording.proofs.OpeningLaws.{first_none}
use Rattle.recording.proofs.ReadingLaws.{next_none}
use Rattle.recording.specs.Reading.{from_line, next_of}
use Rattle.listing.specs.Listing.{breath_line, all_line, listing_from, rated_listing, opened_listing, listing_on, listing_of}
use Rattle.listing.specs.Nights.{rated, with_line}
use Rattle.listing.proofs.ListingLaws.{listing_end, opened_rated, opened_empty}
use Rattle.listing.specs.Example.{example_recording, example_listing, empty_listing}

pub paper_example : listing_of example_recording ≡ example_listing
unfolding example_recording example_listing listing_of listing_on opened_listing rated_listing listing_from first_of read_rate from_rate_fields same from_rate is_rate rated next_of from_line with_line breath_line all_line line_of name_text read_line from_start parted from_fields from_ticks length_before read_tick digits_from is_digit columns fraction_and_percentage word_of fraction_text percentage thousandths fraction_of breath_ratio night_ratio none_left with_breath ratio_word is_void breath_of span decimal decimal_from hexadecimal hex_digit word_for pair_word fixed_word word_of_fields bit_of pair_of number_of fixed_number fixed_value bits bit round last_held held convergents recurrence quotients euclid differs holds
paper_example = refl

-- A night with nothing in it.
pub nothing_listed : listing_of [] ≡ empty_listing
unfolding empty_listing listing_of listing_on opened_listing first_of all_line night_ratio none_left line_of name_text columns word_of fraction_and_percentage hexadecimal hex_digit
nothing_listed = refl

-- A rate line alone, whatever the rate.
pub rate_alone_listed : (bs : List ℕ) (o : Opening) → first_of bs ≡ done (a_rate o) → drop o.used bs ≡ [] → listing_of bs ≡ empty_listing
unfolding listing_of listing_on rated
rate_alone_listed bs o e none =
    opened_rated bs o e
    ∙ ap (listing_from 65537 (rated o.rate)) none
    ∙ listing_end 65536 (rated o.rate) [] (sym (next_none 1 [] refl))
    ∙ sym (opened_empty [] (sym (first_none [] refl)))
    ∙ nothing_listed
