-- What an archive has of a night: the words of its breaths, and the word of them all.
use Rattle.std.specs.Prelude.{ℕ, ◌≡◌, List, [], ◌∷◌}
use Rattle.slash.specs.Answers.{done}
use Rattle.breaths.specs.Breaths.{breath_word}
use Rattle.breaths.specs.Sums.{night_word}
use Rattle.breaths.specs.declared.breath.Breath.{Breath}
use Rattle.recording.specs.Reading.{rate_in, breaths_in, recording_check}
use Rattle.listing.specs.Listing.{listing_of, sums_in}
use Rattle.loading.specs.Loads.{Listing, load}

unfoldable pub breath_words : (rate : ℕ) → List Breath → List ℕ
breath_words rate [] = []
breath_words rate (b ∷ bs) = breath_word rate b ∷ breath_words rate bs

-- Those of a recording, at its rate.
unfoldable pub words_of : (recording : List ℕ) → Listing
words_of bs = record { words = breath_words (rate_in bs) (breaths_in bs); total = night_word (sums_in bs) }

-- Loading what an unstopped run printed recovers the words.
abbrev pub Recovered : (recording : List ℕ) → Type 0
Recovered bs = recording_check bs ≡ done tt → load (listing_of bs) ≡ done (words_of bs)
