-- The paper's example: a recording, and its listing; and the listing of a night with nothing in it.
use Rattle.std.specs.Prelude.{ℕ, List, [], ◌∷◌, ◌++◌}

-- rate 1024, 0 277 642, 4294967290 10 34 and 100 100 100, tab-parted, each ended by a line feed.
unfoldable pub example_recording : List ℕ
example_recording =
    (114 ∷ 97 ∷ 116 ∷ 101 ∷ 9 ∷ 49 ∷ 48 ∷ 50 ∷ 52 ∷ 10 ∷ [])
    ++ (48 ∷ 9 ∷ 50 ∷ 55 ∷ 55 ∷ 9 ∷ 54 ∷ 52 ∷ 50 ∷ 10 ∷ [])
    ++ (52 ∷ 50 ∷ 57 ∷ 52 ∷ 57 ∷ 54 ∷ 55 ∷ 50 ∷ 57 ∷ 48 ∷ 9 ∷ 49 ∷ 48 ∷ 9 ∷ 51 ∷ 52 ∷ 10 ∷ [])
    ++ (49 ∷ 48 ∷ 48 ∷ 9 ∷ 49 ∷ 48 ∷ 48 ∷ 9 ∷ 49 ∷ 48 ∷ 48 ∷ 10 ∷ [])

-- 1 01150282 277/642 43.1, 2 00020005 2/5 40.0, 3 00000000 - - and all 012502aa 293/682 43.0, the same way.
unfoldable pub example_listing : List ℕ
example_listing =
    (49 ∷ 9 ∷ 48 ∷ 49 ∷ 49 ∷ 53 ∷ 48 ∷ 50 ∷ 56 ∷ 50 ∷ 9 ∷ 50 ∷ 55 ∷ 55 ∷ 47 ∷ 54 ∷ 52 ∷ 50 ∷ 9 ∷ 52 ∷ 51 ∷ 46 ∷ 49 ∷ 10 ∷ [])
    ++ (50 ∷ 9 ∷ 48 ∷ 48 ∷ 48 ∷ 50 ∷ 48 ∷ 48 ∷ 48 ∷ 53 ∷ 9 ∷ 50 ∷ 47 ∷ 53 ∷ 9 ∷ 52 ∷ 48 ∷ 46 ∷ 48 ∷ 10 ∷ [])
    ++ (51 ∷ 9 ∷ 48 ∷ 48 ∷ 48 ∷ 48 ∷ 48 ∷ 48 ∷ 48 ∷ 48 ∷ 9 ∷ 45 ∷ 9 ∷ 45 ∷ 10 ∷ [])
    ++ (97 ∷ 108 ∷ 108 ∷ 9 ∷ 48 ∷ 49 ∷ 50 ∷ 53 ∷ 48 ∷ 50 ∷ 97 ∷ 97 ∷ 9 ∷ 50 ∷ 57 ∷ 51 ∷ 47 ∷ 54 ∷ 56 ∷ 50 ∷ 9 ∷ 52 ∷ 51 ∷ 46 ∷ 48 ∷ 10 ∷ [])

-- all 00000000 - -, the same way.
unfoldable pub empty_listing : List ℕ
empty_listing = 97 ∷ 108 ∷ 108 ∷ 9 ∷ 48 ∷ 48 ∷ 48 ∷ 48 ∷ 48 ∷ 48 ∷ 48 ∷ 48 ∷ 9 ∷ 45 ∷ 9 ∷ 45 ∷ 10 ∷ []
