-- Document 01, "Record and listing": the text of a listing, as bytes. 10 is a line feed, 32 a space, 58 a colon, 124 a bar.
use Rattle.std.specs.Prelude.{ℕ, zero, suc, ◌+◌, ◌*◌, List, [], ◌∷◌, ◌++◌, get_or}
use Rattle.listing.specs.Digits.{decimal}

-- k entries from position q on, each after a space
unfoldable pub cells : List ℕ → ℕ → ℕ → List ℕ
cells layout q zero = []
cells layout q (suc k) = cells layout q k ++ (32 ∷ decimal (get_or layout (q + k) 0))

-- "vertical entries, bar, horizontal entries" of the column that starts at position q; "With t = 0 a column's line ends with the bar"
unfoldable pub column_at : List ℕ → ℕ → ℕ → List ℕ
column_at layout t q = cells layout q (t + 1) ++ ((32 ∷ 124 ∷ []) ++ cells layout (q + (t + 1)) t)

-- the line of column c: its number, a colon, its entries; "Each line is closed by a line feed"
unfoldable pub line_at : List ℕ → ℕ → ℕ → ℕ → List ℕ
line_at layout t c q = decimal c ++ ((58 ∷ []) ++ (column_at layout t q ++ (10 ∷ [])))

-- the lines of columns 1 to c: "Columns follow one another"
unfoldable pub lines : List ℕ → ℕ → ℕ → List ℕ
lines layout t zero = []
lines layout t (suc c) = lines layout t c ++ line_at layout t (suc c) (c * (2 * t + 1))

-- "density ", " tracks ", " width ", "refused "
abbrev pub density_word : List ℕ
density_word = 100 ∷ 101 ∷ 110 ∷ 115 ∷ 105 ∷ 116 ∷ 121 ∷ 32 ∷ []

abbrev pub tracks_word : List ℕ
tracks_word = 32 ∷ 116 ∷ 114 ∷ 97 ∷ 99 ∷ 107 ∷ 115 ∷ 32 ∷ []

abbrev pub width_word : List ℕ
width_word = 32 ∷ 119 ∷ 105 ∷ 100 ∷ 116 ∷ 104 ∷ 32 ∷ []

abbrev pub refused_word : List ℕ
refused_word = 114 ∷ 101 ∷ 102 ∷ 117 ∷ 115 ∷ 101 ∷ 100 ∷ 32 ∷ []

-- the first line, as "density 2 tracks 2 width 3"
unfoldable pub header : ℕ → ℕ → ℕ → List ℕ
header d t w = (density_word ++ decimal d) ++ ((tracks_word ++ decimal t) ++ ((width_word ++ decimal w) ++ (10 ∷ [])))

-- the listing of a drawing of w columns and t tracks, of a channel of density d
unfoldable pub drawing_text : ℕ → ℕ → ℕ → List ℕ → List ℕ
drawing_text d t w layout = header d t w ++ lines layout t w

-- "On refusal it writes one line, as `refused 7`"
unfoldable pub refusal : ℕ → List ℕ
refusal k = (refused_word ++ decimal k) ++ (10 ∷ [])
