-- Listings of the document's cases, byte for byte. Assumes nothing.
use mathlib.Core.List.{[], ◌∷◌}
use mathlib.Core.Path.{◌≡◌, refl}
use Rattle.listing.specs.Digits.{digits, decimal}
use Rattle.listing.specs.Text.{cells, column_at, line_at, lines, header, drawing_text, refusal}

-- case D: density 2 tracks 2 width 3 / 1: 2 0 1 | 2 1 / 2: 1 2 2 | 1 1 / 3: 0 1 0 | 0 0
pub case_D : drawing_text 2 2 3 (2 ∷ 0 ∷ 1 ∷ 2 ∷ 1 ∷ 1 ∷ 2 ∷ 2 ∷ 1 ∷ 1 ∷ 0 ∷ 1 ∷ 0 ∷ 0 ∷ 0 ∷ [])
    ≡ 100 ∷ 101 ∷ 110 ∷ 115 ∷ 105 ∷ 116 ∷ 121 ∷ 32 ∷ 50
    ∷ 32 ∷ 116 ∷ 114 ∷ 97 ∷ 99 ∷ 107 ∷ 115 ∷ 32 ∷ 50 ∷ 32 ∷ 119 ∷ 105 ∷ 100 ∷ 116 ∷ 104 ∷ 32 ∷ 51 ∷ 10
    ∷ 49 ∷ 58 ∷ 32 ∷ 50 ∷ 32 ∷ 48 ∷ 32 ∷ 49 ∷ 32 ∷ 124 ∷ 32 ∷ 50 ∷ 32 ∷ 49 ∷ 10
    ∷ 50 ∷ 58 ∷ 32 ∷ 49 ∷ 32 ∷ 50 ∷ 32 ∷ 50 ∷ 32 ∷ 124 ∷ 32 ∷ 49 ∷ 32 ∷ 49 ∷ 10
    ∷ 51 ∷ 58 ∷ 32 ∷ 48 ∷ 32 ∷ 49 ∷ 32 ∷ 48 ∷ 32 ∷ 124 ∷ 32 ∷ 48 ∷ 32 ∷ 48 ∷ 10 ∷ []
unfolding drawing_text header lines line_at column_at cells decimal digits
case_D = refl

-- case B, with no tracks: density 0 tracks 0 width 1 / 1: 5 |
pub case_B : drawing_text 0 0 1 (5 ∷ [])
    ≡ 100 ∷ 101 ∷ 110 ∷ 115 ∷ 105 ∷ 116 ∷ 121 ∷ 32 ∷ 48
    ∷ 32 ∷ 116 ∷ 114 ∷ 97 ∷ 99 ∷ 107 ∷ 115 ∷ 32 ∷ 48 ∷ 32 ∷ 119 ∷ 105 ∷ 100 ∷ 116 ∷ 104 ∷ 32 ∷ 49 ∷ 10
    ∷ 49 ∷ 58 ∷ 32 ∷ 53 ∷ 32 ∷ 124 ∷ 10 ∷ []
unfolding drawing_text header lines line_at column_at cells decimal digits
case_B = refl

-- case I: refused 7
pub case_I : refusal 7 ≡ 114 ∷ 101 ∷ 102 ∷ 117 ∷ 115 ∷ 101 ∷ 100 ∷ 32 ∷ 55 ∷ 10 ∷ []
unfolding refusal decimal digits
case_I = refl

-- 0 and 256
pub some_decimals : (decimal 0 ≡ 48 ∷ []) × (decimal 256 ≡ 50 ∷ 53 ∷ 54 ∷ [])
unfolding decimal digits
some_decimals = (refl, refl)
