-- How long a listing is: the longest one fits the text that is lent. Assumes nothing.
use Prim.Native.Nat.{ℕ, zero, suc, ◌+◌, ◌*◌, ◌-◌, ◌/◌, ◌≤◌, ◌<◌}
use native.Mathlib.Omega.{arith}
use native.Mathlib.Nat.{mul-le-mul}
use mathlib.Core.List.{List, [], ◌∷◌, ◌++◌}
use lib.ListN.{length, get_or, length-append}
use Rattle.listing.specs.Digits.{decimal}
use Rattle.listing.specs.Text.{cells, column_at, line_at, lines, header, drawing_text, density_word, tracks_word, width_word}
use Rattle.listing.proofs.Digits.{three_digits}

-- the first line
header_size : (d t w : ℕ) → d < 1000 → t < 1000 → w < 1000 → length (header d t w) ≤ 33
unfolding header
header_size d t w x h l =
    omega (
      arith,
      length-append (density_word ++ decimal d) ((tracks_word ++ decimal t) ++ ((width_word ++ decimal w) ++ (10 ∷ []))),
      length-append (tracks_word ++ decimal t) ((width_word ++ decimal w) ++ (10 ∷ [])),
      length-append (width_word ++ decimal w) (10 ∷ []),
      three_digits d x,
      three_digits t h,
      three_digits w l,
    )

module _ (xs : List ℕ) (few : (i : ℕ) → get_or xs i 0 < 1000) where
  -- four bytes for each entry
  cells_size : (q k : ℕ) → length (cells xs q k) ≤ 4 * k
  unfolding cells
  cells_size q zero = omega arith
  cells_size q (suc k) =
      omega (arith, cells_size q k, length-append (cells xs q k) (32 ∷ decimal (get_or xs (q + k) 0)), three_digits (get_or xs (q + k) 0) (few (q + k)))

  -- the entries of a column
  column_size : (t q : ℕ) → length (column_at xs t q) ≤ 8 * t + 6
  unfolding column_at
  column_size t q =
      omega (
        arith,
        length-append (cells xs q (t + 1)) ((32 ∷ 124 ∷ []) ++ cells xs (q + (t + 1)) t),
        cells_size q (t + 1),
        cells_size (q + (t + 1)) t,
      )

  -- a line
  line_size : (t c q : ℕ) → c < 1000 → length (line_at xs t c q) ≤ 8 * t + 11
  unfolding line_at
  line_size t c q h =
      omega (
        arith,
        length-append (decimal c) ((58 ∷ []) ++ (column_at xs t q ++ (10 ∷ []))),
        length-append (column_at xs t q) (10 ∷ []),
        three_digits c h,
        column_size t q,
      )

  -- all lines
  lines_size : (t w : ℕ) → t ≤ 127 → w ≤ 127 → length (lines xs t w) ≤ 1027 * w
  unfolding lines
  lines_size t zero h l = omega arith
  lines_size t (suc c) h l =
      omega (
        arith,
        lines_size t c h (omega arith),
        length-append (lines xs t c) (line_at xs t (suc c) (c * (2 * t + 1))),
        line_size t (suc c) (c * (2 * t + 1)) (omega arith),
      )

  -- a listing of at most 127 columns and tracks with numbers below a thousand
  pub drawn_size : (d t w : ℕ) → d < 1000 → t ≤ 127 → w ≤ 127 → length (drawing_text d t w xs) ≤ 130462
  unfolding drawing_text
  drawn_size d t w x h l =
      omega (arith, length-append (header d t w) (lines xs t w), lines_size t w h l, header_size d t w x (omega arith) (omega arith))

-- at most 64 columns and as many nets open at a gap: at most 127 tracks, 127 columns with the added ones, and 32,385 entries
pub figures_few : (n d t w : ℕ) → n ≤ 64 → d ≤ n → t ≤ 2 * d - 1 → w ≤ n + t / 2
    → (t ≤ 127) × (w ≤ 127) × ((n + t / 2) * (2 * t + 1) ≤ 32385)
figures_few n d t w a b e l =
    let h : t ≤ 127 = omega arith in
    let x : n + t / 2 ≤ 127 = omega arith in
    let y : 2 * t + 1 ≤ 255 = omega arith in
    (h, omega arith, mul-le-mul x y)
