-- Document 01, "Channels to try": the cases E, I and J as the definitions give them. Assumes nothing.
use mathlib.Core.Path.{◌≡◌, refl}
use mathlib.Core.List.{[], ◌∷◌}
use Rattle.grid.specs.Channel.{times, sum, count, over, pins, left, right, is_open, open_at, largest, density, rows_refused}

-- case E: "density counted in columns (E would get 2)"; it is 1
pub case_e : density (1 ∷ 1 ∷ 0 ∷ []) (0 ∷ 2 ∷ 2 ∷ []) ≡ 1
unfolding density largest open_at count sum is_open left right times
case_e = refl

-- case I: a net with one pin
pub case_i : rows_refused (1 ∷ []) (0 ∷ []) 256 ≡ 7
unfolding rows_refused over count sum pins times
case_i = refl

-- case J: a number over 256
pub case_j : rows_refused (257 ∷ 257 ∷ []) (0 ∷ 0 ∷ []) 256 ≡ 6
unfolding rows_refused over count sum pins times
case_j = refl

-- and 256 twice is accepted
pub case_j_256 : rows_refused (256 ∷ 256 ∷ []) (0 ∷ 0 ∷ []) 256 ≡ 0
unfolding rows_refused over count sum pins times
case_j_256 = refl
