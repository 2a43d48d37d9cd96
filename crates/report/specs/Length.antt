-- Document 02, Job 2: "each net's edge count", "each length being counted over the grid and not taken from the total".
-- D is a drawing of w columns and t tracks; columns are counted from 0, as in `Grid`.
use Rattle.std.specs.Prelude.{ℕ, zero, suc, ◌+◌, not, List, [], ◌∷◌, eqb}
use Rattle.grid.specs.Channel.{bit}
use Rattle.grid.specs.Grid.{vertical_of, horizontal_of}

-- how many of the entries f 0 to f (k - 1) are N
unfoldable pub entries_with : (f : ℕ → ℕ) (N k : ℕ) → ℕ
entries_with f N zero = 0
entries_with f N (suc k) = entries_with f N k + bit (eqb (f k) N)

-- the edges of net N in column x: the vertical ones, "for y from 0 to t", and the horizontal ones, that leave it on the tracks 1 to t
unfoldable pub edges_in : (D : List ℕ) (t N x : ℕ) → ℕ
edges_in D t N x = entries_with (vertical_of D t x) N (t + 1) + entries_with (horizontal_of D t x) N t

-- those in the first k columns
unfoldable pub edges_to : (D : List ℕ) (t N k : ℕ) → ℕ
edges_to D t N zero = 0
edges_to D t N (suc k) = edges_to D t N k + edges_in D t N k

-- the length of net N: its edges over all columns
unfoldable pub wire_length : (w t : ℕ) (D : List ℕ) (N : ℕ) → ℕ
wire_length w t D N = edges_to D t N w

-- "the number of entries that are not 0"
unfoldable pub edges_drawn : (D : List ℕ) → ℕ
edges_drawn [] = 0
edges_drawn (x ∷ xs) = bit (not (eqb x 0)) + edges_drawn xs
