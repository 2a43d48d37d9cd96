-- Document 01, "Channel and grid": the drawing and its grid, what is linked, and a solution.
-- A drawing of w columns and t tracks is a list of w columns of 2t + 1 entries: "vertical edges from row 0 upward, then the horizontal edges leaving to
-- the right from track 1 upward". Here columns are counted from 0; the vertical entry y joins the rows y and y + 1; the horizontal entry j lies on track
-- j + 1 and joins its column to the next. Outside the drawing both are 0.
use Rattle.std.specs.Prelude.{ℕ, zero, suc, ◌+◌, ◌*◌, ◌≤◌, ◌<◌, ◌≡◌, ◌≢◌, ◌⊎◌, List, eqb, length, take, drop, get_or}
use Rattle.grid.specs.Channel.{bit, pins}

-- "A column is 2t + 1 entries … Columns follow one another": the entries of column x
abbrev pub column_of : (D : List ℕ) (t x : ℕ) → List ℕ
column_of D t x = take (2 * t + 1) (drop (x * (2 * t + 1)) D)

-- its vertical entry y
unfoldable pub vertical_of : (D : List ℕ) (t x y : ℕ) → ℕ
vertical_of D t x y = get_or (take (t + 1) (column_of D t x)) y 0

-- its horizontal entry j
unfoldable pub horizontal_of : (D : List ℕ) (t x j : ℕ) → ℕ
horizontal_of D t x j = get_or (drop (t + 1) (column_of D t x)) j 0

-- "linked at shared grid points": two grid points, each a column and a row, that edges of net N join. v and h are the vertical and the horizontal entries
pub data Linked (v h : ℕ → ℕ → ℕ) (N : ℕ) : ℕ → ℕ → ℕ → ℕ → Type 0 where
  here : {x y : ℕ} → Linked v h N x y x y
  up : {x y : ℕ} → v x y ≡ N → Linked v h N x y x (suc y)
  across : {x j : ℕ} → h x j ≡ N → Linked v h N x (suc j) (suc x) (suc j)
  back : {x y x' y' : ℕ} → Linked v h N x y x' y' → Linked v h N x' y' x y
  join : {x y x' y' x'' y'' : ℕ} → Linked v h N x y x' y' → Linked v h N x' y' x'' y'' → Linked v h N x y x'' y''

-- an edge of N among the entries of column k ends at the point x, y
pub data Ends (v h : ℕ → ℕ → ℕ) (N k : ℕ) : ℕ → ℕ → Type 0 where
  low : {y : ℕ} → v k y ≡ N → Ends v h N k k y
  high : {y : ℕ} → v k y ≡ N → Ends v h N k k (suc y)
  near : {j : ℕ} → h k j ≡ N → Ends v h N k k (suc j)
  far : {j : ℕ} → h k j ≡ N → Ends v h N k (suc k) (suc j)

-- "the edges of each net are one piece": the ends of any two of them are linked
pub record OnePiece (v h : ℕ → ℕ → ℕ) (N : ℕ) : Type 0 where
  pub linked : {k x y k' x' y' : ℕ} → Ends v h N k x y → Ends v h N k' x' y' → Linked v h N x y x' y'

-- the horizontal entry that comes to column x on track j + 1; none comes to the first column
abbrev pub comes_to : (h : ℕ → ℕ → ℕ) (x j : ℕ) → ℕ
comes_to h zero j = 0
comes_to h (suc x) j = h x j

-- how many of the four entries that meet at a grid point are N: the one below it, above it, to its left and to its right
abbrev pub edges_among : (below above leftward rightward N : ℕ) → ℕ
edges_among below above leftward rightward N = bit (eqb below N) + (bit (eqb above N) + (bit (eqb leftward N) + bit (eqb rightward N)))

-- the number of edges of net N at the grid point of column x on track j + 1
unfoldable pub edges_at : (v h : ℕ → ℕ → ℕ) (N x j : ℕ) → ℕ
edges_at v h N x j = edges_among (v x j) (v x (suc j)) (comes_to h x j) (h x j) N

-- document 02, Job 1: "at each grid point on rows 1 to t, a net has no edge or at least two."
abbrev pub NoLooseEnd : (v h : ℕ → ℕ → ℕ) (w t N : ℕ) → Type 0
NoLooseEnd v h w t N = (x j : ℕ) → x < w → j < t → edges_at v h N x j ≢ 1

-- document 01, "A drawing is a solution if:"; loose ends are allowed
pub record Wiring (top bottom : List ℕ) (w t : ℕ) (D : List ℕ) : Type 0 where
  pub size : length D ≡ w * (2 * t + 1)
  -- "w is at least n;"
  pub covers : length top ≤ w
  -- "every entry is 0 or a net of the channel;"
  pub nets : (i : ℕ) → i < length D → (get_or D i 0 ≡ 0) ⊎ (0 < pins top bottom (get_or D i 0))
  -- "each column's first and last vertical entries equal its bottom and top pin (0 where there is none, also past column n; for t = 0 the one entry
  -- equals both);"
  pub bottom_pins : (x : ℕ) → x < w → vertical_of D t x 0 ≡ get_or bottom x 0
  pub top_pins : (x : ℕ) → x < w → vertical_of D t x t ≡ get_or top x 0
  -- "the last column has no horizontal edge;"
  pub last : (x j : ℕ) → suc x ≡ w → horizontal_of D t x j ≡ 0
  -- "and the edges of each net are one piece, linked at shared grid points."
  pub pieces : (N : ℕ) → N ≢ 0 → OnePiece (vertical_of D t) (horizontal_of D t) N

-- document 02, Job 1: "From now on a solution also needs this"
pub record Solution (top bottom : List ℕ) (w t : ℕ) (D : List ℕ) : Type 0 where
  pub wiring : Wiring top bottom w t D
  pub ends : (N : ℕ) → N ≢ 0 → NoLooseEnd (vertical_of D t) (horizontal_of D t) w t N
