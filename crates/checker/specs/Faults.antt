-- Document 01, "Refused, by place", 13 to 16, and document 02, Job 1, 17, and Job 8, 19 and 20: the faults of a drawing in words over its grid. The
-- checker's answer is defined by tests, in `Check`; that they say these words is shown in proofs/Places. A position is counted from 0, a column x here
-- from 0.
use Rattle.std.specs.Prelude.{ℕ, suc, ◌+◌, ◌*◌, ◌≤◌, ◌<◌, ◌≡◌, ◌≢◌, ◌⊎◌, List, length, get_or}
use Rattle.grid.specs.Channel.{pins}
use Rattle.grid.specs.Grid.{vertical_of, horizontal_of, OnePiece, edges_at}

-- 13: "entry neither 0 nor a net"
abbrev pub Strange : (top bottom D : List ℕ) (p : ℕ) → Type 0
Strange top bottom D p = (get_or D p 0 ≢ 0) × (pins top bottom (get_or D p 0) ≡ 0)

-- 14, 19 and 20: "pin edge wrong": the first or the last vertical entry of a column is not its bottom or its top pin
abbrev pub PinWrong : (top bottom : List ℕ) (w t : ℕ) (D : List ℕ) (p : ℕ) → Type 0
PinWrong top bottom w t D p =
    (x : ℕ)
    × (x < w)
    × (((p ≡ x * (2 * t + 1)) × (vertical_of D t x 0 ≢ get_or bottom x 0)) ⊎ ((p ≡ x * (2 * t + 1) + t) × (vertical_of D t x t ≢ get_or top x 0)))

-- the terminal of column x in a row of pins has a pin
abbrev pub Occupied : (row : List ℕ) (x : ℕ) → Type 0
Occupied row x = (x < length row) × (get_or row x 0 ≢ 0)

-- or none: it is "a terminal without a pin", or lies "past column n"
abbrev pub Vacant : (row : List ℕ) (x : ℕ) → Type 0
Vacant row x = (length row ≤ x) ⊎ (get_or row x 0 ≡ 0)

-- what is wrong with its edge e. 14: "a pin whose edge is 0"
abbrev pub Unwired : (row : List ℕ) (x e : ℕ) → Type 0
Unwired row x e = Occupied row x × (e ≡ 0)

-- "19: the edge of a pin carries another net"
abbrev pub Miswired : (row : List ℕ) (x e : ℕ) → Type 0
Miswired row x e = Occupied row x × (e ≢ 0) × (e ≢ get_or row x 0)

-- "20: a wire at a terminal without a pin, or at either edge past column n"
abbrev pub Unpinned : (row : List ℕ) (x e : ℕ) → Type 0
Unpinned row x e = Vacant row x × (e ≢ 0)

-- position p has one of these faults, at the bottom or the top terminal of its column. "With t = 0 the bottom pin is compared first, then the top": the
-- one entry of a column has the top terminal's fault where it is the bottom pin
abbrev pub FaultAt : (Fault : (row : List ℕ) (x e : ℕ) → Type 0) (top bottom : List ℕ) (w t : ℕ) (D : List ℕ) (p : ℕ) → Type 0
FaultAt Fault top bottom w t D p =
    (x : ℕ)
    × (x < w)
    × (((p ≡ x * (2 * t + 1)) × Fault bottom x (vertical_of D t x 0))
    ⊎ ((p ≡ x * (2 * t + 1) + t) × Fault top x (vertical_of D t x t) × (t ≡ 0 → vertical_of D t x 0 ≡ get_or bottom x 0)))

-- 15: "horizontal edge in the last column"
abbrev pub LeavesLast : (w t : ℕ) (D : List ℕ) (p : ℕ) → Type 0
LeavesLast w t D p = (x : ℕ) × (j : ℕ) × (suc x ≡ w) × (j < t) × (p ≡ x * (2 * t + 1) + t + 1 + j) × (horizontal_of D t x j ≢ 0)

-- 16: "a net in more than one piece"
abbrev pub Split : (t : ℕ) (D : List ℕ) (N : ℕ) → Type 0
Split t D N = (N ≢ 0) × (OnePiece (vertical_of D t) (horizontal_of D t) N → ⊥)

-- 17: "loose end", of net N at the grid point of column x on track j + 1
abbrev pub LooseAt : (w t : ℕ) (D : List ℕ) (N x j : ℕ) → Type 0
LooseAt w t D N x j = (N ≢ 0) × (x < w) × (j < t) × (edges_at (vertical_of D t) (horizontal_of D t) N x j ≡ 1)

-- "a loose end" of net N
abbrev pub LooseEnd : (w t : ℕ) (D : List ℕ) (N : ℕ) → Type 0
LooseEnd w t D N = (x : ℕ) × (j : ℕ) × LooseAt w t D N x j

-- "by column and then row": the point of column x on track j + 1 comes before that of column x' on track j' + 1
abbrev pub Before : (x j x' j' : ℕ) → Type 0
Before x j x' j' = (x < x') ⊎ ((x ≡ x') × (j < j'))

-- "the column and row of that net's first such point", the column counted from 1
pub record FirstLoose (w t : ℕ) (D : List ℕ) (N column row : ℕ) : Type 0 where
  pub x : ℕ
  pub j : ℕ
  pub column_is : column ≡ suc x
  pub row_is : row ≡ suc j
  pub loose : LooseAt w t D N x j
  pub first : (x' j' : ℕ) → LooseAt w t D N x' j' → Before x' j' x j → ⊥
