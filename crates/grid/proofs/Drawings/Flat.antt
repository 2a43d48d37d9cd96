-- The entries of a column of a flat list: from the column's two parts, and from their positions. Assumes nothing.
use Prim.Native.Nat.{ℕ, ◌+◌, ◌*◌, ◌/◌, ◌%◌, ◌≤◌, ◌<◌}
use mathlib.Core.Path.{◌≡◌, ◌∙◌, ap}
use mathlib.Core.List.{List, [], ◌++◌}
use lib.ListN.{length, get_or, take, drop, length-take, length-drop, get_or-eq_default}
use lib.Seq.{take_at, drop_at, take-nil, drop-nil, get_or-take, get_or-drop}
use native.Mathlib.Omega.{arith}
use native.Mathlib.Nat.{mul-add-div_right, mul-add-mod_self_right, div-eq_of_lt, mod-eq_of_lt}
use Rattle.grid.specs.Grid.{column_of, vertical_of, horizontal_of}

module _ (D U R : List ℕ) (t x i : ℕ) (e : column_of D t x ≡ U ++ R) (l : length U ≡ t + 1) where
  -- the vertical entries are the first part
  pub vert_col : vertical_of D t x i ≡ get_or U i 0
  unfolding vertical_of
  vert_col = ap (λ (c : List ℕ). get_or (take (t + 1) c) i 0) e ∙ ap (λ (c : List ℕ). get_or c i 0) (take_at U R (t + 1) l)

  -- the horizontal ones the second
  pub horz_col : horizontal_of D t x i ≡ get_or R i 0
  unfolding horizontal_of
  horz_col = ap (λ (c : List ℕ). get_or (drop (t + 1) c) i 0) e ∙ ap (λ (c : List ℕ). get_or c i 0) (drop_at U R (t + 1) l)

-- in no column there is none
module _ (D : List ℕ) (t x i : ℕ) (e : column_of D t x ≡ []) where
  pub vert_past : vertical_of D t x i ≡ 0
  unfolding vertical_of
  vert_past = ap (λ (c : List ℕ). get_or (take (t + 1) c) i 0) e ∙ ap (λ (c : List ℕ). get_or c i 0) (take-nil (t + 1))

  pub horz_past : horizontal_of D t x i ≡ 0
  unfolding horizontal_of
  horz_past = ap (λ (c : List ℕ). get_or (drop (t + 1) c) i 0) e ∙ ap (λ (c : List ℕ). get_or c i 0) (drop-nil (t + 1))

-- the vertical entry y of column x stands at its position
pub vert_at : (D : List ℕ) (t x y : ℕ) → y ≤ t → vertical_of D t x y ≡ get_or D (x * (2 * t + 1) + y) 0
unfolding vertical_of
vert_at D t x y l =
    get_or-take (t + 1) (column_of D t x) y 0 (omega arith)
    ∙ get_or-take (2 * t + 1) (drop (x * (2 * t + 1)) D) y 0 (omega arith)
    ∙ get_or-drop (x * (2 * t + 1)) D y 0

-- and there is none past row t
pub vert_out : (D : List ℕ) (t x y : ℕ) → t < y → vertical_of D t x y ≡ 0
unfolding vertical_of
vert_out D t x y l = get_or-eq_default (take (t + 1) (column_of D t x)) 0 {n = y} (rw length-take (omega arith))

-- the horizontal entry j of column x stands at its position
pub horz_at : (D : List ℕ) (t x j : ℕ) → j < t → horizontal_of D t x j ≡ get_or D (x * (2 * t + 1) + t + 1 + j) 0
unfolding horizontal_of
horz_at D t x j l =
    get_or-drop (t + 1) (column_of D t x) j 0
    ∙ get_or-take (2 * t + 1) (drop (x * (2 * t + 1)) D) (t + 1 + j) 0 (omega arith)
    ∙ get_or-drop (x * (2 * t + 1)) D (t + 1 + j) 0
    ∙ ap (λ (k : ℕ). get_or D k 0) (omega arith)

-- and there is none past track t
pub horz_out : (D : List ℕ) (t x j : ℕ) → t ≤ j → horizontal_of D t x j ≡ 0
unfolding horizontal_of
horz_out D t x j l = get_or-eq_default (drop (t + 1) (column_of D t x)) 0 {n = j} (rw (length-drop, length-take) (omega arith))

-- the column of the entry i of column x
pub column_of_lem : (t p x i : ℕ) → i < 2 * t + 1 → p ≡ x * (2 * t + 1) + i → p / (2 * t + 1) ≡ x
column_of_lem t p x i l e = rw (e, mul-add-div_right {m = 2 * t + 1} (omega arith) x i, div-eq_of_lt l) (omega arith)

-- and its number there
pub entry_of : (t p x i : ℕ) → i < 2 * t + 1 → p ≡ x * (2 * t + 1) + i → p % (2 * t + 1) ≡ i
entry_of t p x i l e = rw (e, mul-add-mod_self_right x (2 * t + 1) i, mod-eq_of_lt l)
