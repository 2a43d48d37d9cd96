-- Document 01, "The net report": "first column, last column, pin count; zeros for an unused number". Columns are counted from 1.
use Rattle.std.specs.Prelude.{ℕ, zero, suc, Bool, ◌&&◌, ◌||◌, List, [], ◌∷◌, eqb, length, get_or, replicate}
use Rattle.grid.specs.Channel.{pick}

module _ (top bottom : List ℕ) where
  -- column k + 1 has a pin of net v
  unfoldable pub is_pinned : ℕ → ℕ → Bool
  is_pinned v k = eqb (get_or top k 0) v || eqb (get_or bottom k 0) v

  -- the first of the columns 1 to k with a pin of net v, and 0 where there is none
  unfoldable pub first_to : ℕ → ℕ → ℕ
  first_to v zero = 0
  first_to v (suc k) = pick (is_pinned v k && eqb (first_to v k) 0) (suc k) (first_to v k)

  -- the last of them, and 0 where there is none
  unfoldable pub last_to : ℕ → ℕ → ℕ
  last_to v zero = 0
  last_to v (suc k) = pick (is_pinned v k) (suc k) (last_to v k)

  -- the first and the last column of net v
  unfoldable pub first_column : ℕ → ℕ
  first_column v = first_to v (length top)

  unfoldable pub last_column : ℕ → ℕ
  last_column v = last_to v (length top)

-- f at the k numbers from i
unfoldable pub from : (ℕ → ℕ) → ℕ → ℕ → List ℕ
from f i zero = []
from f i (suc k) = f i ∷ from f (suc i) k

-- a figure of each net 1 to 256, at its number; at 0 stands 0
unfoldable pub table : (ℕ → ℕ) → List ℕ
table f = 0 ∷ from f 1 256

-- zeros for all numbers
unfoldable pub zero_table : List ℕ
zero_table = replicate 257 0
