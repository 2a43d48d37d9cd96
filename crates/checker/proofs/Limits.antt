-- Positions in a drawing of w columns and t tracks, at most 511 each.
use Prim.Native.Nat.{ℕ, ◌+◌, ◌*◌, ◌/◌, ◌≤◌, ◌<◌}
use mathlib.Core.Path.{◌≡◌}
use mathlib.Core.Logic.{by_cases}
use native.Mathlib.Omega.{arith}
use native.Mathlib.Decide.{dec_lt}
use native.Mathlib.Nat.{mul-le-mul_right}
use Rattle.grid.proofs.Views.{product_le}
use Rattle.grid.proofs.Drawings.Flat.{column_of_lem}

-- it has few entries
pub few_entries : (w t : ℕ) → w ≤ 511 → t ≤ 511 → w * (2 * t + 1) ≤ 511 * 1023
few_entries w t a b = product_le w (2 * t + 1) a (omega arith)

-- the column at b is number x
pub index_of : (t b x : ℕ) → b ≡ x * (2 * t + 1) → b / (2 * t + 1) ≡ x
index_of t b x e = column_of_lem t b x 0 (omega arith) (omega arith)

-- a column lies within the drawing
pub column_inside : (w t x b n : ℕ) → x < w → b ≡ x * (2 * t + 1) → n ≡ w * (2 * t + 1) → b + (2 * t + 1) ≤ n
column_inside w t x b n l e m = omega (arith, mul-le-mul_right (2 * t + 1) l)

-- after the last column the drawing is passed
pub columns_all : (w t x b n : ℕ) → w ≤ x → b ≡ x * (2 * t + 1) → n ≡ w * (2 * t + 1) → n ≤ b
columns_all w t x b n l e m = omega (arith, mul-le-mul_right (2 * t + 1) l)

-- the column of a position in the drawing
pub column_below : (w t x i : ℕ) → x * (2 * t + 1) + i < w * (2 * t + 1) → x < w
column_below w t x i l =
    by_cases (dec_lt x w) (λ z. z) (λ z. let k : w ≤ x = omega arith in absurd (omega (arith, mul-le-mul_right (2 * t + 1) k)))
