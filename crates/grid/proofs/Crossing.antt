-- A gap is crossed by at most as many nets as there are columns: each has a pin on either side, and a column has two. Assumes nothing.
use Prim.Native.Nat.{ℕ, suc, ◌≤◌}
use native.Mathlib.Omega.{arith}
use mathlib.Core.Path.{◌≡◌}
use mathlib.Core.List.{List, ◌++◌}
use lib.Dec.{ltb}
use lib.ListN.{length, take, drop, length-append, length-take, length-drop}
use Rattle.grid.specs.Channel.{left, right, is_open, open_at, density}
use Rattle.grid.proofs.Tests.{ltb-true, and_true}
use Rattle.grid.proofs.Counting.{times-append, pigeonhole}
use Rattle.grid.proofs.Rows.{density_most}

module _ (top bottom : List ℕ) (same : length top ≡ length bottom) where
  -- each open net has a pin left of the gap
  open_left : (c : ℕ) → open_at top bottom c ≤ length (take c top ++ take c bottom)
  unfolding open_at is_open left
  open_left c =
      pigeonhole (is_open top bottom c) (take c top ++ take c bottom) 256 (λ v e.
      omega (
        arith,
        times-append (suc v) (take c top) (take c bottom),
        ltb-true 0 (left top bottom c (suc v)) (and_true (ltb 0 (left top bottom c (suc v))) (ltb 0 (right top bottom c (suc v))) e).0,
      ))

  -- and one right of it
  open_right : (c : ℕ) → open_at top bottom c ≤ length (drop c top ++ drop c bottom)
  unfolding open_at is_open right
  open_right c =
      pigeonhole (is_open top bottom c) (drop c top ++ drop c bottom) 256 (λ v e.
      omega (
        arith,
        times-append (suc v) (drop c top) (drop c bottom),
        ltb-true 0 (right top bottom c (suc v)) (and_true (ltb 0 (left top bottom c (suc v))) (ltb 0 (right top bottom c (suc v))) e).1,
      ))

  -- so they are at most as many as the columns
  open_few : (c : ℕ) → open_at top bottom c ≤ length top
  open_few c =
      omega (
        arith,
        open_left c,
        open_right c,
        length-append (take c top) (take c bottom),
        length-append (drop c top) (drop c bottom),
        length-take c top,
        length-take c bottom,
        length-drop c top,
        length-drop c bottom,
      )

  -- the density is at most the number of columns
  pub density_few : density top bottom ≤ length top
  density_few = density_most top bottom (length top) (λ c. open_few (suc c))
