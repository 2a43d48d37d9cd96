-- The search for a net's pin: in a row, and in either row. Assumes nothing.
use Prim.Native.Nat.{ℕ, ◌+◌}
use mathlib.Core.Path.{◌≡◌, refl, sym, ap, ◌∙◌}
use mathlib.Core.Bool.{Bool, true, false, ◌||◌}
use mathlib.Core.List.{List, [], ◌∷◌}
use native.Mathlib.Omega.{arith}
use lib.Dec.{eqb, ltb}
use Rattle.std.specs.List.{list_any}
use Rattle.grid.specs.Channel.{bit, times, pins}
use Rattle.grid.proofs.Tests.{lt-ltb, Below, below, above, below_by}

-- one of two numbers is not 0 just if their sum is not
either : (a b : ℕ) → (ltb 0 a || ltb 0 b) ≡ ltb 0 (a + b)
either a b = go (ltb 0 a) (below_by 0 a)
  where
    go : (q : Bool) → Below 0 a q → (q || ltb 0 b) ≡ ltb 0 (a + b)
    go true (below l) = sym (lt-ltb 0 (a + b) (omega arith))
    go false (above l) = ap (ltb 0) (let e : b ≡ a + b = omega arith in e)

-- a search of a row finds a net just if it has a pin there
pub found_times : (v : ℕ) (row : List ℕ) → list_any (λ y. eqb y v) row ≡ ltb 0 (times v row)
unfolding times
found_times v [] = refl
found_times v (x ∷ xs) = ap (λ (q : Bool). eqb x v || q) (found_times v xs) ∙ go (eqb x v)
  where
    go : (q : Bool) → (q || ltb 0 (times v xs)) ≡ ltb 0 (bit q + times v xs)
    go true = either 1 (times v xs)
    go false = either 0 (times v xs)

-- in either row
pub found_either : (top bottom : List ℕ) (v : ℕ) → (ltb 0 (times v top) || ltb 0 (times v bottom)) ≡ ltb 0 (pins top bottom v)
unfolding pins
found_either top bottom v = either (times v top) (times v bottom)
