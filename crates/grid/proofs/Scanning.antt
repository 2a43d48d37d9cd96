-- Numbers over 256 in a row, number by number. Assumes nothing.
use Prim.Native.Nat.{ℕ, zero, suc, ◌≤◌, ◌<◌}
use mathlib.Core.Path.{◌≡◌, refl}
use mathlib.Core.Bool.{Bool, true, false, ◌||◌}
use mathlib.Core.List.{List, [], ◌∷◌}
use native.Mathlib.Omega.{arith}
use lib.Dec.{ltb}
use lib.ListN.{length, get_or}
use Rattle.grid.specs.Working.{Rows}
use Rattle.std.specs.List.{fold}
use Rattle.grid.specs.Channel.{over}
use Rattle.grid.proofs.Tests.{ltb-false, or_false}

-- a row with no number over 256 has none at any place
pub none_over : (l : List ℕ) (i : ℕ) → over l ≡ false → get_or l i 0 ≤ 256
unfolding over
none_over [] i e = omega arith
none_over (x ∷ xs) zero e = ltb-false 256 x (or_false (ltb 256 x) (over xs) e).0
none_over (x ∷ xs) (suc i) e = none_over xs i (or_false (ltb 256 x) (over xs) e).1

-- what is found so far, or stands in the rest of a row
pub over_fold : (b : Bool) (l : List ℕ) → fold (λ found x. found || ltb 256 x) b l ≡ (b || over l)
unfolding over
over_fold true [] = refl
over_fold false [] = refl
over_fold true (x ∷ xs) = over_fold true xs
over_fold false (x ∷ xs) = over_fold (ltb 256 x) xs

-- A column that a pass over accepted rows comes to: number i from 0, with the pins p above and q below
pub record Passed (top bottom : List ℕ) (i p q : ℕ) : Type 0 where
  pub inside : i < length top
  pub few : i < 256
  pub above : p ≡ get_or top i 0
  pub below : q ≡ get_or bottom i 0
  pub net : p ≤ 256
  pub other : q ≤ 256

pub passed : (top bottom : List ℕ) (i p q : ℕ) → Rows top bottom → i < length top → p ≡ get_or top i 0 → q ≡ get_or bottom i 0 → Passed top bottom i p q
passed top bottom i p q r h e f = record {
  inside = h;
  few = omega (arith, r.short);
  above = e;
  below = f;
  net = omega (arith, none_over top i r.above);
  other = omega (arith, none_over bottom i r.below);
}

-- so of numbers that are its pins
pub passed_as : (top bottom : List ℕ) (i p q r s : ℕ) → Passed top bottom i p q → r ≡ p → s ≡ q → Passed top bottom i r s
passed_as top bottom i p q r s w e f = rw (e, f) w
