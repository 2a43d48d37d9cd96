-- The vertical entries of the column that an action draws.
use Prim.Native.Nat.{ℕ, zero, suc, ◌+◌, ◌<◌}
use mathlib.Core.Path.{◌≡◌, refl, ap, ◌∙◌}
use native.Mathlib.Omega.{arith}
use lib.ListN.{length, get_or}
use Rattle.grid.specs.Segments.{segment}
use Rattle.grid.proofs.Drawings.Segments.{Draws, draws_list}
use Rattle.sweep.specs.declared.Action.{Action}
use Rattle.sweep.specs.Tracks.{values_from, verticals}

-- a list of values, by index
pub get_or-listed : (k y i : ℕ) (f : ℕ → ℕ) → i < k → get_or (values_from k y f) i 0 ≡ f (y + i)
unfolding values_from
get_or-listed zero y i f h = absurd (omega arith)
get_or-listed (suc k) y zero f h = ap f (omega arith)
get_or-listed (suc k) y (suc i) f h = get_or-listed k (suc y) i f (omega arith) ∙ ap f (omega arith)

pub length-listed : (k y : ℕ) (f : ℕ → ℕ) → length (values_from k y f) ≡ k
unfolding values_from
length-listed zero y f = refl
length-listed (suc k) y f = ap suc (length-listed k (suc y) f)

-- a column of t tracks has t + 1 vertical entries
pub verticals-length : (t : ℕ) (x : Action) → length (verticals t x) ≡ t + 1
unfolding verticals
verticals-length t x = omega (arith, length-listed (suc t) 0 (segment x.wires))

-- they draw its wires
pub draws : (t : ℕ) (x : Action) → Draws t x.wires (λ y. get_or (verticals t x) y 0)
unfolding verticals
draws t x = draws_list t x.wires (verticals t x) (verticals-length t x)
    (λ y p. get_or-listed (suc t) 0 y (segment x.wires) (omega arith) ∙ ap (segment x.wires) (omega arith))
