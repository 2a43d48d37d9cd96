use mathlib.Core.Path.{◌≡◌}
use lib.ListN.{get_or}
use lib.Dec.{eqb, ltb}
use Rattle.grid.specs.Working.{some_to}
use Rattle.grid.proofs.scan.tests.Given as goal

abbrev pub invariant-loop-k : goal.invariant-loop-k
invariant-loop-k l = (l.single ≡ some_to (λ u. eqb (get_or l.pins u 0) 1) l.k-index) × (l.three ≡ some_to (λ u. ltb 2 (get_or l.pins u 0)) l.k-index) × (l.four ≡ some_to (λ u. ltb 3 (get_or l.pins u 0)) l.k-index)
