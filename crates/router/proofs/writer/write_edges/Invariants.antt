use Rattle.router.proofs.Laws.Columns.{Written}
use Prim.Native.Nat.{ℕ, ◌+◌, ◌≤◌}
use mathlib.Core.Path.{◌≡◌}
use Rattle.router.proofs.writer.write_edges.Given as goal

abbrev pub invariant-loop-k : goal.invariant-loop-k
invariant-loop-k g l =
    (f : ℕ → ℕ) → ((k r : ℕ) → k ≤ l.t → goal.F-post g l.edge k r → r ≡ f k) → Written f l.initial.part (l.t + 1) l.k l.part
