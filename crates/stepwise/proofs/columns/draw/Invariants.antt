use Rattle.stepwise.specs.Working.{DrawsOn}
use Rattle.router.specs.Answers.{formula_length}
use Rattle.router.specs.State.{Standing}
use lib.ListN.{length}
use mathlib.Core.List.{List}
use mathlib.Core.Path.{◌≡◌}
use Prim.Native.Nat.{ℕ, ◌≤◌}
use Rattle.stepwise.proofs.columns.draw.Given as goal

abbrev pub invariant-loop : goal.invariant-loop
invariant-loop l =
    (tp bt : List ℕ) → l.n ≡ length tp → formula_length l.n l.t ≤ length l.initial.layout
    → Standing tp bt l.t l.c l.upper l.lower l.first l.last l.initial.strands l.initial.free l.initial.low l.initial.high l.initial.many l.initial.extended
    → DrawsOn tp bt l.t l.c l.counter l.e l.upper l.lower l.first l.last l.strands l.free l.low l.high l.many l.extended l.initial.layout l.layout
