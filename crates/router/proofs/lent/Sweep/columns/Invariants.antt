use Rattle.router.specs.Working.{Reads, FitsFrom, DrawnTo}
use Rattle.router.specs.Lent.{SameSweep, Planned, At}
use lib.ListN.{length}
use mathlib.Core.Path.{◌≡◌}
use mathlib.Core.List.{List}
use Prim.Native.Nat.{ℕ}
use Rattle.router.proofs.lent.Sweep.columns.Given as goal

abbrev pub invariant-loop-i : goal.invariant-loop-i
invariant-loop-i l =
    let p = l.initial.self.plan in
    (length l.layout ≡ length l.initial.layout) × SameSweep l.initial.self l.self
    × ((tp bt : List ℕ) → Reads l.top tp → Reads l.bottom bt → Planned tp bt p → FitsFrom p.t tp bt l.from l.to
    → At tp bt p l.from l.initial.self
    → At tp bt p l.i l.self
    × ((d : List ℕ) → DrawnTo l.drawing tp bt p.t l.from d l.initial.layout → DrawnTo l.drawing tp bt p.t l.i d l.layout))
