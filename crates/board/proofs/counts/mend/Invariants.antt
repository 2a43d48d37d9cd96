use Prim.Native.Nat.{ℕ, ◌≤◌, max}
use Rattle.board.specs.Working.{Mended}
use Rattle.board.proofs.counts.mend.Given as goal

abbrev pub invariant-loop-gap : goal.invariant-loop-gap
invariant-loop-gap g l = (l.gap ≤ max l.first l.last) × Mended l.first l.gap (λ (x y : ℕ). g.F.Fn.post l.change (x, tt) y) l.initial.counts l.counts
