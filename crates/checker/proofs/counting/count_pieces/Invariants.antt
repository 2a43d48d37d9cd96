use Rattle.checker.specs.Working.{Kept}
use Rattle.checker.proofs.counting.Pass.{ColumnsPassed}
use Rattle.checker.proofs.counting.count_pieces.Given as goal

abbrev pub invariant-loop-x : goal.invariant-loop-x
invariant-loop-x l =
    ColumnsPassed l.layout l.w l.t l.x l.b l.q l.lab l.counts.begun l.counts.joined × Kept l.t l.layout l.x 0 l.kept
