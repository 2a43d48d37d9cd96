use Prim.Native.Nat.{◌≤◌, ◌-◌}
use Rattle.checker.specs.Points.{StateAt, KeptBefore}
use Rattle.checker.proofs.counting.pass_column.Given as goal

abbrev pub invariant-loop-j : goal.invariant-loop-j
invariant-loop-j l =
    record { within : l.j ≤ l.column.t; state : StateAt l.column l.j l.vl l.lab l.counts; kept : KeptBefore l.column l.j l.kept }

abbrev pub decreases-loop-j : goal.decreases-loop-j
decreases-loop-j l = l.column.t - l.j
