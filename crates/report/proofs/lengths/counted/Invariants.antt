use Prim.Native.Nat.{◌+◌, ◌-◌, ◌≤◌}
use lib.ListN.{length}
use Rattle.report.specs.Working.{CountedTo}
use Rattle.report.proofs.lengths.counted.Given as goal

abbrev pub invariant-loop-i : goal.invariant-loop-i
invariant-loop-i l = (l.i ≤ length l.layout + 3) × CountedTo l.layout l.i l.a l.b l.c l.d

abbrev pub decreases-loop-i : goal.decreases-loop-i
decreases-loop-i l = length l.layout - l.i
