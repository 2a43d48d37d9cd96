use Prim.Native.Nat.{◌+◌}
use mathlib.Core.Path.{◌≡◌}
use lib.ListN.{get_or}
use Rattle.checker.specs.Working.{Crossings}
use Rattle.checker.proofs.counting.next_meeting.Given as goal

abbrev pub invariant-loop-k : goal.invariant-loop-k
invariant-loop-k l = (get_or l.layout (l.b + l.k) 0 ≡ l.vd) × Crossings l.layout l.t l.b l.q l.j l.k
