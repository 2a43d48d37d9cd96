use Rattle.grid.proofs.Tables.{NotedAfter}
use Rattle.grid.proofs.spans.note_from_right.Given as goal

abbrev pub invariant-loop-i : goal.invariant-loop-i
invariant-loop-i l = NotedAfter l.top l.bottom l.i l.first
