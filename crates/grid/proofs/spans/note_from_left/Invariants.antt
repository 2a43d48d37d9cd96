use Rattle.grid.proofs.Tables.{Counted, Noted}
use Rattle.grid.proofs.spans.note_from_left.Given as goal

abbrev pub invariant-loop-i : goal.invariant-loop-i
invariant-loop-i l = Noted l.top l.bottom l.i l.last × Counted l.top l.bottom l.i l.pins
