use lib.ListN.{length}
use Rattle.grid.proofs.Tables.{Counted}
use Rattle.grid.proofs.spans.count_pins.Given as goal

abbrev pub invariant-loop-p : goal.invariant-loop-p
invariant-loop-p l = Counted l.top l.bottom (length l.yielded) l.pins
