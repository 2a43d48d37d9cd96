use mathlib.Core.Path.{◌≡◌}
use Rattle.record.specs.Record.{row, laid}
use Rattle.record.proofs.read_row.Given as goal

abbrev pub invariant-loop-i : goal.invariant-loop-i
invariant-loop-i l = l.out ≡ laid (row l.s l.at l.i) l.initial.out
