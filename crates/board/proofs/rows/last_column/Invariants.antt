use mathlib.Core.Path.{◌≡◌}
use Rattle.grid.specs.Nets.{last_to, last_column}
use Rattle.board.proofs.rows.last_column.Given as goal

abbrev pub invariant-loop-c : goal.invariant-loop-c
invariant-loop-c l = last_column l.top l.bottom l.net ≡ last_to l.top l.bottom l.net l.c
