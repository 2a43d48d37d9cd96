use mathlib.Core.Path.{◌≡◌}
use Rattle.grid.specs.Nets.{first_to}
use Rattle.board.proofs.rows.first_column.Given as goal

abbrev pub invariant-loop-c : goal.invariant-loop-c
invariant-loop-c l = first_to l.top l.bottom l.net l.c ≡ 0
