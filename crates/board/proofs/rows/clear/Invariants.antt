use mathlib.Core.Path.{◌≡◌}
use mathlib.Core.List.{◌++◌, map}
use lib.ListN.{take, drop}
use Rattle.board.proofs.Without.{rest_of}
use Rattle.board.proofs.rows.clear.Given as goal

abbrev pub invariant-loop-pin : goal.invariant-loop-pin
invariant-loop-pin l = l.row ≡ map (rest_of l.net) (take l.pin-index l.fn.row) ++ drop l.pin-index l.fn.row
