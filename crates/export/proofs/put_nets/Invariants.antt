use Prim.Native.Nat.{◌*◌}
use mathlib.Core.Path.{◌≡◌}
use mathlib.Core.List.{◌++◌}
use lib.ListN.{take, drop}
use Rattle.export.specs.Export.{flat}
use Rattle.export.proofs.put_nets.Given as goal

abbrev pub invariant-loop-k : goal.invariant-loop-k
invariant-loop-k l = l.figures ≡ flat (take l.k l.nets) ++ drop (4 * l.k) l.initial.figures
