use Prim.Native.Nat.{◌+◌, ◌*◌}
use mathlib.Core.Path.{◌≡◌}
use lib.ListN.{take}
use Rattle.widest.specs.Widest.{by_two}
use Rattle.widest.proofs.count_by_two.Given as goal

abbrev pub invariant-loop-pin : goal.invariant-loop-pin
invariant-loop-pin l = (l.net ≡ l.first + 2 * l.pin-index) × (take l.pin-index l.part ≡ by_two l.first l.pin-index)
