use Prim.Native.Nat.{◌+◌, ◌*◌}
use Rattle.checker.specs.Check.{mispinned}
use Rattle.checker.proofs.Least.{NoneBelow}
use Rattle.checker.proofs.entries.find_pin.Given as goal

abbrev pub invariant-loop-x : goal.invariant-loop-x
invariant-loop-x l = NoneBelow (mispinned l.top l.bottom l.t l.layout) (l.x * (2 * l.t + 1))
