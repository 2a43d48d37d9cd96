use Prim.Native.Nat.{◌*◌}
use Rattle.sets.specs.Member.{Clear}
use Rattle.sets.proofs.from_word.Given as goal

abbrev pub invariant-loop-w : goal.invariant-loop-w
invariant-loop-w l = Clear l.s (l.i * 64) (l.w * 64)
