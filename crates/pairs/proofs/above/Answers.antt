-- `above` meets its contract.
use native.Mathlib.Omega.{arith}
use Prim.Native.Nat.{◌%◌}
use mathlib.Core.Path.{refl}
use native.Mathlib.Omega.{arith}
use Rattle.pairs.proofs.Laws.{least_above}
use Rattle.pairs.proofs.above.Goals as goal

pub returns : goal.returns
returns c = least_above c.args.s.now (c.args.v % 512) c.above.result (c.above.result % 512) (omega arith) (rw c.from.ensures at c.above.ensures) refl
