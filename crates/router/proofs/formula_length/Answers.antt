-- `formula_length` meets its contract.
use Rattle.router.proofs.Laws.Calls.{area}
use Prim.Native.Nat.{◌+◌, ◌/◌}
use native.Mathlib.Omega.{arith}
use Rattle.router.proofs.formula_length.Goals as goal

pub overflow_mul-result-2 : goal.overflow_mul-result-2
overflow_mul-result-2 c = omega (arith, area (c.args.n + c.args.t / 2) c.args.t (omega arith) c.requires.1)
