-- `is_short` meets its contract: a slice of the formula's length is long enough.
use Rattle.router.proofs.Laws.Calls.{formula_enough}
use Rattle.grid.proofs.Tests.{le-ltb}
use lib.Dec.{ltb}
use mathlib.Core.Path.{ap, sym}
use Prim.Native.Nat.{ℕ}
use native.Mathlib.Omega.{arith}
use Rattle.router.proofs.is_short.Goals as goal

pub returns-then-enough-lent : goal.returns-then-enough-lent
returns-then-enough-lent c =
    sym (le-ltb c.args.lent _ (formula_enough c.args.top.now c.args.bottom.now c.args.plan.now.t c.args.lent c.requires.narrow (omega (arith, c.if-enough-lent.true, c.formula_length-enough.ensures))))

pub slice_length-needed-requires : goal.slice_length-needed-requires
slice_length-needed-requires c = c.requires

pub returns : goal.returns
returns c = ap (λ (m : ℕ). ltb c.args.lent m) c.slice_length-needed.ensures
