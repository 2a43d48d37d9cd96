-- `mark` meets its contract.
use mathlib.Core.Path.{ap₂}
use Prim.Native.Nat.{ℕ}
use mathlib.Core.Bool.{◌&&◌}
use lib.Dec.{eqb}
use Rattle.pairs.proofs.Laws.{none_told, put_told}
use Rattle.pairs.proofs.mark.Goals as goal

pub returns-then-v-eq0 : goal.returns-then-v-eq0
returns-then-v-eq0 c h z =
    none_told c.args.many.now c.args.mates.now c.args.lone.now c.args.v c.if-v-eq0.true z

pub returns : goal.returns
returns c h z =
    put_told c.args.many.now c.args.mates.now c.args.lone.now _ c.args.v _ c.if-v-eq0.false h
    (ap₂ (λ (x y : ℕ). eqb x 2 && eqb y 0) c.entry.ensures c.entry-2.ensures) (rw c.from.ensures at c.put.ensures)
