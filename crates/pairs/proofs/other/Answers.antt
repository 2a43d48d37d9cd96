-- `other` meets its contract.
use native.Mathlib.Omega.{arith}
use Rattle.pairs.proofs.Laws.{least_other, least_next}
use Prim.Native.Nat.{ℕ, ◌%◌}
use mathlib.Core.Path.{◌≡◌, subst}
use native.Mathlib.Omega.{arith}
use Rattle.sets.specs.Member.{member}
use Rattle.pairs.specs.Working.{LeastAbove}
use Rattle.pairs.proofs.other.Goals as goal

pub returns-then-v-d : goal.returns-then-v-d
returns-then-v-d c =
    let v = c.above-v in
    let e : v.result % 512 ≡ c.args.d = omega (arith, c.if-v-d.true, v.ensures.small) in
    least_next c.args.lone.now c.args.d c.above.result
    (subst (λ (z : ℕ). LeastAbove (member c.args.lone.now) 0 z) c.if-v-d.true v.ensures)
    (subst (λ (z : ℕ). LeastAbove (member c.args.lone.now) z c.above.result) e c.above.ensures)

pub returns-else-v-d : goal.returns-else-v-d
returns-else-v-d c =
    least_other c.args.lone.now c.args.d c.above-v.result c.above-v.ensures c.if-v-d.false
