-- `columns_to_add` meets its contract. The invariant: k nets of the set are below v, the next one, or 0 after the last.
use Rattle.router.proofs.Laws.Onward.{reached, reached_below, Passed, passed_first, passed_next}
use Rattle.grid.proofs.Sums.{count_le}
use Rattle.sets.specs.Member.{member}
use mathlib.Core.Path.{subst}
use Prim.Native.Nat.{ℕ}
use native.Mathlib.Omega.{arith}
use Rattle.router.proofs.lent.Marks.columns_to_add.Goals as goal

pub loop-v-init : goal.loop-v-init
loop-v-init c =
    let z = passed_first c.args.self.now.extended.now c.requires c.lowest_net-v.result c.lowest_net-v.ensures in
    (z.small, z.upto, z.found)

pub overflow_add-k : goal.overflow_add-k
overflow_add-k c =
    let l = c.loop-v in
    omega (arith, l.invariant.1, count_le (member c.args.self.now.extended.now) (reached l.v), reached_below l.v c.loop-v-test.true, l.invariant.0)

pub next_net-v-requires : goal.next_net-v-requires
next_net-v-requires c = c.loop-v.invariant.0

pub loop-v-smaller : goal.loop-v-smaller
loop-v-smaller c =
    let l = c.loop-v in
    let t = c.loop-v-test.true in
    let z = passed_next c.args.self.now.extended.now c.requires l.k l.v c.next_net-v.result t l.invariant.0 (l.invariant.2 t) l.invariant.1 c.next_net-v.ensures in
    omega (arith, z.onward, reached_below l.v t, l.invariant.0)

pub loop-v-preserved : goal.loop-v-preserved
loop-v-preserved c =
    let l = c.loop-v in
    let t = c.loop-v-test.true in
    let z = passed_next c.args.self.now.extended.now c.requires l.k l.v c.next_net-v.result t l.invariant.0 (l.invariant.2 t) l.invariant.1 c.next_net-v.ensures in
    (z.small, z.upto, z.found)

pub returns : goal.returns
returns c =
    let l = c.loop-v in
    subst (λ (z : ℕ). Passed c.args.self.now.extended.now l.k (reached z)) c.loop-v-test.false l.invariant.1
