-- `joint_at` meets its contract.
use Prim.Native.Nat.{◌<◌}
use Rattle.router.specs.Working
use native.Mathlib.Omega.{arith}
use borrow.Author.Tests.{eq-eqb, ne_eqb, lt-ltb, le-ltb}
use Rattle.router.proofs.lent.Strands.joint_at.Goals as goal

pub returns-then-v-eq0 : goal.returns-then-v-eq0
unfolding Working.joint_by
returns-then-v-eq0 c t h = simp (eq-eqb _ _ c.if-v-eq0.true)

pub returns-then-plan-i : goal.returns-then-plan-i
unfolding Working.joint_by
returns-then-plan-i c t h = simp (ne_eqb _ _ c.if-v-eq0.false, c.from-i.ensures, le-ltb _ _ (rw c.from-i.ensures at c.if-plan-i.true))

pub returns : goal.returns
unfolding Working.joint_by
returns c t h =
    let left = c.if-v-eq0.false in
    let v = c.args.v in
    let some : 0 < v = omega (arith, left) in
    let e = c.from-i.ensures in
    simp (
      ne_eqb _ _ left,
      e,
      lt-ltb _ _ (rw e at c.if-plan-i.false),
      rw e at c.second_of-next.ensures t h.fits h.sized (h.lows.at v some c.requires.1) (h.highs.at v some c.requires.1),
    )
