-- `net_to_join` meets its contract.
use Rattle.router.specs.Working.{Next}
use mathlib.Core.Path.{subst}
use Prim.Native.Nat.{ℕ}
use mathlib.Core.Logic.{inl, inr}
use Rattle.router.proofs.lent.Marks.net_to_join.Goals as goal

pub returns-then-v-eq0 : goal.returns-then-v-eq0
returns-then-v-eq0 c = inr (subst (λ (r : ℕ). Next c.args.self.now.extended.now 0 r) c.if-v-eq0.true c.lowest_net-v.ensures, c.lowest_net.ensures)

pub returns : goal.returns
returns c = inl (c.lowest_net-v.ensures, c.if-v-eq0.false)
