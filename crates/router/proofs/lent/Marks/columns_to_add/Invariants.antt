use Rattle.router.proofs.Laws.Onward.{reached, Passed}
use Rattle.sets.specs.Member.{member}
use mathlib.Core.Bool.{true}
use mathlib.Core.Path.{◌≡◌}
use Prim.Native.Nat.{◌-◌, ◌≤◌}
use Rattle.router.proofs.lent.Marks.columns_to_add.Given as goal

abbrev pub invariant-loop-v : goal.invariant-loop-v
invariant-loop-v l = (l.v ≤ 256) × Passed l.self.extended.now l.k (reached l.v) × ((l.v ≡ 0 → ⊥) → member l.self.extended.now l.v ≡ true)

abbrev pub decreases-loop-v : goal.decreases-loop-v
decreases-loop-v l = 256 - reached l.v
