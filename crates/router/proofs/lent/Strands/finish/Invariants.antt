use Rattle.router.proofs.Laws.Onward.{reached}
use Rattle.router.proofs.Laws.Added.{Upto}
use Rattle.router.specs.Lent.{on}
use Rattle.sweep.specs.Drawing.{remains}
use lib.ListN.{length}
use mathlib.Core.Bool.{true}
use mathlib.Core.Path.{◌≡◌}
use Prim.Native.Nat.{◌-◌, ◌≤◌}
use Rattle.router.proofs.lent.Strands.finish.Given as goal

abbrev pub invariant-loop-v : goal.invariant-loop-v
invariant-loop-v l =
    (l.v ≤ 256) × Upto l.t l.n (on l.t l.initial.self) l.initial.layout (reached l.v) l.w l.layout l.self.tracks.nets.now l.self.tracks.free.now l.self.low.now l.self.high.now l.self.many.now × ((l.v ≡ 0 → ⊥) → remains (on l.t l.initial.self) l.v ≡ true) × (length l.layout ≡ length l.initial.layout)

abbrev pub decreases-loop-v : goal.decreases-loop-v
decreases-loop-v l =
    256 - reached l.v
