use Rattle.router.specs.Working.{ClearedFrom, Frees, Among}
use Rattle.router.specs.Lent.{SameTracks}
use Prim.Native.Nat.{ℕ}
use Rattle.router.proofs.lent.Tracks.end_between.Given as goal

abbrev pub invariant-loop-y : goal.invariant-loop-y
invariant-loop-y l =
    SameTracks l.initial.self l.self
    × ((t : ℕ) → Among t l.a l.b l.initial.self.nets.now l.initial.self.free.now
    → ClearedFrom l.net l.a l.y l.initial.self.nets.now l.self.nets.now × Frees t l.self.nets.now l.self.free.now)
