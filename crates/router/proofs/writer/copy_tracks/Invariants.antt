use Prim.Native.Nat.{◌+◌}
use mathlib.Core.Path.{◌≡◌}
use lib.ListN.{length, drop}
use lib.Seq.{paste}
use Rattle.router.proofs.writer.copy_tracks.Given as goal

abbrev pub invariant-loop-i : goal.invariant-loop-i
invariant-loop-i l =
    length l.tracks.nets.now ≡ 512 → l.part ≡ paste l.initial.part (l.t + 1) (drop 1 l.tracks.nets.now) l.i
