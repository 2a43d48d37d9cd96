-- `all_free` meets its contract. The invariant: s is the set of i free tracks.
use Rattle.router.proofs.Laws.Arrays.{free_none, free_more}
use native.Mathlib.Omega.{arith}
use Rattle.router.proofs.index.all_free.Goals as goal

pub loop-i-init : goal.loop-i-init
loop-i-init c = free_none c.empty-s.result c.empty-s.ensures

pub loop-i-preserved : goal.loop-i-preserved
loop-i-preserved c = free_more c.loop-i.i c.loop-i.s c.insert.new.s (omega arith) c.loop-i.invariant c.insert.ensures
