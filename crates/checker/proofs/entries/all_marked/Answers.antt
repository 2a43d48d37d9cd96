-- `checker::entries::all_marked` meets its contract: as long as all hold, the entries passed are marked.
use native.Mathlib.Omega.{arith}
use Rattle.grid.proofs.Scanning.{none_over}
use Rattle.checker.proofs.entries.all_marked.Goals as goal

pub bounds-known-from : goal.bounds-known-from
bounds-known-from c = omega (arith, c.from.ensures, none_over c.args.layout.now c.loop-e.e-index c.requires)
