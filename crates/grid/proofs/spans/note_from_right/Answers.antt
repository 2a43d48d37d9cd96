-- `grid::spans::note_from_right` meets its contract: the columns passed are noted.
use Prim.Native.Nat.{◌-◌}
use mathlib.Core.Path.{refl}
use lib.ListN.{length, length-set}
use Rattle.grid.proofs.Scanning.{Passed, passed, none_over}
use Rattle.grid.proofs.Tables.{noted_after_none, noted_after_column, noted_after_all}
use native.Mathlib.Omega.{arith}
use Rattle.grid.proofs.spans.note_from_right.Goals as goal
use Rattle.grid.proofs.spans.note_from_right.Goals.{After-from-in-loop-i}

-- the column of this turn, with its pins as indices
pins : (c : After-from-in-loop-i) → Passed c.args.top.now c.args.bottom.now (c.loop-i.i - 1) c.from.result c.from-in-loop-i.result
pins c = passed _ _ _ _ _ c.requires.0 (omega arith) c.from.ensures c.from-in-loop-i.ensures

pub loop-i-init : goal.loop-i-init
loop-i-init c = noted_after_none c.args.top.now c.args.bottom.now (length c.args.top.now) c.args.first.now refl c.requires.1

pub bounds-first-from : goal.bounds-first-from
bounds-first-from c = omega (arith, c.from.ensures, none_over c.args.top.now (c.loop-i.i - 1) c.requires.0.above, c.loop-i.invariant.size)

pub bounds-first-from-in-loop-i : goal.bounds-first-from-in-loop-i
bounds-first-from-in-loop-i c = simp length-set (omega (arith, (pins c).other, c.loop-i.invariant.size))

pub loop-i-preserved : goal.loop-i-preserved
loop-i-preserved c = noted_after_column _ _ _ _ c.loop-i.invariant (c.loop-i.i - 1) _ _ _ (omega arith) (omega arith) (pins c)

pub returns : goal.returns
returns c = noted_after_all _ _ _ _ c.loop-i.invariant (omega arith)
