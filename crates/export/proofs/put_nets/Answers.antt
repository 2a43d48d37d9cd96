-- `put_nets` meets its contract: the numbers of the records passed stand in front of the old ones.
use mathlib.Core.Path.{refl}
use Rattle.export.proofs.Figures.{none_put, one_put, all_put}
use native.Mathlib.Omega.{arith}
use Rattle.export.proofs.put_nets.Goals as goal

pub loop-k-init : goal.loop-k-init
loop-k-init c = none_put c.args.nets.now c.args.figures.now

pub loop-k-preserved : goal.loop-k-preserved
loop-k-preserved c = one_put c.args.nets.now c.args.figures.now c.loop-k.figures c.loop-k.k c.loop-k.invariant _ _ _ (omega arith) (omega arith) c.copy_from_slice.ensures.after refl

pub returns : goal.returns
returns c = all_put c.args.nets.now c.args.figures.now c.loop-k.figures c.loop-k.k c.loop-k.invariant (omega arith)
