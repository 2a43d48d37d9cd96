-- `count_by_two` meets its contract: the places passed are counted.
use mathlib.Core.Path.{refl}
use native.Mathlib.Omega.{arith}
use Rattle.widest.specs.Widest.{by_two}
use Rattle.widest.proofs.Filling.{by_two_more}
use Rattle.widest.proofs.count_by_two.Goals as goal

pub loop-pin-init : goal.loop-pin-init
unfolding by_two
loop-pin-init c = (omega arith, refl)

pub loop-pin-preserved : goal.loop-pin-preserved
loop-pin-preserved c =
    let h = c.loop-pin in
    (omega arith, by_two_more c.args.first h.pin-index h.net h.part (omega arith) h.invariant.0 h.invariant.1)
