-- `checker::counting::find_in_pieces` meets its contract: no net below `n` has more than one piece by the counts.
use native.Mathlib.Omega.{arith}
use Rattle.checker.proofs.Least.{none_more, first_found, first_none}
use Rattle.checker.proofs.counting.Splits.{in_pieces_zero, in_pieces_yes, in_pieces_not}
use Rattle.checker.proofs.counting.find_in_pieces.Goals as goal

pub loop-n-init : goal.loop-n-init
loop-n-init c = in_pieces_zero _ _

pub returns-then-counts-n : goal.returns-then-counts-n
returns-then-counts-n c =
    first_found _ _ _ c.loop-n.invariant c.loop-n-test.true
    (in_pieces_yes _ _ _ (omega (arith, c.loop-n.auto)) (omega (arith, c.if-counts-n.true)))

pub loop-n-preserved : goal.loop-n-preserved
loop-n-preserved c = none_more _ _ c.loop-n.invariant (in_pieces_not _ _ _ c.if-counts-n.false)

pub returns : goal.returns
returns c = first_none _ _ _ c.loop-n.invariant c.loop-n-test.false
