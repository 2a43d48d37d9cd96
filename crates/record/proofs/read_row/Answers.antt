use mathlib.Core.Path.{refl}
use native.Mathlib.Omega.{arith}
use Rattle.record.proofs.Rows.{laid_none, laid_more, laid_all}
use Rattle.record.proofs.read_row.Goals as goal

pub loop-i-init : goal.loop-i-init
loop-i-init c = laid_none _ _ _

pub loop-i-preserved : goal.loop-i-preserved
loop-i-preserved c = laid_more _ _ _ _ _ _ c.loop-i.invariant c.word.ensures (omega arith)

pub returns : goal.returns
returns c = laid_all _ _ _ _ _ _ c.loop-i.invariant (omega arith, refl)
