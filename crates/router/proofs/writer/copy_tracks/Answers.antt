-- `copy_tracks` meets its contract.
use Rattle.router.proofs.Laws.Columns.{copied}
use native.Mathlib.Omega.{arith}
use Rattle.router.proofs.writer.copy_tracks.Goals as goal

pub loop-i-preserved : goal.loop-i-preserved
loop-i-preserved c e =
    let o = c.args in
    let l = c.loop-i in
    copied o.part.now o.tracks.now.nets.now _ o.t l.i (l.invariant e) (omega arith) (omega arith)
