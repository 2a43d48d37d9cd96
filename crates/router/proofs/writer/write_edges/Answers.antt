-- `write_edges` meets its contract.
use Rattle.router.proofs.Laws.Columns.{written_none, written_next, written_all}
use Prim.Native.Nat.{◌+◌}
use native.Mathlib.Omega.{arith}
use Rattle.router.proofs.writer.write_edges.Goals as goal

pub loop-k-init : goal.loop-k-init
loop-k-init g c f h = written_none f c.args.part.now (c.args.t + 1)

pub loop-k-preserved : goal.loop-k-preserved
loop-k-preserved g c f h =
    let o = c.args in
    let l = c.loop-k in
    written_next f o.part.now (o.t + 1) l.k l.part _ (l.invariant f h) (h l.k _ (omega arith) c.edge.ensures) (omega arith) (omega arith)

pub returns : goal.returns
returns g c f h =
    let o = c.args in
    let l = c.loop-k in
    written_all f o.part.now (o.t + 1) l.k l.part (l.invariant f h) (omega arith)
