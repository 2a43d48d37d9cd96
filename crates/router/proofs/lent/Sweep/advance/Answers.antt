-- `advance` meets its contract: the column's action, and the gap that it leaves.
use Rattle.router.proofs.Laws.Steps
use mathlib.Core.Path.{ap}
use Rattle.sweep.specs.declared.Move.{Move}
use Rattle.router.proofs.lent.Sweep.advance.Goals as goal

pub column_at-x-requires : goal.column_at-x-requires
column_at-x-requires c = c.requires

pub settle-requires : goal.settle-requires
settle-requires c =
    c.requires.2

pub returns : goal.returns
returns c =
    record {
      advanced = λ top bottom ep eq r f g.
          let i = c.args.c in
          let x = c.column_at-x in
          let k = Steps.keeps_own g.keeps in
          let m = Steps.mated_own g.mated in
          let e = x.ensures top bottom ep eq r k m in
          let s = c.settle.ensures.settled top bottom ep eq (Steps.rows_and_lasts r) k m (Steps.fitting_at top bottom i x.result g r.is e f) in (
            ap (λ (z : Move). z.action) (Steps.move_at_lem top bottom i x.result g r.is e),
            Steps.at_gap_next top bottom i x.result g r.is e s.0 s.1,
          );
      lent = c.settle.ensures.lent;
    }
