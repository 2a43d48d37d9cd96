-- `write_at` meets its contract.
use Rattle.router.proofs.Laws.Steps.{part_written}
use Rattle.router.proofs.writer.write_at.Goals as goal

pub returns : goal.returns
returns c e =
    let a = c.args in
    part_written a.t a.at a.x _ a.layout.now _ (c.write_column.ensures e)
