-- `start` meets its contract: zeros in all places are the board of the empty channel.
use Rattle.board.proofs.Stored.{start_made, start_too_wide}
use Rattle.board.proofs.start.Goals as goal

pub returns-then-n-gt256 : goal.returns-then-n-gt256
returns-then-n-gt256 c =
    let p = start_too_wide c.args.n c.no_row.result c.no_row-2.result c.no_row-3.result
    c.no_row.ensures c.no_row-2.ensures c.no_row-3.ensures c.if-n-gt256.true in
    record { number = p.0; board = p.1 }

pub returns : goal.returns
returns c =
    let p = start_made c.args.n c.no_row.result c.no_row-2.result c.no_row-3.result
    c.no_row.ensures c.no_row-2.ensures c.no_row-3.ensures c.if-n-gt256.false in
    record { number = p.0; board = p.1 }
