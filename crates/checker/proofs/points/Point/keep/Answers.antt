-- `checker::points::Point::keep` meets its contract: the lower net is kept.
use Rattle.checker.proofs.counting.Positions.{column_is}
use Rattle.checker.proofs.ends.Kept.{kept_new, kept_old}
use Rattle.checker.proofs.points.Point.keep.Goals as goal

pub returns-then-net-kept : goal.returns-then-net-kept
returns-then-net-kept c =
    let p = c.args.self in
    kept_new (column_is p.column) p.row _ c.requires _ c.lowest_net-net.ensures c.if-net-kept.true

pub returns : goal.returns
returns c =
    let p = c.args.self in
    kept_old (column_is p.column) p.row _ c.requires _ c.lowest_net-net.ensures c.if-net-kept.false
