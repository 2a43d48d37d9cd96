-- `checker::points::Point::label_up` meets its contract: the upper edge of a point.
use Rattle.checker.proofs.counting.Positions.{column_at}
use Rattle.checker.proofs.counting.Step.{up_given}
use Rattle.checker.proofs.points.Point.label_up.Goals as goal

pub returns : goal.returns
returns c =
    let p = c.args.self in
    let r =
    up_given _ _ _ _ (column_at p.column) _ p.row _ _ _ _ _ _ _ c.requires.labels_left p.below_is p.left_is p.above_is c.choose-o.ensures c.choose-ul.ensures
    _ _ c.begin.ensures.counted
    in
    record { labels_up = r.0; begins_up = r.1; joined = c.begin.ensures.joined }
