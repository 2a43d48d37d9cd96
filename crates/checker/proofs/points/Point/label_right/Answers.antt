-- `checker::points::Point::label_right` meets its contract: the right edge of a point.
use Rattle.checker.proofs.counting.Positions.{column_at}
use Rattle.checker.proofs.counting.Step.{right_given}
use Rattle.checker.proofs.points.Point.label_right.Goals as goal

pub returns : goal.returns
returns c =
    let p = c.args.self in
    let r =
    right_given _ _ _ _ (column_at p.column) _ p.row _ _ _ _ _ _ _ _ _ _ c.requires.labels_up p.below_is p.left_is p.above_is p.right_is c.choose-o.ensures
    c.choose-p.ensures c.choose-rl.ensures _ _ c.begin.ensures.counted
    in
    record { labels_right = r.0; begins_right = r.1; joined = c.begin.ensures.joined }
