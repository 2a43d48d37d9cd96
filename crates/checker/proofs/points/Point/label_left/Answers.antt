-- `checker::points::Point::label_left` meets its contract: the left edge of a point.
use mathlib.Core.Path.{refl}
use Rattle.checker.proofs.counting.Positions.{column_at}
use Rattle.checker.proofs.counting.Step.{left_given}
use Rattle.checker.proofs.points.Point.label_left.Goals as goal

pub returns : goal.returns
returns c =
    let p = c.args.self in
    let r =
    left_given _ _ _ _ (column_at p.column) _ p.row _ _ _ _ _ _ c.requires.labels p.below_is p.left_is refl c.choose-nl.ensures _ _ _ c.merge.ensures
    c.join.ensures.counted
    in
    record { labels_left = r.0; labs = r.1.0; joins_left = r.1.1; begun = c.join.ensures.begun }
