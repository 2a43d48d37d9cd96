-- `checker::points::Point::lowest_net` meets its contract: its four entries are those of the drawing.
use Rattle.checker.specs.Working.{lowest_point}
use Rattle.checker.proofs.points.Point.lowest_net.Goals as goal

pub returns : goal.returns
unfolding lowest_point
returns c =
    let p = c.args.self in
    rw (c.lowest_alone.ensures, p.below_is, p.left_is, p.above_is, p.right_is)
