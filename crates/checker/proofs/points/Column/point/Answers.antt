-- `checker::points::Column::point` meets its contract: the position of the left edge fits.
use native.Mathlib.Omega.{arith}
use Rattle.checker.proofs.counting.Positions.{column_at, small_left}
use Rattle.checker.proofs.points.Column.point.Goals as goal

pub overflow_add-q : goal.overflow_add-q
overflow_add-q c = omega (arith, small_left _ _ _ _ (column_at c.args.self) _ c.requires)
