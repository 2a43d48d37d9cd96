-- `checker::ends::lowest_alone` meets its contract: nets only cross, or the least of the four.
use Rattle.checker.proofs.ends.Alone.{alone_crossing}
use Rattle.checker.proofs.ends.lowest_alone.Goals as goal

pub returns-then-left-right : goal.returns-then-left-right
returns-then-left-right c = alone_crossing _ _ _ _ c.if-below-above.true c.if-left-right.true
