use mathlib.Core.Path.{◌≡◌}
use Rattle.grid.specs.Channel.{open_at, largest}
use Rattle.grid.proofs.gaps.largest_count.Given as goal

abbrev pub invariant-loop-i : goal.invariant-loop-i
invariant-loop-i l = (l.here ≡ open_at l.top l.bottom l.i) × (l.most ≡ largest l.top l.bottom l.i)
