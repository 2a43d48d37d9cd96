use mathlib.Core.Path.{◌≡◌}
use Rattle.grid.specs.Channel.{first_two_to}
use Rattle.grid.proofs.families.first_two.Given as goal

abbrev pub invariant-loop-i : goal.invariant-loop-i
invariant-loop-i l = l.found ≡ first_two_to l.top l.bottom l.i
