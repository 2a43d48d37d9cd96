-- `checker::ends::is_alone` meets its contract: the tests are those of `alone`.
use mathlib.Core.Path.{refl}
use Rattle.checker.specs.Working.{alone}
use Rattle.checker.proofs.ends.is_alone.Goals as goal

pub returns : goal.returns
unfolding alone
returns c = refl
