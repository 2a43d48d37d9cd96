-- `grid::zeros` meets its contract: by computation.
use mathlib.Core.Path.{refl}
use Rattle.grid.specs.Nets.{zero_table}
use Rattle.grid.proofs.zeros.Goals as goal

pub returns : goal.returns
unfolding zero_table
returns c = refl
