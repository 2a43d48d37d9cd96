-- `grid::no_row` meets its contract: by computation.
use mathlib.Core.Path.{refl}
use Rattle.grid.specs.Places.{no_row}
use Rattle.grid.proofs.no_row.Goals as goal

pub returns : goal.returns
unfolding no_row
returns c = refl
