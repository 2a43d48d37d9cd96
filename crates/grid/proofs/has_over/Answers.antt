-- `grid::has_over` meets its contract: it is the scan's.
use Rattle.grid.proofs.has_over.Goals as goal

pub returns : goal.returns
returns c = c.has_over.ensures
