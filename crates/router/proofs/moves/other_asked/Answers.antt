-- `other_asked` meets its contract, which says nothing where the column does not ask.
use Rattle.grid.proofs.Tests.{not_both}
use Rattle.router.proofs.moves.other_asked.Goals as goal

pub returns-else-asks : goal.returns-else-asks
returns-else-asks c = λ e. absurd (not_both e c.if-asks.false)
