-- `report::lengths::none` meets its contract: zeros, by their definition.
use borrow.Author.Rules.{rules}
use Rattle.grid.specs.Nets.{zero_table}
use Rattle.report.proofs.lengths.none.Goals as goal

pub returns : goal.returns
unfolding zero_table
returns c = search rules
